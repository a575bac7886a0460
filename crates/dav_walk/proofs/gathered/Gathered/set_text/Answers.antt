use Rattle.std.proofs.Common.{ap, sym, ◌∙◌, set, get_or, arith}
use Rattle.dav_walk.specs.declared.node.Node.{Node}
use Rattle.dav_walk.specs.View.{items_of}
use Rattle.dav_walk.specs.Gathering.{with_text}
use Rattle.dav_walk.proofs.GatheredLemmas.{items_kept, text_set, text_past, items_length}
use Rattle.dav_walk.proofs.gathered.Gathered.set_text.Goals as goal

pub returns-then-place-len : goal.returns-then-place-len
returns-then-place-len c =
    let nodes = c.self.inside.nodes.items in
    let text = c.self.inside.text.items in
    let d = c.index_mut-node.result.now in
    let s = c.in_ok-text.text in
    ap (λ (m : Node). items_of (set nodes c.args.place (record { depth = m.depth; ns = m.ns; name = m.name; text = s })) c.append.new.text.items) c.index_mut-node.ensures.value
    ∙ ap (items_of (set nodes c.args.place (record { depth = (get_or nodes c.args.place d).depth; ns = (get_or nodes c.args.place d).ns; name = (get_or nodes c.args.place d).name; text = s }))) c.in_ok-text.ensures.text
    ∙ text_set nodes c.args.place text c.args.bytes.now s d c.self.invariant.within c.in_ok-text.ensures.at c.in_ok-text.ensures.len (omega arith)
    ∙ ap (with_text c.args.place c.args.bytes.now) c.self.view_is

pub returns-else-place-len : goal.returns-else-place-len
returns-else-place-len c =
    let nodes = c.self.inside.nodes.items in
    let text = c.self.inside.text.items in
    ap (items_of nodes) c.in_ok-text.ensures.text
    ∙ items_kept nodes text c.args.bytes.now c.self.invariant.within
    ∙ sym (text_past (items_of nodes text) c.args.place c.args.bytes.now (omega (arith, items_length nodes text)))
    ∙ ap (with_text c.args.place c.args.bytes.now) c.self.view_is
