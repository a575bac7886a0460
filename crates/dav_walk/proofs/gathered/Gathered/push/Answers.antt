use Rattle.std.proofs.Common.{◌≡◌, ap, ◌∙◌, [], ◌∷◌, ◌++◌, length, refl}
use Rattle.dav_walk.specs.declared.node.Node.{Node}
use Rattle.dav_walk.specs.Tree.{Item}
use Rattle.dav_walk.specs.View.{items_of}
use Rattle.dav_walk.proofs.GatheredLemmas.{item_added}
use Rattle.dav_walk.proofs.gathered.Gathered.push.Goals as goal

pub returns : goal.returns
returns c =
    let nodes = c.self.inside.nodes.items in
    let text = c.self.inside.text.items in
    let n : Node = record { depth = c.args.depth; ns = c.in_ok-ns.ns; name = c.in_ok-name.name; text = record { at = 0; len = 0 } } in
    let e : c.push.new.self.items ≡ nodes ++ (n ∷ []) = c.in_ok-push.ensures.items in
    let t : c.append-2.new.text.items ≡ (text ++ c.args.ns.now) ++ c.args.name.now = c.in_ok-name.ensures.text ∙ ap (λ s. s ++ c.args.name.now) c.in_ok-ns.ensures.text in
    let x : Item = record { depth = c.args.depth; ns = c.args.ns.now; name = c.args.name.now; text = [] } in
    ap (λ ns. items_of ns c.append-2.new.text.items) e
    ∙ ap (items_of (nodes ++ (n ∷ []))) t
    ∙ item_added nodes text c.args.ns.now c.args.name.now n c.self.invariant.within c.in_ok-ns.ensures.at c.in_ok-ns.ensures.len
    (c.in_ok-name.ensures.at ∙ ap length c.in_ok-ns.ensures.text) c.in_ok-name.ensures.len refl
    ∙ ap (λ z. z ++ (x ∷ [])) c.self.view_is
