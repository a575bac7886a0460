use Rattle.std.proofs.Common.{ap, sym, ◌∙◌}
use Rattle.std.specs.List.{list_all}
use Rattle.dav_walk.specs.Reading.{children, is_fine}
use Rattle.dav_walk.specs.View.{item_of, items_of}
use Rattle.dav_walk.proofs.ReadingLemmas.{nothing_left, fine_anywhere, fine_step, fine_ended, fine_missed}
use Rattle.dav_walk.proofs.reading.are_fine.Goals as goal

pub loop-node-init : goal.loop-node-init
loop-node-init c = λ p q. fine_anywhere c.args.depth p q (items_of c.args.nodes.now c.args.text.now)

pub loop-node-preserved : goal.loop-node-preserved
loop-node-preserved c = λ p q.
    fine_anywhere c.args.depth p 1 (items_of c.in-Some.others.now c.args.text.now)
    ∙ sym (fine_step c.args.depth 0 (item_of c.args.text.now c.in-Some.node.now) (items_of c.in-Some.others.now c.args.text.now) c.if-node-depth.false
    (sym (c.is_fine_below.ensures 0) ∙ c.if-not-is_fine_below.false))
    ∙ ap (λ ns. list_all is_fine (children c.args.depth 0 (items_of ns c.args.text.now))) (sym c.in-Some.ensures.cases.0)
    ∙ c.loop-node.invariant 0 q

pub returns-then-node-depth : goal.returns-then-node-depth
returns-then-node-depth c = λ q.
    sym (fine_ended c.args.depth 0 (item_of c.args.text.now c.in-Some.node.now) (items_of c.in-Some.others.now c.args.text.now) c.if-node-depth.true)
    ∙ ap (λ ns. list_all is_fine (children c.args.depth 0 (items_of ns c.args.text.now))) (sym c.in-Some.ensures.cases.0)
    ∙ c.loop-node.invariant 0 q

pub returns-then-not-is_fine_below : goal.returns-then-not-is_fine_below
returns-then-not-is_fine_below c = λ q.
    sym (fine_missed c.args.depth 0 (item_of c.args.text.now c.in-Some.node.now) (items_of c.in-Some.others.now c.args.text.now) c.if-node-depth.false
    (sym (c.is_fine_below.ensures 0) ∙ c.if-not-is_fine_below.true))
    ∙ ap (λ ns. list_all is_fine (children c.args.depth 0 (items_of ns c.args.text.now))) (sym c.in-Some.ensures.cases.0)
    ∙ c.loop-node.invariant 0 q

pub returns : goal.returns
returns c = λ q.
    ap (λ ns. list_all is_fine (children c.args.depth 0 (items_of ns c.args.text.now))) (sym (nothing_left c.loop-node.rest.now c.in_default.ensures.cases))
    ∙ c.loop-node.invariant 0 q
