use Rattle.std.proofs.Common.{ap, sym, ◌∙◌}
use Rattle.dav_walk.specs.Reading.{first_child}
use Rattle.dav_walk.specs.View.{item_of, items_of}
use Rattle.dav_walk.proofs.ReadingLemmas.{first_missed}
use Rattle.dav_walk.proofs.reading.first_child.Goals as goal

pub loop-node-preserved : goal.loop-node-preserved
loop-node-preserved c =
    sym (first_missed c.args.word.now c.args.depth (item_of c.args.text.now c.in-Some.node.now) (items_of c.in-Some.others.now c.args.text.now) c.if-node-depth.false
    (sym c.is_child.ensures ∙ c.if-is_child.false))
    ∙ ap (λ ns. first_child c.args.word.now c.args.depth (items_of ns c.args.text.now)) (sym c.in-Some.ensures.cases.0)
    ∙ c.loop-node.invariant
