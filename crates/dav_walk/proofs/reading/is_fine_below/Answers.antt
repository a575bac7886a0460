use Rattle.std.proofs.Common.{◌∙◌}
use Rattle.dav_walk.specs.View.{item_of, items_of}
use Rattle.dav_walk.proofs.ReadingLemmas.{fine_child}
use Rattle.dav_walk.proofs.reading.is_fine_below.Goals as goal

pub returns-then-saturating_sub-eq1 : goal.returns-then-saturating_sub-eq1
returns-then-saturating_sub-eq1 c = λ place.
    c.is_fine.ensures place
    ∙ fine_child c.saturating_sub.result c.args.depth
    (record { place = place; item = item_of c.args.text.now c.args.node.now; following = items_of c.args.rest.now c.args.text.now })
    c.saturating_sub.ensures c.if-saturating_sub-eq1.true
