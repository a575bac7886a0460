use Rattle.std.proofs.Common.{◌≡◌, ℕ, length}
use Rattle.std.specs.List.{list_all}
use Rattle.dav_walk.specs.Reading.{children, is_fine}
use Rattle.dav_walk.specs.View.{items_of}
use Rattle.dav_walk.proofs.reading.are_fine.Given as goal

abbrev pub invariant-loop-node : goal.invariant-loop-node
invariant-loop-node l = (p q : ℕ) → list_all is_fine (children l.depth p (items_of l.rest l.text)) ≡ list_all is_fine (children l.depth q (items_of l.fn.nodes l.text))

abbrev pub decreases-loop-node : goal.decreases-loop-node
decreases-loop-node l = length l.rest
