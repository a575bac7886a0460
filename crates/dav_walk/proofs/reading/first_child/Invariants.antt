use Rattle.std.proofs.Common.{◌≡◌, length}
use Rattle.dav_walk.specs.Reading.{first_child}
use Rattle.dav_walk.specs.View.{items_of}
use Rattle.dav_walk.proofs.reading.first_child.Given as goal

abbrev pub invariant-loop-node : goal.invariant-loop-node
invariant-loop-node l = first_child l.word l.depth (items_of l.rest l.text) ≡ first_child l.word l.depth (items_of l.fn.nodes l.text)

abbrev pub decreases-loop-node : goal.decreases-loop-node
decreases-loop-node l = length l.rest
