use Rattle.std.proofs.Common.{length}
use Rattle.dav_edge.specs.Whole.{ReachesOn, Sends}
use Rattle.dav_edge.proofs.whole.send_whole.Given as goal

abbrev pub invariant-loop-rest : goal.invariant-loop-rest
invariant-loop-rest g l = ReachesOn (g.W.Wire.log l.fn.wire) (g.W.Wire.log l.wire) (Sends l.fn.bytes) (Sends l.rest)

abbrev pub decreases-loop-rest : goal.decreases-loop-rest
decreases-loop-rest g l = length l.rest
