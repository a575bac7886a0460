use Rattle.std.proofs.Common.{length}
use Rattle.dav_edge.specs.Whole.{ReachesOn, Sends}
use Rattle.dav_edge.proofs.whole.put_whole.Given as goal

abbrev pub invariant-loop-rest : goal.invariant-loop-rest
invariant-loop-rest g l = ReachesOn (g.O.Sink.log l.fn.out) (g.O.Sink.log l.out) (Sends l.fn.bytes) (Sends l.rest)

abbrev pub decreases-loop-rest : goal.decreases-loop-rest
decreases-loop-rest g l = length l.rest
