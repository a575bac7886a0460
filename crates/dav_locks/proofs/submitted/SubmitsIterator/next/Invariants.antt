use Rattle.std.proofs.Common.{length, ◌≡◌}
use Rattle.dav_locks.specs.SubmitsView.{left}
use Rattle.dav_locks.proofs.submitted.SubmitsIterator.next.Given as goal

abbrev pub invariant-loop-first : goal.invariant-loop-first
invariant-loop-first l = left l.self ≡ left l.initial.self

abbrev pub decreases-loop-first : goal.decreases-loop-first
decreases-loop-first l = length l.self.rest.now
