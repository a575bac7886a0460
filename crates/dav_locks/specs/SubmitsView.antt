-- The locks that a reader of the code still has to give.
use Rattle.std.specs.Prelude.{List}
use Rattle.dav_locks.specs.Submitted.{submitted}
use Rattle.dav_locks.specs.declared.lock.Lock.{Lock}
use Rattle.dav_locks.specs.declared.submitted.Submits.{Submits}

abbrev pub left : Submits → List Lock
left s = submitted s.rest.now s.how s.path.now s.depth
