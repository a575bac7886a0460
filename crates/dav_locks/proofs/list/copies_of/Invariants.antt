use Rattle.std.proofs.Common.{◌≡◌, take}
use Rattle.dav_locks.proofs.list.copies_of.Given as goal

abbrev pub invariant-loop-lock : goal.invariant-loop-lock
invariant-loop-lock l = l.copies.items ≡ take l.lock-index l.locks
