use Rattle.std.proofs.Common.{◌≡◌, ◌++◌, take, drop}
use Rattle.dav_locks.specs.Timeouts.{first_element}
use Rattle.dav_locks.proofs.timeout.first_element.Given as goal

abbrev pub invariant-loop-place : goal.invariant-loop-place
invariant-loop-place l = take l.place l.text ++ first_element (drop l.place l.text) ≡ first_element l.text
