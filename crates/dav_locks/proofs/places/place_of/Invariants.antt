use Rattle.std.proofs.Common.{◌≡◌, false}
use Rattle.std.specs.List.{AllWithin}
use Rattle.dav_locks.specs.Held.{has_token}
use Rattle.dav_locks.proofs.places.place_of.Given as goal

abbrev pub invariant-loop-place : goal.invariant-loop-place
invariant-loop-place l = AllWithin (λ lock. has_token l.token lock ≡ false) l.locks 0 l.place
