use Rattle.std.proofs.Common.{◌≡◌, take}
use Rattle.dav_auth.specs.Digits.{lower_digits}
use Rattle.dav_auth.proofs.digits.proved.Given as goal

-- the digits so far are the same
abbrev pub invariant-loop-i : goal.invariant-loop-i
invariant-loop-i l = lower_digits (take l.i l.want) ≡ lower_digits (take l.i l.got)
