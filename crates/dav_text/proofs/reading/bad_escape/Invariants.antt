use Rattle.std.proofs.Common.{◌≡◌, drop}
use Rattle.dav_text.specs.Reading.{bad_escape_from}
use Rattle.dav_text.proofs.reading.bad_escape.Given as goal

abbrev pub invariant-loop-at : goal.invariant-loop-at
invariant-loop-at l = bad_escape_from 0 l.bytes ≡ bad_escape_from l.at (drop l.at l.bytes)
