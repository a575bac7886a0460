use Rattle.std.proofs.Common.{◌≡◌, ◌++◌, take}
use Rattle.percent_encoding.specs.Percent.{percent_encode}
use Rattle.dav_text.specs.declared.sets.TheConstants.{ESCAPED}
use Rattle.dav_text.proofs.path.append_escaped.Given as goal

abbrev pub invariant-loop-byte : goal.invariant-loop-byte
invariant-loop-byte l = l.out.items ≡ l.initial.out.items ++ percent_encode ESCAPED (take l.byte-index l.segment)
