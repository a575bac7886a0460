use Rattle.std.proofs.Common.{◌≡◌, length, take, min}
use Rattle.percent_encoding.specs.Percent.{percent_encode}
use Rattle.dav_text.specs.declared.sets.TheConstants.{ESCAPED}
use Rattle.dav_text.proofs.reading.escaped_len.Given as goal

abbrev pub invariant-loop-byte : goal.invariant-loop-byte
invariant-loop-byte l = l.len ≡ min (length (percent_encode ESCAPED (take l.byte-index l.segment))) 18446744073709551615
