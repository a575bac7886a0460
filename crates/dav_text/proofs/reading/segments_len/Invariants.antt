use Rattle.std.proofs.Common.{◌≡◌, length, take, min}
use Rattle.dav_text.specs.Path.{escaped_segments}
use Rattle.dav_text.proofs.reading.segments_len.Given as goal

abbrev pub invariant-loop-segment : goal.invariant-loop-segment
invariant-loop-segment l = l.len ≡ min (length (escaped_segments (take l.segment-index l.segments))) 18446744073709551615
