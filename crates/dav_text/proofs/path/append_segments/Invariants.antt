use Rattle.std.proofs.Common.{◌≡◌, ◌++◌, take}
use Rattle.dav_text.specs.Path.{escaped_segments}
use Rattle.dav_text.proofs.path.append_segments.Given as goal

abbrev pub invariant-loop-segment : goal.invariant-loop-segment
invariant-loop-segment l = l.out.items ≡ l.initial.out.items ++ escaped_segments (take l.segment-index l.segments)
