use Rattle.std.proofs.Common.{◌≡◌, take, min}
use Rattle.dav_index.specs.Bounds.{queued_bytes}
use Rattle.dav_index.proofs.bounds.queued_bytes.Given as goal

abbrev pub invariant-loop-held : goal.invariant-loop-held
invariant-loop-held l = l.total ≡ min (queued_bytes (take l.held-index l.entries)) 18446744073709551615
