use Rattle.std.proofs.Common.{◌≡◌, take, map}
use Rattle.httparse.specs.Spans.{header_bytes}
use Rattle.dav_head.specs.Fields.{field_map}
use Rattle.dav_head.proofs.fields.map_of.Given as goal

-- the map of the fields so far
abbrev pub invariant-loop-header : goal.invariant-loop-header
invariant-loop-header l = l.fields ≡ field_map (map (header_bytes l.bytes) (take l.header-index l.headers))
