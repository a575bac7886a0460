use Rattle.std.proofs.Common.{◌<◌, ◌≤◌, ◌+◌, length}
use Rattle.dav_edge.specs.Stream.{CrossesNone, HasEnd}
use Rattle.dav_edge.proofs.stream.Stream.piece_len.Given as goal

abbrev pub invariant-loop-cut : goal.invariant-loop-cut
invariant-loop-cut l = record {
  fits : l.count ≤ l.room;
  within : l.self.at + l.count ≤ length l.self.bytes.items;
  crosses_none : CrossesNone l.self.cuts.items l.cut-index l.self.at l.count;
  ends : HasEnd l.self.cuts.items (length l.self.bytes.items) l.room l.self.at l.count;
  moves : 0 < l.room → l.self.at < length l.self.bytes.items → 0 < l.count;
}
