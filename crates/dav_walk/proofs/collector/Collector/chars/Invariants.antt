use Rattle.std.proofs.Common.{◌≡◌, length}
use Rattle.dav_doc.specs.Machine.{chars}
use Rattle.dav_walk.specs.Gathering.{walk}
use Rattle.dav_walk.specs.Collecting.{gathering_of}
use Rattle.dav_walk.proofs.collector.Collector.chars.Given as goal

abbrev pub invariant-loop-byte : goal.invariant-loop-byte
invariant-loop-byte l = walk (gathering_of l.self) (chars l.rest) ≡ walk (gathering_of l.fn.self) (chars l.fn.bytes)

abbrev pub decreases-loop-byte : goal.decreases-loop-byte
decreases-loop-byte l = length l.rest
