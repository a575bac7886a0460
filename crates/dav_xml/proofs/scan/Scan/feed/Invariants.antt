use Rattle.std.specs.Prelude.{◌-◌, length}
use Rattle.dav_xml.proofs.FeedLemmas.{HasFed}
use Rattle.dav_xml.proofs.scan.Scan.feed.Given as goal

abbrev pub invariant-loop-used : goal.invariant-loop-used
invariant-loop-used l = HasFed l.fn.self l.self l.piece l.used

abbrev pub decreases-loop-used : goal.decreases-loop-used
decreases-loop-used l = length l.piece - l.used
