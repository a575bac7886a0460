use Rattle.std.proofs.Common.{◌+◌, ◌*◌, length}
use Rattle.dav_xml.specs.Read.{waiting}
use Rattle.dav_xml.proofs.GatherLemmas.{Midway}
use Rattle.dav_xml.proofs.document.gather.Given as goal

abbrev pub invariant-loop-fed : goal.invariant-loop-fed
invariant-loop-fed l = Midway l.scan l.tree l.fn.bytes l.rest

-- twice the bytes that are left, and the event that is waiting
abbrev pub decreases-loop-fed : goal.decreases-loop-fed
decreases-loop-fed l = 2 * length l.rest + waiting l.scan
