use Rattle.std.proofs.Common.{take}
use Rattle.dav_disk.specs.Image.{Shows}
use Rattle.dav_disk.specs.Record.{state_of}
use Rattle.dav_disk.proofs.image.standing_of.Given as goal

abbrev pub invariant-loop-call : goal.invariant-loop-call
invariant-loop-call l = Shows l.standing.seen.now l.standing.synced.now l.standing.least l.standing.greatest (state_of l.file (take l.call-index l.calls))
