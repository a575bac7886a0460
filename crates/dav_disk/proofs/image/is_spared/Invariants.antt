use Rattle.std.proofs.Common.{take, IsTrue, ◌↔◌}
use Rattle.dav_disk.specs.Disk.{IsOutside}
use Rattle.dav_disk.specs.Record.{state_of}
use Rattle.dav_disk.proofs.image.is_spared.Given as goal

abbrev pub invariant-loop-call : goal.invariant-loop-call
invariant-loop-call l = IsTrue l.spared ↔ IsOutside l.place (state_of l.file (take l.call-index l.calls)).doubt.changes
