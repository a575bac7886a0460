use Rattle.std.proofs.Common.{ℕ, List, Ok, take}
use Rattle.dav_upload.specs.Desks.{disk_view}
use Rattle.dav_run.specs.Answering.{IsFit}
use Rattle.dav_run.specs.Carrying.{ReadsPiece}
use Rattle.dav_run.specs.Pending.{Holds}
use Rattle.dav_run.specs.Said.{state_of}
use Rattle.dav_run.proofs.input.carry_all.Given as goal

abbrev pub invariant-loop-byte : goal.invariant-loop-byte
invariant-loop-byte g l =
    ((begun : List ℕ) → Holds l.fn.pending begun
    → ReadsPiece (disk_view g.D.Disk.honest g.D.Disk.moment g.D.Disk.seen g.D.Disk.past g.D.Disk.faults) (g.O.Sink.log l.fn.out) (g.O.Sink.log l.out) l.fn.shell.desk l.shell.desk
    (take l.byte-index l.piece) begun l.pending (state_of l.fn.shell) (state_of l.shell) (Ok tt))
    × IsFit g.D.Disk.honest g.D.Disk.moment g.D.Disk.seen g.D.Disk.past l.shell
