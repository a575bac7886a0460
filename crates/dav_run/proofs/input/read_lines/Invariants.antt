use Rattle.dav_upload.specs.Desks.{disk_view}
use Rattle.dav_run.specs.Answering.{IsFit}
use Rattle.dav_run.specs.Said.{state_of}
use Rattle.dav_run.proofs.CarryingOut.{ReadsSome}
use Rattle.dav_run.proofs.input.read_lines.Given as goal

abbrev pub invariant-loop-count : goal.invariant-loop-count
invariant-loop-count g l =
    ReadsSome (disk_view g.D.Disk.honest g.D.Disk.moment g.D.Disk.seen g.D.Disk.past g.D.Disk.faults) (g.S.Source.log l.fn.input) (g.S.Source.log l.input) (g.O.Sink.log l.fn.out) (g.O.Sink.log l.out) l.fn.shell.desk l.shell.desk
    l.pending (state_of l.fn.shell) (state_of l.shell)
    × IsFit g.D.Disk.honest g.D.Disk.moment g.D.Disk.seen g.D.Disk.past l.shell

abbrev pub decreases-loop-count : goal.decreases-loop-count
decreases-loop-count g l = g.S.Source.rest l.input
