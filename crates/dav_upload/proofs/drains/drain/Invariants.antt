use Rattle.std.proofs.Common.{◌≡◌, ℕ, List, true}
use Rattle.dav_machine.specs.Machine.{Reaches}
use Rattle.dav_edge.specs.Device.{DeviceLog}
use Rattle.dav_deeds.specs.DeskTable.{DeskTable}
use Rattle.dav_desk.specs.Working.{IsReadied}
use Rattle.dav_upload.specs.AtWork.{IsAtWork}
use Rattle.dav_upload.specs.Desks.{disk_view}
use Rattle.dav_upload.specs.Drain.{Drains}
use Rattle.dav_upload.specs.Pair.{pair, PairGrew}
use Rattle.dav_upload.specs.Resting.{IsResting}
use Rattle.dav_upload.proofs.StillQueued.{StillSo}
use Rattle.dav_upload.proofs.TurnTables.{due_count}
use Rattle.dav_upload.proofs.drains.drain.Given as goal

abbrev pub invariant-loop-did : goal.invariant-loop-did
invariant-loop-did g l =
    Reaches pair (PairGrew (disk_view g.D.Disk.honest g.D.Disk.moment g.D.Disk.seen g.D.Disk.past g.D.Disk.faults) (g.V.Wire.log l.fn.wire) (g.V.Wire.log l.wire) l.fn.desk l.desk) (Drains l.base l.now l.fn.desk.table) (Drains l.base l.now l.desk.table)
    × (g.D.Disk.honest l.desk.recorder.disk → (url : List ℕ) (opening : DeskTable) (start : ℕ) (given : ℕ → List ℕ) (begun : DeviceLog)
    → IsAtWork (disk_view g.D.Disk.honest g.D.Disk.moment g.D.Disk.seen g.D.Disk.past g.D.Disk.faults) l.base url opening start given begun (g.V.Wire.log l.fn.wire) l.fn.desk
    → IsAtWork (disk_view g.D.Disk.honest g.D.Disk.moment g.D.Disk.seen g.D.Disk.past g.D.Disk.faults) l.base url opening start given begun (g.V.Wire.log l.wire) l.desk)
    × IsResting l.desk.table × (l.desk.table.stopping ≡ true)
    × IsReadied g.D.Disk.honest g.D.Disk.moment g.D.Disk.seen g.D.Disk.past l.desk
    × StillSo l.fn.desk.table l.desk.table l.fn.desk.recorder.trace.steps.items l.desk.recorder.trace.steps.items

abbrev pub decreases-loop-did : goal.decreases-loop-did
decreases-loop-did g l = due_count l.now l.desk.table
