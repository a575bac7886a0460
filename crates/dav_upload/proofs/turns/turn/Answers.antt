use Rattle.dav_upload.specs.Desks.{disk_view}
use Rattle.dav_upload.proofs.TurnRuns.{turn_does}
use Rattle.dav_upload.proofs.TurnTables.{turn_sound}
use Rattle.dav_upload.proofs.TurnWork.{turn_after}
use Rattle.dav_upload.proofs.turns.turn.Goals as goal

pub returns-clause-does : goal.returns-clause-does
returns-clause-does g c =
    turn_does (disk_view g.D.Disk.honest g.D.Disk.moment g.D.Disk.seen g.D.Disk.past g.D.Disk.faults) _ _ c.args.desk.now c.make_turn.new.desk c.args.base.now c.args.now c.make_turn.result c.make_turn.ensures.turned

pub returns-clause-work : goal.returns-clause-work
returns-clause-work g c = λ honest url opening start given begun work.
    turn_after (disk_view g.D.Disk.honest g.D.Disk.moment g.D.Disk.seen g.D.Disk.past g.D.Disk.faults) c.args.base.now url opening start given begun _ _ c.args.desk.now c.make_turn.new.desk c.args.now c.make_turn.result c.make_turn.ensures.turned honest work

pub returns-clause-sound : goal.returns-clause-sound
returns-clause-sound g c = λ sound.
    turn_sound (disk_view g.D.Disk.honest g.D.Disk.moment g.D.Disk.seen g.D.Disk.past g.D.Disk.faults) c.args.base.now _ _ c.args.desk.now c.make_turn.new.desk c.args.now c.make_turn.result c.make_turn.ensures.turned sound
