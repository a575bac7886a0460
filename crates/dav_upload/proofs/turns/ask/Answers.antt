use Rattle.dav_upload.specs.Desks.{disk_view}
use Rattle.dav_upload.proofs.Asks.{asked_so}
use Rattle.dav_upload.proofs.turns.ask.Goals as goal

pub returns-clause-asked : goal.returns-clause-asked
returns-clause-asked g c =
    asked_so (disk_view g.D.Disk.honest g.D.Disk.moment g.D.Disk.seen g.D.Disk.past g.D.Disk.faults) c.args.now c.args.ask.now c.args.desk.now c.step.new.self c.step.result
    c.requires.ask c.step.ensures.asked c.step.ensures.working c.step.ensures.stopped c.step.ensures.bytes c.step.ensures.sum c.step.ensures.keeps c.step.ensures.faults
