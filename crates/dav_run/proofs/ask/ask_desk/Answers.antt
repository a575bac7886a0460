use Rattle.dav_upload.specs.Desks.{disk_view}
use Rattle.dav_run.proofs.Asking.{asks_so, path_so, rests_so, stops_so}
use Rattle.dav_run.proofs.ask.ask_desk.Goals as goal

pub returns-clause-asks : goal.returns-clause-asks
returns-clause-asks g c =
    asks_so (disk_view g.D.Disk.honest g.D.Disk.moment g.D.Disk.seen g.D.Disk.past g.D.Disk.faults) c.args.ask.now c.args.desk.now c.step.new.self c.step.result
    c.requires.ask c.step.ensures.asked c.step.ensures.working c.step.ensures.stopped c.step.ensures.bytes c.step.ensures.sum c.step.ensures.keeps c.step.ensures.faults

pub returns-clause-resting : goal.returns-clause-resting
returns-clause-resting g c =
    rests_so (disk_view g.D.Disk.honest g.D.Disk.moment g.D.Disk.seen g.D.Disk.past g.D.Disk.faults) c.args.ask.now c.args.desk.now c.step.new.self c.step.result
    c.requires.ask c.requires.of_shell c.requires.resting c.step.ensures.asked

pub returns-clause-oldest : goal.returns-clause-oldest
returns-clause-oldest g c =
    path_so (disk_view g.D.Disk.honest g.D.Disk.moment g.D.Disk.seen g.D.Disk.past g.D.Disk.faults) c.args.ask.now c.args.desk.now c.step.new.self c.step.result
    c.requires.resting.sound c.requires.readied c.step.ensures.asked

pub returns-clause-stopping : goal.returns-clause-stopping
returns-clause-stopping g c =
    stops_so (disk_view g.D.Disk.honest g.D.Disk.moment g.D.Disk.seen g.D.Disk.past g.D.Disk.faults) c.args.ask.now c.args.desk.now c.step.new.self c.step.result c.step.ensures.asked
