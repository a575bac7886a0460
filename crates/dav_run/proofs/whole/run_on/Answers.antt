use Rattle.dav_upload.specs.Desks.{disk_view}
use Rattle.dav_run.specs.Said.{state_of}
use Rattle.dav_run.specs.Run.{Says, SaysFault, input_end}
use Rattle.dav_run.specs.declared.ended.Status.TheVariants as status
use Rattle.dav_run.specs.declared.stop.Stop.TheVariants as stops
use Rattle.dav_run.proofs.LastLines.{ends, ends_output, heard_behind, heard_short, ran_from, says}
use Rattle.dav_run.proofs.whole.run_on.Goals as goal

pub read_lines-requires : goal.read_lines-requires
read_lines-requires g c = c.requires

pub finish-requires : goal.finish-requires
finish-requires g c = c.in-End.ensures.fit

pub returns-in-Output : goal.returns-in-Output
returns-in-Output g c =
    ran_from (disk_view g.D.Disk.honest g.D.Disk.moment g.D.Disk.seen g.D.Disk.past g.D.Disk.faults) _ _ _ _ _ _ _ _ _ _ c.args.base.now (state_of c.args.shell.now) (state_of c.read_lines.new.shell) stops.Output _ c.in-Output.ensures.reads
    (ends_output (disk_view g.D.Disk.honest g.D.Disk.moment g.D.Disk.seen g.D.Disk.past g.D.Disk.faults) _ _ _ c.args.base.now (state_of c.read_lines.new.shell))
    c.in-Output.ensures.reads.ended

pub returns-in-Input : goal.returns-in-Input
returns-in-Input g c =
    ran_from (disk_view g.D.Disk.honest g.D.Disk.moment g.D.Disk.seen g.D.Disk.past g.D.Disk.faults) _ _ _ _ _ _ _ _ _ _ c.args.base.now (state_of c.args.shell.now) (state_of c.read_lines.new.shell) stops.Input _ c.in-Input.ensures.reads
    (ends (disk_view g.D.Disk.honest g.D.Disk.moment g.D.Disk.seen g.D.Disk.past g.D.Disk.faults) _ _ _ _ (Says input_end status.Input) (state_of c.read_lines.new.shell) status.Input (says _ _ input_end _ status.Input _ c.as_slice.ensures c.put_whole.ensures))
    c.in-Input.ensures.reads.ended

pub returns-in-Desk : goal.returns-in-Desk
returns-in-Desk g c =
    ran_from (disk_view g.D.Disk.honest g.D.Disk.moment g.D.Disk.seen g.D.Disk.past g.D.Disk.faults) _ _ _ _ _ _ _ _ _ _ c.args.base.now (state_of c.args.shell.now) (state_of c.read_lines.new.shell) (stops.Desk c.in-Desk.fault) _ c.in-Desk.ensures.reads
    (ends (disk_view g.D.Disk.honest g.D.Disk.moment g.D.Disk.seen g.D.Disk.past g.D.Disk.faults) _ _ _ _ (SaysFault c.in-Desk.fault) (state_of c.read_lines.new.shell) _ c.tell_fault.ensures.says)
    (heard_short _ _ c.tell_fault.ensures.short c.in-Desk.ensures.reads.ended)

pub returns-in-End : goal.returns-in-End
returns-in-End g c =
    ran_from (disk_view g.D.Disk.honest g.D.Disk.moment g.D.Disk.seen g.D.Disk.past g.D.Disk.faults) _ _ _ _ _ _ _ _ _ _ c.args.base.now (state_of c.args.shell.now) (state_of c.read_lines.new.shell) stops.End _ c.in-End.ensures.reads
    (c.finish.ensures.does)
    (heard_behind _ _ c.finish.ensures.behind c.in-End.ensures.reads.ended)
