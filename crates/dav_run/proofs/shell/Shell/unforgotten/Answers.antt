use Rattle.std.proofs.Common.{refl}
use Rattle.dav_upload.specs.Desks.{disk_view}
use Rattle.dav_run.specs.Said.{state_of}
use Rattle.dav_run.specs.Shell.{unforgotten}
use Rattle.dav_run.specs.declared.shell.Said.TheVariants as saids
use Rattle.dav_run.proofs.Desking.{by_cause, gives, said_is}
use Rattle.dav_run.proofs.shell.Shell.unforgotten.Goals as goal

pub returns-in-Crowded-clause-does : goal.returns-in-Crowded-clause-does
returns-in-Crowded-clause-does g c =
    by_cause (disk_view g.D.Disk.honest g.D.Disk.moment g.D.Disk.seen g.D.Disk.past g.D.Disk.faults) unforgotten _ c.args.fault _ _ (state_of c.args.self.now) _ c.in-Crowded.ensures
    (gives (disk_view g.D.Disk.honest g.D.Disk.moment g.D.Disk.seen g.D.Disk.past g.D.Disk.faults) c.args.self.now.desk c.args.self.now.desk _ _ refl refl)

pub returns-in-Limit-clause-does : goal.returns-in-Limit-clause-does
returns-in-Limit-clause-does g c =
    by_cause (disk_view g.D.Disk.honest g.D.Disk.moment g.D.Disk.seen g.D.Disk.past g.D.Disk.faults) unforgotten _ c.args.fault _ _ (state_of c.args.self.now) _ c.in-Limit.ensures
    (gives (disk_view g.D.Disk.honest g.D.Disk.moment g.D.Disk.seen g.D.Disk.past g.D.Disk.faults) c.args.self.now.desk c.args.self.now.desk _ _ refl refl)

pub returns-in-Memory-clause-does : goal.returns-in-Memory-clause-does
returns-in-Memory-clause-does g c =
    by_cause (disk_view g.D.Disk.honest g.D.Disk.moment g.D.Disk.seen g.D.Disk.past g.D.Disk.faults) unforgotten _ c.args.fault _ _ (state_of c.args.self.now) _ c.in-Memory.ensures
    (gives (disk_view g.D.Disk.honest g.D.Disk.moment g.D.Disk.seen g.D.Disk.past g.D.Disk.faults) _ _ _ _ c.starve.ensures.same.0 (said_is _ saids.Memory c.starve.new.self.text.items _ _ c.starve.ensures.said c.starve.ensures.state))

pub returns-in-Disk-clause-does : goal.returns-in-Disk-clause-does
returns-in-Disk-clause-does g c =
    by_cause (disk_view g.D.Disk.honest g.D.Disk.moment g.D.Disk.seen g.D.Disk.past g.D.Disk.faults) unforgotten _ c.args.fault _ _ (state_of c.args.self.now) _ c.in-Disk.ensures
    (gives (disk_view g.D.Disk.honest g.D.Disk.moment g.D.Disk.seen g.D.Disk.past g.D.Disk.faults) c.args.self.now.desk c.args.self.now.desk _ _ refl refl)

pub returns-in-Cache-clause-does : goal.returns-in-Cache-clause-does
returns-in-Cache-clause-does g c =
    by_cause (disk_view g.D.Disk.honest g.D.Disk.moment g.D.Disk.seen g.D.Disk.past g.D.Disk.faults) unforgotten _ c.args.fault _ _ (state_of c.args.self.now) _ c.in-Cache.ensures
    (gives (disk_view g.D.Disk.honest g.D.Disk.moment g.D.Disk.seen g.D.Disk.past g.D.Disk.faults) c.args.self.now.desk c.args.self.now.desk _ _ refl refl)
