use Rattle.std.proofs.Common.{refl}
use Rattle.dav_upload.specs.Desks.{disk_view}
use Rattle.dav_run.specs.Said.{state_of}
use Rattle.dav_run.specs.Shell.{makes_room, refused}
use Rattle.dav_run.specs.declared.shell.Said.TheVariants as saids
use Rattle.dav_run.proofs.Desking.{by_cause, gives, said_is}
use Rattle.dav_run.proofs.Fitting.{cause_path, fit_with}
use Rattle.dav_run.proofs.shell.Shell.refused.Goals as goal

pub make_room-requires-clause-fit : goal.make_room-requires-clause-fit
make_room-requires-clause-fit g c = c.requires.fit

pub make_room-requires-clause-ask : goal.make_room-requires-clause-ask
make_room-requires-clause-ask g c = c.requires.ask

pub make_room-requires-clause-of_shell : goal.make_room-requires-clause-of_shell
make_room-requires-clause-of_shell g c = c.requires.of_shell

pub make_room-requires-clause-oldest : goal.make_room-requires-clause-oldest
make_room-requires-clause-oldest g c = cause_path c.args.fault c.in-Crowded.oldest c.in-Crowded.ensures c.requires.oldest

pub returns-in-Crowded-clause-does : goal.returns-in-Crowded-clause-does
returns-in-Crowded-clause-does g c = λ path bytes is printed.
    by_cause (disk_view g.D.Disk.honest g.D.Disk.moment g.D.Disk.seen g.D.Disk.past g.D.Disk.faults) (refused (makes_room path bytes)) _ c.args.fault _ _ (state_of c.args.self.now) _ c.in-Crowded.ensures
    (c.make_room.ensures.does path bytes is printed)

pub returns-in-Crowded-clause-fit : goal.returns-in-Crowded-clause-fit
returns-in-Crowded-clause-fit g c = c.make_room.ensures.fit

pub returns-in-Limit-clause-does : goal.returns-in-Limit-clause-does
returns-in-Limit-clause-does g c = λ path bytes is printed.
    by_cause (disk_view g.D.Disk.honest g.D.Disk.moment g.D.Disk.seen g.D.Disk.past g.D.Disk.faults) (refused (makes_room path bytes)) _ c.args.fault _ _ (state_of c.args.self.now) _ c.in-Limit.ensures
    (gives (disk_view g.D.Disk.honest g.D.Disk.moment g.D.Disk.seen g.D.Disk.past g.D.Disk.faults) _ _ _ _ c.limit.ensures.same.0 (said_is _ (saids.Limit c.in-Limit.which) c.limit.new.self.text.items _ _ c.limit.ensures.said c.limit.ensures.state))

pub returns-in-Limit-clause-fit : goal.returns-in-Limit-clause-fit
returns-in-Limit-clause-fit g c =
    fit_with g.D.Disk.honest g.D.Disk.moment g.D.Disk.seen g.D.Disk.past c.limit.new.self _ _ c.limit.ensures.same.1 c.limit.ensures.same.0 c.requires.fit.path c.requires.fit.readied c.requires.fit.resting

pub returns-in-Memory-clause-does : goal.returns-in-Memory-clause-does
returns-in-Memory-clause-does g c = λ path bytes is printed.
    by_cause (disk_view g.D.Disk.honest g.D.Disk.moment g.D.Disk.seen g.D.Disk.past g.D.Disk.faults) (refused (makes_room path bytes)) _ c.args.fault _ _ (state_of c.args.self.now) _ c.in-Memory.ensures
    (gives (disk_view g.D.Disk.honest g.D.Disk.moment g.D.Disk.seen g.D.Disk.past g.D.Disk.faults) _ _ _ _ c.starve.ensures.same.0 (said_is _ saids.Memory c.starve.new.self.text.items _ _ c.starve.ensures.said c.starve.ensures.state))

pub returns-in-Memory-clause-fit : goal.returns-in-Memory-clause-fit
returns-in-Memory-clause-fit g c =
    fit_with g.D.Disk.honest g.D.Disk.moment g.D.Disk.seen g.D.Disk.past c.starve.new.self _ _ c.starve.ensures.same.1 c.starve.ensures.same.0 c.requires.fit.path c.requires.fit.readied c.requires.fit.resting

pub returns-in-Disk-clause-does : goal.returns-in-Disk-clause-does
returns-in-Disk-clause-does g c = λ path bytes is printed.
    by_cause (disk_view g.D.Disk.honest g.D.Disk.moment g.D.Disk.seen g.D.Disk.past g.D.Disk.faults) (refused (makes_room path bytes)) _ c.args.fault _ _ (state_of c.args.self.now) _ c.in-Disk.ensures
    (gives (disk_view g.D.Disk.honest g.D.Disk.moment g.D.Disk.seen g.D.Disk.past g.D.Disk.faults) c.args.self.now.desk c.args.self.now.desk _ _ refl refl)

pub returns-in-Disk-clause-fit : goal.returns-in-Disk-clause-fit
returns-in-Disk-clause-fit g c = c.requires.fit

pub returns-in-Cache-clause-does : goal.returns-in-Cache-clause-does
returns-in-Cache-clause-does g c = λ path bytes is printed.
    by_cause (disk_view g.D.Disk.honest g.D.Disk.moment g.D.Disk.seen g.D.Disk.past g.D.Disk.faults) (refused (makes_room path bytes)) _ c.args.fault _ _ (state_of c.args.self.now) _ c.in-Cache.ensures
    (gives (disk_view g.D.Disk.honest g.D.Disk.moment g.D.Disk.seen g.D.Disk.past g.D.Disk.faults) c.args.self.now.desk c.args.self.now.desk _ _ refl refl)

pub returns-in-Cache-clause-fit : goal.returns-in-Cache-clause-fit
returns-in-Cache-clause-fit g c = c.requires.fit
