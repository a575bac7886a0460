use Rattle.std.proofs.Common.{Ok, Err, refl}
use Rattle.dav_upload.specs.Desks.{disk_view}
use Rattle.dav_run.specs.Said.{state_of}
use Rattle.dav_run.proofs.Desking.{room_next}
use Rattle.dav_run.proofs.Fitting.{fit_with}
use Rattle.dav_run.proofs.shell.Shell.make_room.Goals as goal

pub ask_desk-requires-clause-ask : goal.ask_desk-requires-clause-ask
ask_desk-requires-clause-ask g c = c.requires.oldest

pub ask_desk-requires-clause-readied : goal.ask_desk-requires-clause-readied
ask_desk-requires-clause-readied g c = c.requires.fit.readied

pub ask_desk-requires-clause-resting : goal.ask_desk-requires-clause-resting
ask_desk-requires-clause-resting g c = c.requires.fit.resting

pub store_again-requires-clause-fit : goal.store_again-requires-clause-fit
store_again-requires-clause-fit g c =
    fit_with g.D.Disk.honest g.D.Disk.moment g.D.Disk.seen g.D.Disk.past _ c.args.self.now.current c.ask_desk.new.desk refl refl c.requires.fit.path c.in-Ok.ensures.readied c.in-Ok.ensures.resting

pub store_again-requires-clause-ask : goal.store_again-requires-clause-ask
store_again-requires-clause-ask g c = c.requires.ask

pub store_again-requires-clause-of_shell : goal.store_again-requires-clause-of_shell
store_again-requires-clause-of_shell g c = c.requires.of_shell

pub returns-in-Ok-clause-does : goal.returns-in-Ok-clause-does
returns-in-Ok-clause-does g c = λ path bytes is printed.
    room_next (disk_view g.D.Disk.honest g.D.Disk.moment g.D.Disk.seen g.D.Disk.past g.D.Disk.faults) _ c.ask_desk.new.desk _ (state_of c.args.self.now) path bytes c.args.oldest (Ok c.in-Ok.field-0) _ refl c.in-Ok.ensures.asks (c.store_again.ensures.does path bytes is printed)

pub returns-in-Ok-clause-fit : goal.returns-in-Ok-clause-fit
returns-in-Ok-clause-fit g c = c.store_again.ensures.fit

pub returns-clause-does : goal.returns-clause-does
returns-clause-does g c = λ path bytes is printed.
    room_next (disk_view g.D.Disk.honest g.D.Disk.moment g.D.Disk.seen g.D.Disk.past g.D.Disk.faults) _ c.ask_desk.new.desk _ (state_of c.args.self.now) path bytes c.args.oldest (Err c.in-Err.fault) _ refl c.in-Err.ensures.asks c.unforgotten.ensures.does

pub returns-clause-fit : goal.returns-clause-fit
returns-clause-fit g c =
    fit_with g.D.Disk.honest g.D.Disk.moment g.D.Disk.seen g.D.Disk.past c.unforgotten.new.self _ _ c.unforgotten.ensures.same.1 c.unforgotten.ensures.same.0 c.requires.fit.path c.in-Err.ensures.readied c.in-Err.ensures.resting
