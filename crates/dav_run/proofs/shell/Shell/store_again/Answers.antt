use Rattle.std.proofs.Common.{ℕ, List, length, None, Ok, Err, refl, ap}
use Rattle.dav_upload.specs.Desks.{disk_view}
use Rattle.dav_run.specs.Said.{state_of}
use Rattle.dav_run.specs.Shell.{StillCrowded, closed_line, lined, with_table}
use Rattle.dav_run.proofs.Desking.{gives, store_next}
use Rattle.dav_run.proofs.Fitting.{fit_with}
use Rattle.dav_run.proofs.shell.Shell.store_again.Goals as goal

pub ask_desk-requires-clause-ask : goal.ask_desk-requires-clause-ask
ask_desk-requires-clause-ask g c = c.requires.ask

pub ask_desk-requires-clause-of_shell : goal.ask_desk-requires-clause-of_shell
ask_desk-requires-clause-of_shell g c = c.requires.of_shell

pub ask_desk-requires-clause-readied : goal.ask_desk-requires-clause-readied
ask_desk-requires-clause-readied g c = c.requires.fit.readied

pub ask_desk-requires-clause-resting : goal.ask_desk-requires-clause-resting
ask_desk-requires-clause-resting g c = c.requires.fit.resting

pub returns-in-Ok-clause-does : goal.returns-in-Ok-clause-does
returns-in-Ok-clause-does g c = λ path bytes is printed.
    let st = state_of c.args.self.now in
    let after = with_table st c.ask_desk.new.desk.table in
    store_next (disk_view g.D.Disk.honest g.D.Disk.moment g.D.Disk.seen g.D.Disk.past g.D.Disk.faults) _ c.ask_desk.new.desk _ st path bytes c.args.ask.now StillCrowded (Ok c.in-Ok.field-0) _ refl is c.in-Ok.ensures.asks
    (gives (disk_view g.D.Disk.honest g.D.Disk.moment g.D.Disk.seen g.D.Disk.past g.D.Disk.faults) _ _ (lined (closed_line path (length bytes)) after None) _ refl (ap (λ (text : List ℕ). lined text after None) printed))

pub returns-in-Ok-clause-fit : goal.returns-in-Ok-clause-fit
returns-in-Ok-clause-fit g c =
    fit_with g.D.Disk.honest g.D.Disk.moment g.D.Disk.seen g.D.Disk.past _ c.args.self.now.current c.ask_desk.new.desk refl refl c.requires.fit.path c.in-Ok.ensures.readied c.in-Ok.ensures.resting

pub returns-clause-does : goal.returns-clause-does
returns-clause-does g c = λ path bytes is printed.
    store_next (disk_view g.D.Disk.honest g.D.Disk.moment g.D.Disk.seen g.D.Disk.past g.D.Disk.faults) _ c.ask_desk.new.desk _ (state_of c.args.self.now) path bytes c.args.ask.now StillCrowded (Err c.in-Err.fault) _ refl is c.in-Err.ensures.asks c.refused_again.ensures.does

pub returns-clause-fit : goal.returns-clause-fit
returns-clause-fit g c =
    fit_with g.D.Disk.honest g.D.Disk.moment g.D.Disk.seen g.D.Disk.past c.refused_again.new.self _ _ c.refused_again.ensures.same.1 c.refused_again.ensures.same.0 c.requires.fit.path c.in-Err.ensures.readied c.in-Err.ensures.resting
