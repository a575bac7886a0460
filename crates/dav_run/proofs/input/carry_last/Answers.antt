use Rattle.std.proofs.Common.{Ok, Err, refl, sym, ◌∙◌, subst}
use Rattle.std.proofs.lemmas.Bool.{false≢true}
use Rattle.dav_upload.specs.Desks.{disk_view}
use Rattle.dav_run.specs.Said.{state_of}
use Rattle.dav_run.specs.Carrying.{EndsOn}
use Rattle.dav_run.specs.declared.stop.Stop.{Stop}
use Rattle.dav_run.proofs.CarryingOut.{ends_empty, ends_carried}
use Rattle.dav_run.proofs.Telling.{stop_not_input}
use Rattle.dav_run.proofs.input.carry_last.Goals as goal

pub returns-then-is_empty-clause-does : goal.returns-then-is_empty-clause-does
returns-then-is_empty-clause-does g c = λ begun holds.
    ends_empty (disk_view g.D.Disk.honest g.D.Disk.moment g.D.Disk.seen g.D.Disk.past g.D.Disk.faults) (g.O.Sink.log c.args.out.now) c.args.shell.now.desk begun (state_of c.args.shell.now) ((c.if-is_empty.ensures begun holds).0 refl)

pub returns-then-is_empty-clause-fit : goal.returns-then-is_empty-clause-fit
returns-then-is_empty-clause-fit g c = c.requires

pub carry_out-requires : goal.carry_out-requires
carry_out-requires g c = c.requires

pub returns-in-Ok-clause-does : goal.returns-in-Ok-clause-does
returns-in-Ok-clause-does g c = λ begun holds.
    ends_carried (disk_view g.D.Disk.honest g.D.Disk.moment g.D.Disk.seen g.D.Disk.past g.D.Disk.faults) (g.O.Sink.log c.args.out.now) (g.O.Sink.log c.carry_out.new.out) c.args.shell.now.desk c.carry_out.new.shell.desk begun (state_of c.args.shell.now) (state_of c.carry_out.new.shell) (Ok tt) (λ none. false≢true ((c.if-is_empty.ensures begun holds).1 none)) (c.in-Ok.ensures.does begun holds)

pub returns-in-Ok-clause-fit : goal.returns-in-Ok-clause-fit
returns-in-Ok-clause-fit g c = c.in-Ok.ensures.fit

pub returns-in-Err-clause-does : goal.returns-in-Err-clause-does
returns-in-Err-clause-does g c = λ begun holds.
    subst (λ (stop : Stop). EndsOn (disk_view g.D.Disk.honest g.D.Disk.moment g.D.Disk.seen g.D.Disk.past g.D.Disk.faults) (g.O.Sink.log c.args.out.now) (g.O.Sink.log c.carry_out.new.out) c.args.shell.now.desk c.carry_out.new.shell.desk begun (state_of c.args.shell.now) (state_of c.carry_out.new.shell) stop) (sym c.stop_of.ensures)
    (ends_carried (disk_view g.D.Disk.honest g.D.Disk.moment g.D.Disk.seen g.D.Disk.past g.D.Disk.faults) (g.O.Sink.log c.args.out.now) (g.O.Sink.log c.carry_out.new.out) c.args.shell.now.desk c.carry_out.new.shell.desk begun (state_of c.args.shell.now) (state_of c.carry_out.new.shell) (Err c.in-Err.halt) (λ none. false≢true ((c.if-is_empty.ensures begun holds).1 none)) (c.in-Err.ensures.does begun holds))

pub returns-in-Err-clause-other : goal.returns-in-Err-clause-other
returns-in-Err-clause-other g c = λ is. stop_not_input c.in-Err.halt (sym c.stop_of.ensures ∙ is)

pub returns-in-Err-clause-fit : goal.returns-in-Err-clause-fit
returns-in-Err-clause-fit g c = c.in-Err.ensures.fit
