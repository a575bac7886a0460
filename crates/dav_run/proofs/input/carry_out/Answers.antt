use Rattle.std.proofs.Common.{Ok, true, false, refl, sym, subst, ap, ◌∙◌}
use Rattle.dav_desk.specs.declared.desk.Desk.{Desk}
use Rattle.dav_upload.specs.Desks.{disk_view}
use Rattle.dav_run.specs.Answering.{said_text}
use Rattle.dav_run.specs.Carrying.{line_at, CarriesOn}
use Rattle.dav_run.specs.Said.{state_of}
use Rattle.dav_run.proofs.CarryingOut.{carried, stopped}
use Rattle.dav_run.proofs.Fitting.{fit_with}
use Rattle.dav_run.proofs.input.carry_out.Goals as goal

pub answer_to-requires : goal.answer_to-requires
answer_to-requires g c = c.requires

pub returns-in-Err-clause-does : goal.returns-in-Err-clause-does
returns-in-Err-clause-does g c = λ begun holds.
    stopped (disk_view g.D.Disk.honest g.D.Disk.moment g.D.Disk.seen g.D.Disk.past g.D.Disk.faults) (g.O.Sink.log c.args.out.now) c.args.shell.now.desk c.answer_to.new.shell.desk
    (line_at c.args.fed begun) (state_of c.args.shell.now) (state_of c.answer_to.new.shell) c.in-Err.fault (c.in-Err.ensures.does begun holds)

pub returns-in-Err-clause-fit : goal.returns-in-Err-clause-fit
returns-in-Err-clause-fit g c = c.in-Err.ensures.fit

pub returns-in-Ok-put_whole-clause-does : goal.returns-in-Ok-put_whole-clause-does
returns-in-Ok-put_whole-clause-does g c = λ begun holds.
    let view = disk_view g.D.Disk.honest g.D.Disk.moment g.D.Disk.seen g.D.Disk.past g.D.Disk.faults in
    let old = c.args.shell.now in
    let answered = c.answer_to.new.shell in
    let later = c.count.new.self in
    subst (λ (d : Desk g.row.D.Denot). CarriesOn view (g.O.Sink.log c.args.out.now) (g.O.Sink.log c.put_whole.new.out) old.desk d (line_at c.args.fed begun) (state_of old) (state_of later) (Ok tt)) (sym c.count.ensures.same.0)
    (carried view (g.O.Sink.log c.args.out.now) (g.O.Sink.log c.put_whole.new.out) old.desk answered.desk (line_at c.args.fed begun)
    (said_text c.in-Ok.said answered.text.items) c.text_of.result.now (state_of old) (state_of answered) (state_of later) true (c.in-Ok.ensures.does begun holds)
    (c.text_of.ensures ∙ ap (said_text c.in-Ok.said) c.as_slice.ensures.value) (sym c.count.ensures.state) c.in-Ok-put_whole.ensures)

pub returns-in-Ok-put_whole-clause-fit : goal.returns-in-Ok-put_whole-clause-fit
returns-in-Ok-put_whole-clause-fit g c =
    let answered = c.in-Ok.ensures.fit in
    fit_with g.D.Disk.honest g.D.Disk.moment g.D.Disk.seen g.D.Disk.past c.count.new.self _ _ c.count.ensures.same.1 c.count.ensures.same.0 answered.path answered.readied answered.resting

pub returns-in-Err-put_whole-clause-does : goal.returns-in-Err-put_whole-clause-does
returns-in-Err-put_whole-clause-does g c = λ begun holds.
    let view = disk_view g.D.Disk.honest g.D.Disk.moment g.D.Disk.seen g.D.Disk.past g.D.Disk.faults in
    let old = c.args.shell.now in
    let answered = c.answer_to.new.shell in
    carried view (g.O.Sink.log c.args.out.now) (g.O.Sink.log c.put_whole.new.out) old.desk answered.desk (line_at c.args.fed begun)
    (said_text c.in-Ok.said answered.text.items) c.text_of.result.now (state_of old) (state_of answered) (state_of answered) false (c.in-Ok.ensures.does begun holds)
    (c.text_of.ensures ∙ ap (said_text c.in-Ok.said) c.as_slice.ensures.value) refl c.in-Err-put_whole.ensures

pub returns-in-Err-put_whole-clause-fit : goal.returns-in-Err-put_whole-clause-fit
returns-in-Err-put_whole-clause-fit g c = c.in-Ok.ensures.fit
