use Rattle.std.proofs.Common.{◌<◌, ℕ, List, length, refl, sym, ap, ◌∙◌, subst}
use Rattle.dav_text.specs.Path.{PathParts}
use Rattle.dav_deeds.specs.declared.deed.Trace.{Trace}
use Rattle.dav_desk.specs.declared.desk.Desk.{Desk}
use Rattle.dav_upload.specs.Desks.{disk_view}
use Rattle.dav_run.specs.Said.{state_of}
use Rattle.dav_run.specs.Opening.{HasStarted, HasNotStarted}
use Rattle.dav_run.specs.Shell.{fresh_state}
use Rattle.dav_run.proofs.Fitting.{fit_with, started_rests}
use Rattle.dav_run.proofs.LastLines.{heard_short, ran_started, ran_unopened, under_as}
use Rattle.dav_run.proofs.whole.run_over.Goals as goal

pub start-requires : goal.start-requires
start-requires g c = subst (λ (text : List ℕ). length text < 65505) (sym c.text.ensures) c.requires.short

pub run_on-status-requires : goal.run_on-status-requires
run_on-status-requires g c =
    let fresh = c.in-Ok.ensures.fresh in
    fit_with g.D.Disk.honest g.D.Disk.moment g.D.Disk.seen g.D.Disk.past c.new-shell.result c.args.current c.in-Ok.desk c.new-shell.ensures.current c.new-shell.ensures.desk c.requires.path c.in-Ok.ensures.readied (started_rests c.in-Ok.desk.table fresh.1 fresh.0)

pub returns-in-Ok : goal.returns-in-Ok
returns-in-Ok g c = λ words named here.
    let view = (disk_view g.D.Disk.honest g.D.Disk.moment g.D.Disk.seen g.D.Disk.past g.D.Disk.faults) in
    let fresh = c.in-Ok.ensures.fresh in
    let url = c.text.result.now in
    let desk = c.in-Ok.desk in
    let begun : HasStarted view url c.args.disk desk = record {
      table = fresh.0;
      sound = fresh.1;
      steps = fresh.2;
      under = fresh.3;
      dead = fresh.4;
      no_fewer = c.in-Ok.ensures.faults;
      keeps = c.in-Ok.ensures.keeps;
      opened = c.in-Ok.ensures.opened;
      works = c.in-Ok.ensures.working;
    } in
    let start = subst (λ (d : Desk g.row.D.Denot). HasStarted view c.args.base.now.text c.args.disk d) (sym c.new-shell.ensures.desk) (subst (λ (text : List ℕ). HasStarted view text c.args.disk desk) c.text.ensures begun) in
    let before = c.new-shell.ensures.state ∙ ap (λ (p : PathParts). fresh_state p desk.table) here ∙ ap (λ (d : Desk g.row.D.Denot). fresh_state c.args.base.now.path d.table) (sym c.new-shell.ensures.desk) in
    under_as view words _ _ _ _ _ _ c.args.disk _ _ _ _ _ c.ended.ensures.trace.1
    (ran_started view words _ _ _ _ _ _ c.args.disk _ c.new-shell.result.desk c.run_on-status.new.shell.desk c.args.base.now (state_of c.new-shell.result) _ _ _ named start before c.run_on-status.ensures c.ended.ensures.end c.ended.ensures.disk (ap (λ (t : Trace). t.steps.items) c.ended.ensures.trace.0))

pub returns-in-Err : goal.returns-in-Err
returns-in-Err g c = λ words named here.
    let view = (disk_view g.D.Disk.honest g.D.Disk.moment g.D.Disk.seen g.D.Disk.past g.D.Disk.faults) in
    let begun : HasNotStarted view c.text.result.now c.args.disk c.in-Err.disk c.in-Err.fault = record {
      cause = c.in-Err.ensures.fault;
      no_fewer = c.in-Err.ensures.faults;
      keeps = c.in-Err.ensures.keeps;
      recover = λ honest table given recover. c.in-Err.ensures.any_moment table given recover honest;
    } in
    let start = subst (λ (d : g.row.D.Denot). HasNotStarted view c.args.base.now.text c.args.disk d c.in-Err.fault) (sym c.unopened.ensures.disk) (subst (λ (text : List ℕ). HasNotStarted view text c.args.disk c.in-Err.disk c.in-Err.fault) c.text.ensures begun) in
    under_as view words _ _ _ _ _ _ c.args.disk _ _ _ _ _ c.unopened.ensures.trace.1
    (ran_unopened view words _ _ _ _ c.args.disk _ _ c.args.base.now c.in-Err.fault c.tell_fault-status.result _ named start c.unopened.ensures.trace.0 c.tell_fault-status.ensures.says
    (heard_short _ _ c.tell_fault-status.ensures.short refl) c.unopened.ensures.end)
