use Rattle.std.proofs.Common.{refl, sym, subst, lit<}
use Rattle.dav_upload.specs.Desks.{disk_view}
use Rattle.dav_run.specs.Said.{state_of}
use Rattle.dav_run.specs.Carrying.{ReadsAll}
use Rattle.dav_run.specs.declared.stop.Stop.{Stop}
use Rattle.dav_run.proofs.CarryingOut.{some_none, some_more, all_stopped, all_read, all_failed}
use Rattle.dav_run.proofs.input.read_lines.Goals as goal

pub loop-count-init : goal.loop-count-init
loop-count-init g c = (some_none (disk_view g.D.Disk.honest g.D.Disk.moment g.D.Disk.seen g.D.Disk.past g.D.Disk.faults) (g.S.Source.log c.args.input.now) (g.O.Sink.log c.args.out.now) c.args.shell.now.desk c.new-pending.result (state_of c.args.shell.now) c.new-pending.ensures, c.requires)

pub returns-in_default-clause-reads : goal.returns-in_default-clause-reads
returns-in_default-clause-reads g c =
    all_failed (disk_view g.D.Disk.honest g.D.Disk.moment g.D.Disk.seen g.D.Disk.past g.D.Disk.faults) (g.S.Source.log c.args.input.now) (g.S.Source.log c.loop-count.input) (g.S.Source.log c.take.new.self)
    (g.O.Sink.log c.args.out.now) (g.O.Sink.log c.loop-count.out) c.args.shell.now.desk c.loop-count.shell.desk
    c.loop-count.pending (state_of c.args.shell.now) (state_of c.loop-count.shell)
    _ c.take.new.buf c.in_default.field-0 c.loop-count.invariant.0 c.in_default.ensures.log

pub returns-in_default-clause-fit : goal.returns-in_default-clause-fit
returns-in_default-clause-fit g c = c.loop-count.invariant.1

pub carry_last-requires : goal.carry_last-requires
carry_last-requires g c = c.loop-count.invariant.1

pub returns-then-count-eq0-clause-reads : goal.returns-then-count-eq0-clause-reads
returns-then-count-eq0-clause-reads g c =
    all_read (disk_view g.D.Disk.honest g.D.Disk.moment g.D.Disk.seen g.D.Disk.past g.D.Disk.faults) (g.S.Source.log c.args.input.now) (g.S.Source.log c.loop-count.input) (g.S.Source.log c.take.new.self)
    (g.O.Sink.log c.args.out.now) (g.O.Sink.log c.loop-count.out) (g.O.Sink.log c.carry_last.new.out) c.args.shell.now.desk c.loop-count.shell.desk c.carry_last.new.shell.desk
    c.loop-count.pending (state_of c.args.shell.now) (state_of c.loop-count.shell) (state_of c.carry_last.new.shell)
    4096 c.in-Ok.count c.take.new.buf c.carry_last.result (lit< tt) c.if-count-eq0.true c.carry_last.ensures.other c.loop-count.invariant.0 c.in-Ok.ensures.log c.carry_last.ensures.does

pub returns-then-count-eq0-clause-fit : goal.returns-then-count-eq0-clause-fit
returns-then-count-eq0-clause-fit g c = c.carry_last.ensures.fit

pub carry_all-requires : goal.carry_all-requires
carry_all-requires g c = c.loop-count.invariant.1

pub loop-count-preserved : goal.loop-count-preserved
loop-count-preserved g c = (
  some_more (disk_view g.D.Disk.honest g.D.Disk.moment g.D.Disk.seen g.D.Disk.past g.D.Disk.faults) (g.S.Source.log c.args.input.now) (g.S.Source.log c.loop-count.input) (g.S.Source.log c.take.new.self)
      (g.O.Sink.log c.args.out.now) (g.O.Sink.log c.loop-count.out) (g.O.Sink.log c.carry_all.new.out) c.args.shell.now.desk c.loop-count.shell.desk c.carry_all.new.shell.desk
      c.loop-count.pending c.carry_all.new.pending (state_of c.args.shell.now) (state_of c.loop-count.shell) (state_of c.carry_all.new.shell)
      _ c.in-Ok.count c.take.new.buf _ refl c.loop-count.invariant.0 c.in-Ok.ensures.log c.in-Ok-carry_all.ensures.does,
  c.in-Ok-carry_all.ensures.fit,
)

pub returns-in-Err-clause-reads : goal.returns-in-Err-clause-reads
returns-in-Err-clause-reads g c =
    subst (λ (stop : Stop). ReadsAll (disk_view g.D.Disk.honest g.D.Disk.moment g.D.Disk.seen g.D.Disk.past g.D.Disk.faults) (g.S.Source.log c.args.input.now) (g.S.Source.log c.take.new.self)
    (g.O.Sink.log c.args.out.now) (g.O.Sink.log c.carry_all.new.out) c.args.shell.now.desk c.carry_all.new.shell.desk (state_of c.args.shell.now) (state_of c.carry_all.new.shell) stop) (sym c.stop_of.ensures)
    (all_stopped (disk_view g.D.Disk.honest g.D.Disk.moment g.D.Disk.seen g.D.Disk.past g.D.Disk.faults) (g.S.Source.log c.args.input.now) (g.S.Source.log c.loop-count.input) (g.S.Source.log c.take.new.self)
    (g.O.Sink.log c.args.out.now) (g.O.Sink.log c.loop-count.out) (g.O.Sink.log c.carry_all.new.out) c.args.shell.now.desk c.loop-count.shell.desk c.carry_all.new.shell.desk
    c.loop-count.pending c.carry_all.new.pending (state_of c.args.shell.now) (state_of c.loop-count.shell) (state_of c.carry_all.new.shell)
    _ c.in-Ok.count c.take.new.buf _ c.in-Err.halt refl c.loop-count.invariant.0 c.in-Ok.ensures.log c.in-Err.ensures.does)

pub returns-in-Err-clause-fit : goal.returns-in-Err-clause-fit
returns-in-Err-clause-fit g c = c.in-Err.ensures.fit
