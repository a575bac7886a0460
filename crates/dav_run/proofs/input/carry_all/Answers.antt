use Rattle.std.proofs.Common.{Ok}
use Rattle.dav_upload.specs.Desks.{disk_view}
use Rattle.dav_run.specs.Said.{state_of}
use Rattle.dav_run.proofs.CarryingOut.{reads_none, reads_more, reads_stop, reads_all}
use Rattle.dav_run.proofs.input.carry_all.Goals as goal

pub loop-byte-init : goal.loop-byte-init
loop-byte-init g c =
    ((λ begun holds. reads_none (disk_view g.D.Disk.honest g.D.Disk.moment g.D.Disk.seen g.D.Disk.past g.D.Disk.faults) (g.O.Sink.log c.args.out.now) c.args.shell.now.desk begun c.args.pending.now (state_of c.args.shell.now) holds), c.requires)

pub carry_byte-requires : goal.carry_byte-requires
carry_byte-requires g c = c.loop-byte.invariant.1

pub returns-in-Err-clause-does : goal.returns-in-Err-clause-does
returns-in-Err-clause-does g c = λ begun holds.
    reads_stop (disk_view g.D.Disk.honest g.D.Disk.moment g.D.Disk.seen g.D.Disk.past g.D.Disk.faults) (g.O.Sink.log c.args.out.now) (g.O.Sink.log c.loop-byte.out) (g.O.Sink.log c.carry_byte.new.out) c.args.shell.now.desk c.loop-byte.shell.desk c.carry_byte.new.shell.desk c.args.piece.now begun c.loop-byte.byte-index
    c.loop-byte.pending c.carry_byte.new.pending (state_of c.args.shell.now) (state_of c.loop-byte.shell) (state_of c.carry_byte.new.shell) tt c.in-Err.halt
    c.loop-byte-test.true (c.loop-byte.invariant.0 begun holds) c.in-Err.ensures.does

pub returns-in-Err-clause-fit : goal.returns-in-Err-clause-fit
returns-in-Err-clause-fit g c = c.in-Err.ensures.fit

pub loop-byte-preserved : goal.loop-byte-preserved
loop-byte-preserved g c = (
  (λ begun holds.
      reads_more (disk_view g.D.Disk.honest g.D.Disk.moment g.D.Disk.seen g.D.Disk.past g.D.Disk.faults) (g.O.Sink.log c.args.out.now) (g.O.Sink.log c.loop-byte.out) (g.O.Sink.log c.carry_byte.new.out) c.args.shell.now.desk c.loop-byte.shell.desk c.carry_byte.new.shell.desk c.args.piece.now begun c.loop-byte.byte-index
      c.loop-byte.pending c.carry_byte.new.pending (state_of c.args.shell.now) (state_of c.loop-byte.shell) (state_of c.carry_byte.new.shell) tt (Ok tt)
      c.loop-byte-test.true (c.loop-byte.invariant.0 begun holds) c.in-Ok.ensures.does),
  c.in-Ok.ensures.fit,
)

pub returns-clause-does : goal.returns-clause-does
returns-clause-does g c = λ begun holds.
    reads_all (disk_view g.D.Disk.honest g.D.Disk.moment g.D.Disk.seen g.D.Disk.past g.D.Disk.faults) (g.O.Sink.log c.args.out.now) (g.O.Sink.log c.loop-byte.out) c.args.shell.now.desk c.loop-byte.shell.desk c.args.piece.now begun c.loop-byte.byte-index
    c.loop-byte.pending (state_of c.args.shell.now) (state_of c.loop-byte.shell) tt c.loop-byte-test.false (c.loop-byte.invariant.0 begun holds)

pub returns-clause-fit : goal.returns-clause-fit
returns-clause-fit g c = c.loop-byte.invariant.1
