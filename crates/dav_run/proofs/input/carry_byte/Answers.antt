use Rattle.std.proofs.lemmas.Bool.{ne_eqb, eq-eqb}
use Rattle.dav_upload.specs.Desks.{disk_view}
use Rattle.dav_run.specs.Said.{state_of}
use Rattle.dav_run.proofs.CarryingOut.{reads_byte, reads_feed}
use Rattle.dav_run.proofs.input.carry_byte.Goals as goal

pub returns-then-byte-ne10-clause-does : goal.returns-then-byte-ne10-clause-does
returns-then-byte-ne10-clause-does g c = λ begun holds.
    reads_byte (disk_view g.D.Disk.honest g.D.Disk.moment g.D.Disk.seen g.D.Disk.past g.D.Disk.faults) (g.O.Sink.log c.args.out.now) c.args.shell.now.desk c.args.byte begun c.push.new.self (state_of c.args.shell.now) (ne_eqb c.args.byte 10 c.if-byte-ne10.true) (c.push.ensures begun holds)

pub returns-then-byte-ne10-clause-fit : goal.returns-then-byte-ne10-clause-fit
returns-then-byte-ne10-clause-fit g c = c.requires

pub carry_out-went-requires : goal.carry_out-went-requires
carry_out-went-requires g c = c.requires

pub returns-clause-does : goal.returns-clause-does
returns-clause-does g c = λ begun holds.
    reads_feed (disk_view g.D.Disk.honest g.D.Disk.moment g.D.Disk.seen g.D.Disk.past g.D.Disk.faults) (g.O.Sink.log c.args.out.now) (g.O.Sink.log c.carry_out-went.new.out) c.args.shell.now.desk c.carry_out-went.new.shell.desk c.args.byte begun c.clear.new.self
    (state_of c.args.shell.now) (state_of c.carry_out-went.new.shell) c.carry_out-went.result (eq-eqb c.args.byte 10 c.if-byte-ne10.false) c.clear.ensures (c.carry_out-went.ensures.does begun holds)

pub returns-clause-fit : goal.returns-clause-fit
returns-clause-fit g c = c.carry_out-went.ensures.fit
