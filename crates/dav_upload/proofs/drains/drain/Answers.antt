use Rattle.std.proofs.Common.{Ok, Err, refl}
use Rattle.dav_upload.specs.declared.did.Did.TheVariants as did
use Rattle.dav_upload.specs.Desks.{disk_view}
use Rattle.dav_upload.specs.Drain.{Drains, Turned}
use Rattle.dav_upload.proofs.Draining.{drains_on, drains_end, turn_rests, turn_stops, turn_falls, turn_empties, after_fault, turned_so}
use Rattle.dav_upload.proofs.StillQueued.{turn_steps, still_begins, still_on, still_ends}
use Rattle.dav_upload.proofs.TurnRuns.{pair_same}
use Rattle.dav_upload.proofs.TurnTables.{turn_sound}
use Rattle.dav_upload.proofs.TurnWork.{turn_keeps, turn_after, after_outlives}
use Rattle.dav_upload.proofs.drains.drain.Goals as goal

pub loop-did-init : goal.loop-did-init
loop-did-init g c =
    (pair_same (disk_view g.D.Disk.honest g.D.Disk.moment g.D.Disk.seen g.D.Disk.past g.D.Disk.faults) _ c.args.desk.now (Drains c.args.base.now c.args.now c.args.desk.now.table), λ honest url opening start given begun work. work, c.requires.resting, c.requires.stopping, c.requires.readied, still_begins c.args.desk.now.table c.args.desk.now.recorder.trace.steps.items)

pub returns-in-Err-clause-does : goal.returns-in-Err-clause-does
returns-in-Err-clause-does g c =
    drains_end (disk_view g.D.Disk.honest g.D.Disk.moment g.D.Disk.seen g.D.Disk.past g.D.Disk.faults) c.args.base.now c.args.now (g.V.Wire.log c.args.wire.now) (g.V.Wire.log c.loop-did.wire) (g.V.Wire.log c.make_turn.new.wire) c.args.desk.now c.loop-did.desk c.make_turn.new.desk (Err c.in-Err.fault) (Err c.in-Err.fault) refl c.loop-did.invariant.0 c.in-Err.ensures.turned

pub returns-in-Err-clause-work : goal.returns-in-Err-clause-work
returns-in-Err-clause-work g c =
    λ honest url opening start given begun work.
    after_fault (disk_view g.D.Disk.honest g.D.Disk.moment g.D.Disk.seen g.D.Disk.past g.D.Disk.faults) c.args.base.now url opening start given begun (g.V.Wire.log c.make_turn.new.wire) c.make_turn.new.desk c.in-Err.fault (Err c.in-Err.fault) (Err c.in-Err.fault) refl refl
    (turn_after (disk_view g.D.Disk.honest g.D.Disk.moment g.D.Disk.seen g.D.Disk.past g.D.Disk.faults) c.args.base.now url opening start given begun (g.V.Wire.log c.loop-did.wire) (g.V.Wire.log c.make_turn.new.wire) c.loop-did.desk c.make_turn.new.desk c.args.now (Err c.in-Err.fault) c.in-Err.ensures.turned honest (c.loop-did.invariant.1 (turn_keeps (disk_view g.D.Disk.honest g.D.Disk.moment g.D.Disk.seen g.D.Disk.past g.D.Disk.faults) c.args.base.now (g.V.Wire.log c.loop-did.wire) (g.V.Wire.log c.make_turn.new.wire) c.loop-did.desk c.make_turn.new.desk c.args.now (Err c.in-Err.fault) c.in-Err.ensures.turned honest) url opening start given begun work))

pub returns-in-Err-clause-outlives : goal.returns-in-Err-clause-outlives
returns-in-Err-clause-outlives g c =
    λ honest url opening start given begun work.
    let turned : Turned = Err c.in-Err.fault in
    after_outlives (disk_view g.D.Disk.honest g.D.Disk.moment g.D.Disk.seen g.D.Disk.past g.D.Disk.faults) c.args.base.now url opening start given begun turned (g.V.Wire.log c.make_turn.new.wire) c.make_turn.new.desk
    (turn_after (disk_view g.D.Disk.honest g.D.Disk.moment g.D.Disk.seen g.D.Disk.past g.D.Disk.faults) c.args.base.now url opening start given begun (g.V.Wire.log c.loop-did.wire) (g.V.Wire.log c.make_turn.new.wire) c.loop-did.desk c.make_turn.new.desk c.args.now (Err c.in-Err.fault) c.in-Err.ensures.turned honest (c.loop-did.invariant.1 (turn_keeps (disk_view g.D.Disk.honest g.D.Disk.moment g.D.Disk.seen g.D.Disk.past g.D.Disk.faults) c.args.base.now (g.V.Wire.log c.loop-did.wire) (g.V.Wire.log c.make_turn.new.wire) c.loop-did.desk c.make_turn.new.desk c.args.now (Err c.in-Err.fault) c.in-Err.ensures.turned honest) url opening start given begun work))

pub returns-in-Err-clause-sound : goal.returns-in-Err-clause-sound
returns-in-Err-clause-sound g c =
    turn_sound (disk_view g.D.Disk.honest g.D.Disk.moment g.D.Disk.seen g.D.Disk.past g.D.Disk.faults) c.args.base.now (g.V.Wire.log c.loop-did.wire) (g.V.Wire.log c.make_turn.new.wire) c.loop-did.desk c.make_turn.new.desk c.args.now (Err c.in-Err.fault) c.in-Err.ensures.turned c.loop-did.invariant.2.sound

pub loop-did-smaller : goal.loop-did-smaller
loop-did-smaller g c =
    turn_falls (disk_view g.D.Disk.honest g.D.Disk.moment g.D.Disk.seen g.D.Disk.past g.D.Disk.faults) c.args.base.now c.args.now (g.V.Wire.log c.loop-did.wire) (g.V.Wire.log c.make_turn.new.wire) c.loop-did.desk c.make_turn.new.desk c.in-Settled.field-0
    (turned_so (disk_view g.D.Disk.honest g.D.Disk.moment g.D.Disk.seen g.D.Disk.past g.D.Disk.faults) c.args.base.now c.args.now (g.V.Wire.log c.loop-did.wire) (g.V.Wire.log c.make_turn.new.wire) c.loop-did.desk c.make_turn.new.desk c.in-Ok.did (did.Settled c.in-Settled.field-0) c.in-Settled.is c.in-Ok.ensures.turned)
    c.loop-did.invariant.2 c.loop-did.invariant.3 c.requires.time

pub loop-did-preserved : goal.loop-did-preserved
loop-did-preserved g c =
    let one = turned_so (disk_view g.D.Disk.honest g.D.Disk.moment g.D.Disk.seen g.D.Disk.past g.D.Disk.faults) c.args.base.now c.args.now (g.V.Wire.log c.loop-did.wire) (g.V.Wire.log c.make_turn.new.wire) c.loop-did.desk c.make_turn.new.desk c.in-Ok.did (did.Settled c.in-Settled.field-0) c.in-Settled.is c.in-Ok.ensures.turned in (
      drains_on (disk_view g.D.Disk.honest g.D.Disk.moment g.D.Disk.seen g.D.Disk.past g.D.Disk.faults) c.args.base.now c.args.now (g.V.Wire.log c.args.wire.now) (g.V.Wire.log c.loop-did.wire) (g.V.Wire.log c.make_turn.new.wire) c.args.desk.now c.loop-did.desk c.make_turn.new.desk c.in-Settled.field-0 c.loop-did.invariant.0 one,
      λ honest url opening start given begun work.
          turn_after (disk_view g.D.Disk.honest g.D.Disk.moment g.D.Disk.seen g.D.Disk.past g.D.Disk.faults) c.args.base.now url opening start given begun (g.V.Wire.log c.loop-did.wire) (g.V.Wire.log c.make_turn.new.wire) c.loop-did.desk c.make_turn.new.desk c.args.now (Ok (did.Settled c.in-Settled.field-0)) one honest (c.loop-did.invariant.1 (turn_keeps (disk_view g.D.Disk.honest g.D.Disk.moment g.D.Disk.seen g.D.Disk.past g.D.Disk.faults) c.args.base.now (g.V.Wire.log c.loop-did.wire) (g.V.Wire.log c.make_turn.new.wire) c.loop-did.desk c.make_turn.new.desk c.args.now (Ok (did.Settled c.in-Settled.field-0)) one honest) url opening start given begun work),
      turn_rests (disk_view g.D.Disk.honest g.D.Disk.moment g.D.Disk.seen g.D.Disk.past g.D.Disk.faults) c.args.base.now c.args.now (g.V.Wire.log c.loop-did.wire) (g.V.Wire.log c.make_turn.new.wire) c.loop-did.desk c.make_turn.new.desk c.in-Settled.field-0 one c.loop-did.invariant.2,
      turn_stops (disk_view g.D.Disk.honest g.D.Disk.moment g.D.Disk.seen g.D.Disk.past g.D.Disk.faults) c.args.base.now c.args.now (g.V.Wire.log c.loop-did.wire) (g.V.Wire.log c.make_turn.new.wire) c.loop-did.desk c.make_turn.new.desk c.in-Settled.field-0 one c.loop-did.invariant.3,
      c.make_turn.ensures.readied,
      still_on c.args.desk.now.table c.loop-did.desk.table c.make_turn.new.desk.table c.args.now c.args.desk.now.recorder.trace.steps.items c.loop-did.desk.recorder.trace.steps.items c.make_turn.new.desk.recorder.trace.steps.items c.loop-did.invariant.5
          (turn_steps (disk_view g.D.Disk.honest g.D.Disk.moment g.D.Disk.seen g.D.Disk.past g.D.Disk.faults) c.args.base.now (g.V.Wire.log c.loop-did.wire) (g.V.Wire.log c.make_turn.new.wire) c.loop-did.desk c.make_turn.new.desk c.args.now (Ok (did.Settled c.in-Settled.field-0)) c.in-Settled.field-0 one refl)
          c.loop-did.invariant.2.sound c.loop-did.invariant.3 c.requires.time,
    )

pub returns-in-Nothing-clause-does : goal.returns-in-Nothing-clause-does
returns-in-Nothing-clause-does g c =
    drains_end (disk_view g.D.Disk.honest g.D.Disk.moment g.D.Disk.seen g.D.Disk.past g.D.Disk.faults) c.args.base.now c.args.now (g.V.Wire.log c.args.wire.now) (g.V.Wire.log c.loop-did.wire) (g.V.Wire.log c.make_turn.new.wire) c.args.desk.now c.loop-did.desk c.make_turn.new.desk (Ok did.Nothing) (Ok tt) refl c.loop-did.invariant.0
    (turned_so (disk_view g.D.Disk.honest g.D.Disk.moment g.D.Disk.seen g.D.Disk.past g.D.Disk.faults) c.args.base.now c.args.now (g.V.Wire.log c.loop-did.wire) (g.V.Wire.log c.make_turn.new.wire) c.loop-did.desk c.make_turn.new.desk c.in-Ok.did did.Nothing c.in-Nothing.is c.in-Ok.ensures.turned)

pub returns-in-Nothing-clause-work : goal.returns-in-Nothing-clause-work
returns-in-Nothing-clause-work g c =
    λ honest url opening start given begun work.
    turn_after (disk_view g.D.Disk.honest g.D.Disk.moment g.D.Disk.seen g.D.Disk.past g.D.Disk.faults) c.args.base.now url opening start given begun (g.V.Wire.log c.loop-did.wire) (g.V.Wire.log c.make_turn.new.wire) c.loop-did.desk c.make_turn.new.desk c.args.now (Ok did.Nothing)
    (turned_so (disk_view g.D.Disk.honest g.D.Disk.moment g.D.Disk.seen g.D.Disk.past g.D.Disk.faults) c.args.base.now c.args.now (g.V.Wire.log c.loop-did.wire) (g.V.Wire.log c.make_turn.new.wire) c.loop-did.desk c.make_turn.new.desk c.in-Ok.did did.Nothing c.in-Nothing.is c.in-Ok.ensures.turned)
    honest (c.loop-did.invariant.1 (turn_keeps (disk_view g.D.Disk.honest g.D.Disk.moment g.D.Disk.seen g.D.Disk.past g.D.Disk.faults) c.args.base.now (g.V.Wire.log c.loop-did.wire) (g.V.Wire.log c.make_turn.new.wire) c.loop-did.desk c.make_turn.new.desk c.args.now (Ok did.Nothing) (turned_so (disk_view g.D.Disk.honest g.D.Disk.moment g.D.Disk.seen g.D.Disk.past g.D.Disk.faults) c.args.base.now c.args.now (g.V.Wire.log c.loop-did.wire) (g.V.Wire.log c.make_turn.new.wire) c.loop-did.desk c.make_turn.new.desk c.in-Ok.did did.Nothing c.in-Nothing.is c.in-Ok.ensures.turned) honest) url opening start given begun work)

pub returns-in-Nothing-clause-outlives : goal.returns-in-Nothing-clause-outlives
returns-in-Nothing-clause-outlives g c =
    λ honest url opening start given begun work.
    let turned : Turned = Ok did.Nothing in
    after_outlives (disk_view g.D.Disk.honest g.D.Disk.moment g.D.Disk.seen g.D.Disk.past g.D.Disk.faults) c.args.base.now url opening start given begun turned (g.V.Wire.log c.make_turn.new.wire) c.make_turn.new.desk
    (turn_after (disk_view g.D.Disk.honest g.D.Disk.moment g.D.Disk.seen g.D.Disk.past g.D.Disk.faults) c.args.base.now url opening start given begun (g.V.Wire.log c.loop-did.wire) (g.V.Wire.log c.make_turn.new.wire) c.loop-did.desk c.make_turn.new.desk c.args.now (Ok did.Nothing)
    (turned_so (disk_view g.D.Disk.honest g.D.Disk.moment g.D.Disk.seen g.D.Disk.past g.D.Disk.faults) c.args.base.now c.args.now (g.V.Wire.log c.loop-did.wire) (g.V.Wire.log c.make_turn.new.wire) c.loop-did.desk c.make_turn.new.desk c.in-Ok.did did.Nothing c.in-Nothing.is c.in-Ok.ensures.turned)
    honest (c.loop-did.invariant.1 (turn_keeps (disk_view g.D.Disk.honest g.D.Disk.moment g.D.Disk.seen g.D.Disk.past g.D.Disk.faults) c.args.base.now (g.V.Wire.log c.loop-did.wire) (g.V.Wire.log c.make_turn.new.wire) c.loop-did.desk c.make_turn.new.desk c.args.now (Ok did.Nothing) (turned_so (disk_view g.D.Disk.honest g.D.Disk.moment g.D.Disk.seen g.D.Disk.past g.D.Disk.faults) c.args.base.now c.args.now (g.V.Wire.log c.loop-did.wire) (g.V.Wire.log c.make_turn.new.wire) c.loop-did.desk c.make_turn.new.desk c.in-Ok.did did.Nothing c.in-Nothing.is c.in-Ok.ensures.turned) honest) url opening start given begun work))

pub returns-in-Nothing-clause-emptied : goal.returns-in-Nothing-clause-emptied
returns-in-Nothing-clause-emptied g c =
    turn_empties (disk_view g.D.Disk.honest g.D.Disk.moment g.D.Disk.seen g.D.Disk.past g.D.Disk.faults) c.args.base.now c.args.now (g.V.Wire.log c.loop-did.wire) (g.V.Wire.log c.make_turn.new.wire) c.loop-did.desk c.make_turn.new.desk
    (turned_so (disk_view g.D.Disk.honest g.D.Disk.moment g.D.Disk.seen g.D.Disk.past g.D.Disk.faults) c.args.base.now c.args.now (g.V.Wire.log c.loop-did.wire) (g.V.Wire.log c.make_turn.new.wire) c.loop-did.desk c.make_turn.new.desk c.in-Ok.did did.Nothing c.in-Nothing.is c.in-Ok.ensures.turned)
    c.loop-did.invariant.2 c.loop-did.invariant.3

pub returns-in-Nothing-clause-again : goal.returns-in-Nothing-clause-again
returns-in-Nothing-clause-again g c =
    let view = (disk_view g.D.Disk.honest g.D.Disk.moment g.D.Disk.seen g.D.Disk.past g.D.Disk.faults) in
    let one = (turned_so (disk_view g.D.Disk.honest g.D.Disk.moment g.D.Disk.seen g.D.Disk.past g.D.Disk.faults) c.args.base.now c.args.now (g.V.Wire.log c.loop-did.wire) (g.V.Wire.log c.make_turn.new.wire) c.loop-did.desk c.make_turn.new.desk c.in-Ok.did did.Nothing c.in-Nothing.is c.in-Ok.ensures.turned) in
    still_ends view c.args.base.now c.args.now (g.V.Wire.log c.loop-did.wire) (g.V.Wire.log c.make_turn.new.wire) c.args.desk.now c.loop-did.desk c.make_turn.new.desk c.loop-did.invariant.5 one
    (turn_empties view c.args.base.now c.args.now (g.V.Wire.log c.loop-did.wire) (g.V.Wire.log c.make_turn.new.wire) c.loop-did.desk c.make_turn.new.desk one c.loop-did.invariant.2 c.loop-did.invariant.3).0

pub returns-in-Nothing-clause-sound : goal.returns-in-Nothing-clause-sound
returns-in-Nothing-clause-sound g c =
    turn_sound (disk_view g.D.Disk.honest g.D.Disk.moment g.D.Disk.seen g.D.Disk.past g.D.Disk.faults) c.args.base.now (g.V.Wire.log c.loop-did.wire) (g.V.Wire.log c.make_turn.new.wire) c.loop-did.desk c.make_turn.new.desk c.args.now (Ok did.Nothing)
    (turned_so (disk_view g.D.Disk.honest g.D.Disk.moment g.D.Disk.seen g.D.Disk.past g.D.Disk.faults) c.args.base.now c.args.now (g.V.Wire.log c.loop-did.wire) (g.V.Wire.log c.make_turn.new.wire) c.loop-did.desk c.make_turn.new.desk c.in-Ok.did did.Nothing c.in-Nothing.is c.in-Ok.ensures.turned)
    c.loop-did.invariant.2.sound
