use Rattle.std.proofs.Common.{rules, ◌≡◌, ◌≢◌, inl, inr, Result, ℕ, ◌<◌, arith, List, length, Option, Some, None, sym, ◌∙◌, ap, subst}
use Rattle.std.specs.Prelude.{IfErr, vec_capacity}
use Rattle.std.proofs.lemmas.Bool.{false≢true}
use Rattle.std.proofs.lemmas.Result.{err_from_is_err_and}
use Rattle.dav_deeds.specs.Answers.{Ends, kind_told, wanted}
use Rattle.dav_deeds.specs.DeskTable.{DeskTable}
use Rattle.dav_deeds.specs.Effects.{after, effect_of}
use Rattle.dav_deeds.specs.Legal.{deed_of, new_body}
use Rattle.dav_deeds.specs.Sound.{IsSound}
use Rattle.dav_deeds.specs.declared.answer.Answer.{Answer}
use Rattle.dav_deeds.specs.declared.answer.Told.{Told}
use Rattle.dav_deeds.specs.declared.fault.DeskFault.{DeskFault}
use Rattle.dav_deeds.specs.declared.fault.DeskFault.TheVariants.{Disk, Memory}
use Rattle.dav_deeds.specs.declared.spare.Spare.{Spare}
use Rattle.dav_deeds.specs.Made.{answer_by}
use Rattle.dav_deeds.specs.Spare.{HasSpare, kept_spare}
use Rattle.dav_desk.specs.Verdict.{with_bytes}
use Rattle.dav_deeds.specs.declared.deed.Deed.{Deed}
use Rattle.dav_deeds.specs.declared.deed.Step.{Step}
use Rattle.dav_deeds.specs.declared.deed.Trace.{Trace}
use Rattle.dav_deeds.proofs.AllRows.{after_sound, new_begins}
use Rattle.dav_deeds.proofs.Rows.{end_wants}
use Rattle.dav_recorder.specs.declared.recorder.Recorder.{Recorder}
use Rattle.dav_desk.specs.Working.{IsWorking, HasBytes, HasSum}
use Rattle.dav_desk.proofs.Carrying.{Base, Read, Stood, starved_asked, starved_readied, starved_faults, starved_works, starved_lives_on, can_record, missing_asked, missing_readied, read_faults, read_works, read_left, read_entry, read_named, lives, lives_read, entered_faults, failed_asked, failed_readied, failed_not_alive, went_asked, went_readied, went_works, went_lives_on}
use Rattle.dav_desk.proofs.Rooming.{held_slot, one_slot}
use Rattle.dav_desk.proofs.Entering.{row_fits, freed_begin}
use Rattle.dav_desk.proofs.Going.{answer_has, body_bytes, body_sum, end_answers}
use Rattle.dav_recorder.proofs.Filing.{changes_none}
use Rattle.dav_recorder.specs.Stands.{IsWritten}
use Rattle.dav_desk.specs.Changed.{fresh_by, freed_by}
use Rattle.dav_desk.proofs.Changing.{changes_asked, changes_looked, stored_asked, empty_asked, on_ok_any}
use Rattle.dav_desk.specs.Called.{one_call, told_calls}
use Rattle.dav_desk.proofs.Calling.{uncalled, unread, failed, went, alive_undamaged, died_undamaged}
use Rattle.dav_desk.proofs.Asking.{end_of}
use Rattle.dav_recorder.specs.Files.{ChangesOnly}
use Rattle.dav_desk.proofs.desk.Desk.carry_out.Goals as goal

pub returns-in_err-reserve-clause-asked : goal.returns-in_err-reserve-clause-asked
returns-in_err-reserve-clause-asked g c =
    let b : Base g.D.Disk.honest g.D.Disk.moment g.D.Disk.seen g.D.Disk.past c.args.self.now c.args.ask.now c.args.planned c.args.row.now c.reserve.new.self =
    record { alive = c.requires.alive; sound = c.requires.sound; plan = c.requires.plan; ready = c.requires.ready; held = c.requires.held; rest = c.reserve.ensures.rest; room = c.reserve.ensures.items; more = c.reserve.ensures.capacity } in
    let p = err_from_is_err_and c.from_residual.result c.from_residual.ensures.1 in
    rw (p.1, p.2) (starved_asked g.D.Disk.honest g.D.Disk.moment g.D.Disk.seen g.D.Disk.past g.D.Disk.faults c.args.self.now c.args.ask.now c.args.planned c.args.row.now c.reserve.new.self b)

pub returns-in_err-reserve-clause-working : goal.returns-in_err-reserve-clause-working
returns-in_err-reserve-clause-working g c h url opening start given has is dead =
    let b : Base g.D.Disk.honest g.D.Disk.moment g.D.Disk.seen g.D.Disk.past c.args.self.now c.args.ask.now c.args.planned c.args.row.now c.reserve.new.self =
    record { alive = c.requires.alive; sound = c.requires.sound; plan = c.requires.plan; ready = c.requires.ready; held = c.requires.held; rest = c.reserve.ensures.rest; room = c.reserve.ensures.items; more = c.reserve.ensures.capacity } in
    starved_works g.D.Disk.honest g.D.Disk.moment g.D.Disk.seen g.D.Disk.past g.D.Disk.faults c.args.self.now c.args.ask.now c.args.planned c.args.row.now c.reserve.new.self b url opening start given is

pub returns-in_err-reserve-clause-stopped : goal.returns-in_err-reserve-clause-stopped
returns-in_err-reserve-clause-stopped g c h url opening start given has is dead =
    let b : Base g.D.Disk.honest g.D.Disk.moment g.D.Disk.seen g.D.Disk.past c.args.self.now c.args.ask.now c.args.planned c.args.row.now c.reserve.new.self =
    record { alive = c.requires.alive; sound = c.requires.sound; plan = c.requires.plan; ready = c.requires.ready; held = c.requires.held; rest = c.reserve.ensures.rest; room = c.reserve.ensures.items; more = c.reserve.ensures.capacity } in
    absurd (starved_lives_on g.D.Disk.honest g.D.Disk.moment g.D.Disk.seen g.D.Disk.past g.D.Disk.faults c.args.self.now c.args.ask.now c.args.planned c.args.row.now c.reserve.new.self b dead)

pub returns-in_err-reserve-clause-bytes : goal.returns-in_err-reserve-clause-bytes
returns-in_err-reserve-clause-bytes g c =
    let p = err_from_is_err_and c.from_residual.result c.from_residual.ensures.1 in
    rw p.1 (λ h. tt)

pub returns-in_err-reserve-clause-sum : goal.returns-in_err-reserve-clause-sum
returns-in_err-reserve-clause-sum g c =
    let p = err_from_is_err_and c.from_residual.result c.from_residual.ensures.1 in
    rw p.1 tt

pub returns-in_err-reserve-clause-sound : goal.returns-in_err-reserve-clause-sound
returns-in_err-reserve-clause-sound g c =
    c.requires.sound

pub returns-in_err-reserve-clause-readied : goal.returns-in_err-reserve-clause-readied
returns-in_err-reserve-clause-readied g c =
    let b : Base g.D.Disk.honest g.D.Disk.moment g.D.Disk.seen g.D.Disk.past c.args.self.now c.args.ask.now c.args.planned c.args.row.now c.reserve.new.self =
    record { alive = c.requires.alive; sound = c.requires.sound; plan = c.requires.plan; ready = c.requires.ready; held = c.requires.held; rest = c.reserve.ensures.rest; room = c.reserve.ensures.items; more = c.reserve.ensures.capacity } in
    starved_readied g.D.Disk.honest g.D.Disk.moment g.D.Disk.seen g.D.Disk.past g.D.Disk.faults c.args.self.now c.args.ask.now c.args.planned c.args.row.now c.reserve.new.self b
    (λ same.
    let slot = held_slot c.args.self.now c.args.planned.made.step.told same c.requires.held in
    false≢true (c.in_err-reserve.ensures.succeeds (omega (arith, slot, c.slots.ensures))))

pub returns-in_err-reserve-clause-faults : goal.returns-in_err-reserve-clause-faults
returns-in_err-reserve-clause-faults g c =
    let b : Base g.D.Disk.honest g.D.Disk.moment g.D.Disk.seen g.D.Disk.past c.args.self.now c.args.ask.now c.args.planned c.args.row.now c.reserve.new.self =
    record { alive = c.requires.alive; sound = c.requires.sound; plan = c.requires.plan; ready = c.requires.ready; held = c.requires.held; rest = c.reserve.ensures.rest; room = c.reserve.ensures.items; more = c.reserve.ensures.capacity } in
    starved_faults g.D.Disk.honest g.D.Disk.moment g.D.Disk.seen g.D.Disk.past g.D.Disk.faults c.args.self.now c.args.ask.now c.args.planned c.args.row.now c.reserve.new.self b

pub returns-in-Err-clause-asked : goal.returns-in-Err-clause-asked
returns-in-Err-clause-asked g c =
    let b : Base g.D.Disk.honest g.D.Disk.moment g.D.Disk.seen g.D.Disk.past c.args.self.now c.args.ask.now c.args.planned c.args.row.now c.reserve.new.self =
    record { alive = c.requires.alive; sound = c.requires.sound; plan = c.requires.plan; ready = c.requires.ready; held = c.requires.held; rest = c.reserve.ensures.rest; room = c.reserve.ensures.items; more = c.reserve.ensures.capacity } in
    let k : Read g.D.Disk.honest g.D.Disk.moment g.D.Disk.seen g.D.Disk.past g.D.Disk.faults c.reserve.new.self c.told_bytes.new.recorder =
    record { trace = c.told_bytes.ensures.trace; more = c.told_bytes.ensures.faults; keeps = c.told_bytes.ensures.keeps; ready = c.told_bytes.ensures.ready; live = c.told_bytes.ensures.live } in
    missing_asked g.D.Disk.honest g.D.Disk.moment g.D.Disk.seen g.D.Disk.past g.D.Disk.faults c.args.self.now c.args.ask.now c.args.planned c.args.row.now c.reserve.new.self b c.told_bytes.new.recorder k c.in-Err.fault c.in-Err.ensures.fault c.in-Err.ensures.starved c.in-Err.ensures.stopped

pub returns-in-Err-clause-working : goal.returns-in-Err-clause-working
returns-in-Err-clause-working g c h url opening start given has is dead =
    let b : Base g.D.Disk.honest g.D.Disk.moment g.D.Disk.seen g.D.Disk.past c.args.self.now c.args.ask.now c.args.planned c.args.row.now c.reserve.new.self =
    record { alive = c.requires.alive; sound = c.requires.sound; plan = c.requires.plan; ready = c.requires.ready; held = c.requires.held; rest = c.reserve.ensures.rest; room = c.reserve.ensures.items; more = c.reserve.ensures.capacity } in
    let k : Read g.D.Disk.honest g.D.Disk.moment g.D.Disk.seen g.D.Disk.past g.D.Disk.faults c.reserve.new.self c.told_bytes.new.recorder =
    record { trace = c.told_bytes.ensures.trace; more = c.told_bytes.ensures.faults; keeps = c.told_bytes.ensures.keeps; ready = c.told_bytes.ensures.ready; live = c.told_bytes.ensures.live } in
    read_works g.D.Disk.honest g.D.Disk.moment g.D.Disk.seen g.D.Disk.past g.D.Disk.faults c.args.self.now c.args.ask.now c.args.planned c.args.row.now c.reserve.new.self b c.told_bytes.new.recorder k h url opening start given is dead

pub returns-in-Err-clause-stopped : goal.returns-in-Err-clause-stopped
returns-in-Err-clause-stopped g c h url opening start given has is dead =
    let b : Base g.D.Disk.honest g.D.Disk.moment g.D.Disk.seen g.D.Disk.past c.args.self.now c.args.ask.now c.args.planned c.args.row.now c.reserve.new.self =
    record { alive = c.requires.alive; sound = c.requires.sound; plan = c.requires.plan; ready = c.requires.ready; held = c.requires.held; rest = c.reserve.ensures.rest; room = c.reserve.ensures.items; more = c.reserve.ensures.capacity } in
    let k : Read g.D.Disk.honest g.D.Disk.moment g.D.Disk.seen g.D.Disk.past g.D.Disk.faults c.reserve.new.self c.told_bytes.new.recorder =
    record { trace = c.told_bytes.ensures.trace; more = c.told_bytes.ensures.faults; keeps = c.told_bytes.ensures.keeps; ready = c.told_bytes.ensures.ready; live = c.told_bytes.ensures.live } in
    read_left g.D.Disk.honest g.D.Disk.moment g.D.Disk.seen g.D.Disk.past g.D.Disk.faults c.args.self.now c.args.ask.now c.args.planned c.args.row.now c.reserve.new.self b c.told_bytes.new.recorder k h url opening start given is

pub returns-in-Err-clause-sound : goal.returns-in-Err-clause-sound
returns-in-Err-clause-sound g c =
    c.requires.sound

pub returns-in-Err-clause-readied : goal.returns-in-Err-clause-readied
returns-in-Err-clause-readied g c =
    let b : Base g.D.Disk.honest g.D.Disk.moment g.D.Disk.seen g.D.Disk.past c.args.self.now c.args.ask.now c.args.planned c.args.row.now c.reserve.new.self =
    record { alive = c.requires.alive; sound = c.requires.sound; plan = c.requires.plan; ready = c.requires.ready; held = c.requires.held; rest = c.reserve.ensures.rest; room = c.reserve.ensures.items; more = c.reserve.ensures.capacity } in
    let k : Read g.D.Disk.honest g.D.Disk.moment g.D.Disk.seen g.D.Disk.past g.D.Disk.faults c.reserve.new.self c.told_bytes.new.recorder =
    record { trace = c.told_bytes.ensures.trace; more = c.told_bytes.ensures.faults; keeps = c.told_bytes.ensures.keeps; ready = c.told_bytes.ensures.ready; live = c.told_bytes.ensures.live } in
    missing_readied g.D.Disk.honest g.D.Disk.moment g.D.Disk.seen g.D.Disk.past g.D.Disk.faults c.args.self.now c.args.ask.now c.args.planned c.args.row.now c.reserve.new.self b c.told_bytes.new.recorder k c.in-Err.fault c.in-Err.ensures.fault c.in-Err.ensures.starved c.in-Err.ensures.stopped

pub returns-in-Err-clause-faults : goal.returns-in-Err-clause-faults
returns-in-Err-clause-faults g c =
    let b : Base g.D.Disk.honest g.D.Disk.moment g.D.Disk.seen g.D.Disk.past c.args.self.now c.args.ask.now c.args.planned c.args.row.now c.reserve.new.self =
    record { alive = c.requires.alive; sound = c.requires.sound; plan = c.requires.plan; ready = c.requires.ready; held = c.requires.held; rest = c.reserve.ensures.rest; room = c.reserve.ensures.items; more = c.reserve.ensures.capacity } in
    let k : Read g.D.Disk.honest g.D.Disk.moment g.D.Disk.seen g.D.Disk.past g.D.Disk.faults c.reserve.new.self c.told_bytes.new.recorder =
    record { trace = c.told_bytes.ensures.trace; more = c.told_bytes.ensures.faults; keeps = c.told_bytes.ensures.keeps; ready = c.told_bytes.ensures.ready; live = c.told_bytes.ensures.live } in
    read_faults g.D.Disk.honest g.D.Disk.moment g.D.Disk.seen g.D.Disk.past g.D.Disk.faults c.args.self.now c.args.ask.now c.args.planned c.args.row.now c.reserve.new.self b c.told_bytes.new.recorder k

pub enter-requires-clause-fits : goal.enter-requires-clause-fits
enter-requires-clause-fits g c =
    row_fits c.args.self.now.table c.args.planned.made.step.now (deed_of c.args.self.now.table c.args.ask.now) c.args.row.now c.requires.sound c.requires.plan.is_deed c.requires.plan.row_is

pub enter-requires-clause-fresh_apart : goal.enter-requires-clause-fresh_apart
enter-requires-clause-fresh_apart g c id new =
    new_begins c.args.self.now.table c.requires.sound (deed_of c.args.self.now.table c.args.ask.now) id c.requires.plan.is_deed (ap (λ (x : Deed). new_body x) (sym (ap (λ (s : Step). s.deed) c.requires.plan.step)) ∙ new)

pub enter-requires-clause-freed_apart : goal.enter-requires-clause-freed_apart
enter-requires-clause-freed_apart g c =
    freed_begin c.args.self.now.table c.args.planned.made.step.now (deed_of c.args.self.now.table c.args.ask.now) c.as_slice.result.now c.requires.sound (c.as_slice.ensures.value ∙ c.requires.plan.released)

pub enter-requires-clause-room : goal.enter-requires-clause-room
enter-requires-clause-room g c =
    let one = one_slot c.args.planned.made.step.told in
    subst (λ (x : Trace). length x.steps.items < vec_capacity x.steps) (sym c.told_bytes.ensures.trace.0) (omega (arith, one, c.in_ok-reserve.ensures.room, c.slots.ensures))

pub enter-requires-clause-ready : goal.enter-requires-clause-ready
enter-requires-clause-ready g c h =
    let b : Base g.D.Disk.honest g.D.Disk.moment g.D.Disk.seen g.D.Disk.past c.args.self.now c.args.ask.now c.args.planned c.args.row.now c.reserve.new.self =
    record { alive = c.requires.alive; sound = c.requires.sound; plan = c.requires.plan; ready = c.requires.ready; held = c.requires.held; rest = c.reserve.ensures.rest; room = c.reserve.ensures.items; more = c.reserve.ensures.capacity } in
    c.told_bytes.ensures.ready h (can_record g.D.Disk.honest g.D.Disk.moment g.D.Disk.seen g.D.Disk.past g.D.Disk.faults c.args.self.now c.args.ask.now c.args.planned c.args.row.now c.reserve.new.self b (c.told_bytes.ensures.keeps h))

pub returns-in-Err-enter-clause-asked : goal.returns-in-Err-enter-clause-asked
returns-in-Err-enter-clause-asked g c =
    let b : Base g.D.Disk.honest g.D.Disk.moment g.D.Disk.seen g.D.Disk.past c.args.self.now c.args.ask.now c.args.planned c.args.row.now c.reserve.new.self =
    record { alive = c.requires.alive; sound = c.requires.sound; plan = c.requires.plan; ready = c.requires.ready; held = c.requires.held; rest = c.reserve.ensures.rest; room = c.reserve.ensures.items; more = c.reserve.ensures.capacity } in
    let k : Read g.D.Disk.honest g.D.Disk.moment g.D.Disk.seen g.D.Disk.past g.D.Disk.faults c.reserve.new.self c.told_bytes.new.recorder =
    record { trace = c.told_bytes.ensures.trace; more = c.told_bytes.ensures.faults; keeps = c.told_bytes.ensures.keeps; ready = c.told_bytes.ensures.ready; live = c.told_bytes.ensures.live } in
    failed_asked g.D.Disk.honest g.D.Disk.moment g.D.Disk.seen g.D.Disk.past g.D.Disk.faults c.args.self.now c.args.ask.now c.args.planned c.args.row.now c.reserve.new.self b c.told_bytes.new.recorder k c.enter.new.recorder c.enter.ensures.faults c.in-Err-enter.fault c.in-Err-enter.ensures.stopped

pub returns-in-Err-enter-clause-working : goal.returns-in-Err-enter-clause-working
returns-in-Err-enter-clause-working g c h url opening start given has is dead =
    let b : Base g.D.Disk.honest g.D.Disk.moment g.D.Disk.seen g.D.Disk.past c.args.self.now c.args.ask.now c.args.planned c.args.row.now c.reserve.new.self =
    record { alive = c.requires.alive; sound = c.requires.sound; plan = c.requires.plan; ready = c.requires.ready; held = c.requires.held; rest = c.reserve.ensures.rest; room = c.reserve.ensures.items; more = c.reserve.ensures.capacity } in
    let k : Read g.D.Disk.honest g.D.Disk.moment g.D.Disk.seen g.D.Disk.past g.D.Disk.faults c.reserve.new.self c.told_bytes.new.recorder =
    record { trace = c.told_bytes.ensures.trace; more = c.told_bytes.ensures.faults; keeps = c.told_bytes.ensures.keeps; ready = c.told_bytes.ensures.ready; live = c.told_bytes.ensures.live } in
    absurd (failed_not_alive g.D.Disk.honest g.D.Disk.moment g.D.Disk.seen g.D.Disk.past g.D.Disk.faults c.args.self.now c.args.ask.now c.args.planned c.args.row.now c.reserve.new.self b c.told_bytes.new.recorder k c.enter.new.recorder c.enter.ensures.faults c.in-Err-enter.ensures.stopped.1 dead)

pub returns-in-Err-enter-clause-stopped : goal.returns-in-Err-enter-clause-stopped
returns-in-Err-enter-clause-stopped g c h url opening start given has is dead =
    let b : Base g.D.Disk.honest g.D.Disk.moment g.D.Disk.seen g.D.Disk.past c.args.self.now c.args.ask.now c.args.planned c.args.row.now c.reserve.new.self =
    record { alive = c.requires.alive; sound = c.requires.sound; plan = c.requires.plan; ready = c.requires.ready; held = c.requires.held; rest = c.reserve.ensures.rest; room = c.reserve.ensures.items; more = c.reserve.ensures.capacity } in
    let k : Read g.D.Disk.honest g.D.Disk.moment g.D.Disk.seen g.D.Disk.past g.D.Disk.faults c.reserve.new.self c.told_bytes.new.recorder =
    record { trace = c.told_bytes.ensures.trace; more = c.told_bytes.ensures.faults; keeps = c.told_bytes.ensures.keeps; ready = c.told_bytes.ensures.ready; live = c.told_bytes.ensures.live } in
    c.in-Err-enter.ensures.left h url opening start given (read_entry g.D.Disk.honest g.D.Disk.moment g.D.Disk.seen g.D.Disk.past g.D.Disk.faults c.args.self.now c.args.ask.now c.args.planned c.args.row.now c.reserve.new.self b c.told_bytes.new.recorder k (c.enter.ensures.keeps h) url opening start given is has c.bytes.result.now c.as_slice.result.now c.bytes.ensures c.as_slice.ensures.value) (lives_read g.D.Disk.honest g.D.Disk.moment g.D.Disk.seen g.D.Disk.past g.D.Disk.faults c.args.self.now c.args.ask.now c.args.planned c.args.row.now c.reserve.new.self b c.told_bytes.new.recorder k (c.enter.ensures.keeps h) url opening start given is)

pub returns-in-Err-enter-clause-sound : goal.returns-in-Err-enter-clause-sound
returns-in-Err-enter-clause-sound g c =
    c.requires.sound

pub returns-in-Err-enter-clause-readied : goal.returns-in-Err-enter-clause-readied
returns-in-Err-enter-clause-readied g c =
    let b : Base g.D.Disk.honest g.D.Disk.moment g.D.Disk.seen g.D.Disk.past c.args.self.now c.args.ask.now c.args.planned c.args.row.now c.reserve.new.self =
    record { alive = c.requires.alive; sound = c.requires.sound; plan = c.requires.plan; ready = c.requires.ready; held = c.requires.held; rest = c.reserve.ensures.rest; room = c.reserve.ensures.items; more = c.reserve.ensures.capacity } in
    let k : Read g.D.Disk.honest g.D.Disk.moment g.D.Disk.seen g.D.Disk.past g.D.Disk.faults c.reserve.new.self c.told_bytes.new.recorder =
    record { trace = c.told_bytes.ensures.trace; more = c.told_bytes.ensures.faults; keeps = c.told_bytes.ensures.keeps; ready = c.told_bytes.ensures.ready; live = c.told_bytes.ensures.live } in
    failed_readied g.D.Disk.honest g.D.Disk.moment g.D.Disk.seen g.D.Disk.past g.D.Disk.faults c.args.self.now c.args.ask.now c.args.planned c.args.row.now c.reserve.new.self b c.told_bytes.new.recorder k c.enter.new.recorder c.enter.ensures.faults c.in-Err-enter.ensures.stopped.1

pub returns-in-Err-enter-clause-faults : goal.returns-in-Err-enter-clause-faults
returns-in-Err-enter-clause-faults g c =
    let b : Base g.D.Disk.honest g.D.Disk.moment g.D.Disk.seen g.D.Disk.past c.args.self.now c.args.ask.now c.args.planned c.args.row.now c.reserve.new.self =
    record { alive = c.requires.alive; sound = c.requires.sound; plan = c.requires.plan; ready = c.requires.ready; held = c.requires.held; rest = c.reserve.ensures.rest; room = c.reserve.ensures.items; more = c.reserve.ensures.capacity } in
    let k : Read g.D.Disk.honest g.D.Disk.moment g.D.Disk.seen g.D.Disk.past g.D.Disk.faults c.reserve.new.self c.told_bytes.new.recorder =
    record { trace = c.told_bytes.ensures.trace; more = c.told_bytes.ensures.faults; keeps = c.told_bytes.ensures.keeps; ready = c.told_bytes.ensures.ready; live = c.told_bytes.ensures.live } in
    entered_faults g.D.Disk.honest g.D.Disk.moment g.D.Disk.seen g.D.Disk.past g.D.Disk.faults c.args.self.now c.args.ask.now c.args.planned c.args.row.now c.reserve.new.self b c.told_bytes.new.recorder k c.enter.new.recorder c.enter.ensures.faults

pub apply-requires : goal.apply-requires
apply-requires g c =
    record { now = c.args.planned.made.step.now; deed = (deed_of c.args.self.now.table c.args.ask.now); is_deed = c.requires.plan.is_deed; change = c.requires.plan.change }

pub same-bytes : goal.same-bytes
same-bytes g c =
    search rules

pub returns-clause-asked : goal.returns-clause-asked
returns-clause-asked g c =
    let b : Base g.D.Disk.honest g.D.Disk.moment g.D.Disk.seen g.D.Disk.past c.args.self.now c.args.ask.now c.args.planned c.args.row.now c.reserve.new.self =
    record { alive = c.requires.alive; sound = c.requires.sound; plan = c.requires.plan; ready = c.requires.ready; held = c.requires.held; rest = c.reserve.ensures.rest; room = c.reserve.ensures.items; more = c.reserve.ensures.capacity } in
    let k : Read g.D.Disk.honest g.D.Disk.moment g.D.Disk.seen g.D.Disk.past g.D.Disk.faults c.reserve.new.self c.told_bytes.new.recorder =
    record { trace = c.told_bytes.ensures.trace; more = c.told_bytes.ensures.faults; keeps = c.told_bytes.ensures.keeps; ready = c.told_bytes.ensures.ready; live = c.told_bytes.ensures.live } in
    let m : Stood g.D.Disk.moment g.D.Disk.faults c.args.self.now c.args.ask.now c.args.planned c.reserve.new.self c.told_bytes.new.recorder c.enter.new.recorder c.apply.new.self =
    record {
      kept = c.in-Ok.ensures.alive;
      later = c.enter.ensures.faults;
      ended = c.in-Ok-enter.ensures.ended;
      applied = c.apply.ensures c.args.planned.made.step.now (deed_of c.args.self.now.table c.args.ask.now) c.requires.plan.change;
    } in
    went_asked g.D.Disk.honest g.D.Disk.moment g.D.Disk.seen g.D.Disk.past g.D.Disk.faults c.args.self.now c.args.ask.now c.args.planned c.args.row.now c.reserve.new.self b c.told_bytes.new.recorder k c.enter.new.recorder c.apply.new.self c.kept_spare.result m c.in-Ok.bytes c.with_bytes.result c.with_bytes.ensures

pub returns-clause-working : goal.returns-clause-working
returns-clause-working g c h url opening start given has is dead =
    let b : Base g.D.Disk.honest g.D.Disk.moment g.D.Disk.seen g.D.Disk.past c.args.self.now c.args.ask.now c.args.planned c.args.row.now c.reserve.new.self =
    record { alive = c.requires.alive; sound = c.requires.sound; plan = c.requires.plan; ready = c.requires.ready; held = c.requires.held; rest = c.reserve.ensures.rest; room = c.reserve.ensures.items; more = c.reserve.ensures.capacity } in
    let k : Read g.D.Disk.honest g.D.Disk.moment g.D.Disk.seen g.D.Disk.past g.D.Disk.faults c.reserve.new.self c.told_bytes.new.recorder =
    record { trace = c.told_bytes.ensures.trace; more = c.told_bytes.ensures.faults; keeps = c.told_bytes.ensures.keeps; ready = c.told_bytes.ensures.ready; live = c.told_bytes.ensures.live } in
    let m : Stood g.D.Disk.moment g.D.Disk.faults c.args.self.now c.args.ask.now c.args.planned c.reserve.new.self c.told_bytes.new.recorder c.enter.new.recorder c.apply.new.self =
    record {
      kept = c.in-Ok.ensures.alive;
      later = c.enter.ensures.faults;
      ended = c.in-Ok-enter.ensures.ended;
      applied = c.apply.ensures c.args.planned.made.step.now (deed_of c.args.self.now.table c.args.ask.now) c.requires.plan.change;
    } in
    went_works g.D.Disk.honest g.D.Disk.moment g.D.Disk.seen g.D.Disk.past g.D.Disk.faults c.args.self.now c.args.ask.now c.args.planned c.args.row.now c.reserve.new.self b c.told_bytes.new.recorder k c.enter.new.recorder c.apply.new.self c.kept_spare.result m url opening start given is (c.in-Ok-enter.ensures.live h url opening start given (read_entry g.D.Disk.honest g.D.Disk.moment g.D.Disk.seen g.D.Disk.past g.D.Disk.faults c.args.self.now c.args.ask.now c.args.planned c.args.row.now c.reserve.new.self b c.told_bytes.new.recorder k (c.enter.ensures.keeps h) url opening start given is has c.bytes.result.now c.as_slice.result.now c.bytes.ensures c.as_slice.ensures.value) (lives_read g.D.Disk.honest g.D.Disk.moment g.D.Disk.seen g.D.Disk.past g.D.Disk.faults c.args.self.now c.args.ask.now c.args.planned c.args.row.now c.reserve.new.self b c.told_bytes.new.recorder k (c.enter.ensures.keeps h) url opening start given is))

pub returns-clause-stopped : goal.returns-clause-stopped
returns-clause-stopped g c h url opening start given has is dead =
    let b : Base g.D.Disk.honest g.D.Disk.moment g.D.Disk.seen g.D.Disk.past c.args.self.now c.args.ask.now c.args.planned c.args.row.now c.reserve.new.self =
    record { alive = c.requires.alive; sound = c.requires.sound; plan = c.requires.plan; ready = c.requires.ready; held = c.requires.held; rest = c.reserve.ensures.rest; room = c.reserve.ensures.items; more = c.reserve.ensures.capacity } in
    let k : Read g.D.Disk.honest g.D.Disk.moment g.D.Disk.seen g.D.Disk.past g.D.Disk.faults c.reserve.new.self c.told_bytes.new.recorder =
    record { trace = c.told_bytes.ensures.trace; more = c.told_bytes.ensures.faults; keeps = c.told_bytes.ensures.keeps; ready = c.told_bytes.ensures.ready; live = c.told_bytes.ensures.live } in
    let m : Stood g.D.Disk.moment g.D.Disk.faults c.args.self.now c.args.ask.now c.args.planned c.reserve.new.self c.told_bytes.new.recorder c.enter.new.recorder c.apply.new.self =
    record {
      kept = c.in-Ok.ensures.alive;
      later = c.enter.ensures.faults;
      ended = c.in-Ok-enter.ensures.ended;
      applied = c.apply.ensures c.args.planned.made.step.now (deed_of c.args.self.now.table c.args.ask.now) c.requires.plan.change;
    } in
    absurd (went_lives_on g.D.Disk.honest g.D.Disk.moment g.D.Disk.seen g.D.Disk.past g.D.Disk.faults c.args.self.now c.args.ask.now c.args.planned c.args.row.now c.reserve.new.self b c.told_bytes.new.recorder k c.enter.new.recorder c.apply.new.self c.kept_spare.result m dead)

pub returns-clause-bytes : goal.returns-clause-bytes
returns-clause-bytes g c h =
    let b : Base g.D.Disk.honest g.D.Disk.moment g.D.Disk.seen g.D.Disk.past c.args.self.now c.args.ask.now c.args.planned c.args.row.now c.reserve.new.self =
    record { alive = c.requires.alive; sound = c.requires.sound; plan = c.requires.plan; ready = c.requires.ready; held = c.requires.held; rest = c.reserve.ensures.rest; room = c.reserve.ensures.items; more = c.reserve.ensures.capacity } in
    let k : Read g.D.Disk.honest g.D.Disk.moment g.D.Disk.seen g.D.Disk.past g.D.Disk.faults c.reserve.new.self c.told_bytes.new.recorder =
    record { trace = c.told_bytes.ensures.trace; more = c.told_bytes.ensures.faults; keeps = c.told_bytes.ensures.keeps; ready = c.told_bytes.ensures.ready; live = c.told_bytes.ensures.live } in
    answer_has (λ (a : Answer). (url : List ℕ) (opening : DeskTable) (start : ℕ) (given : ℕ → List ℕ) → IsWorking g.D.Disk.moment g.D.Disk.seen g.D.Disk.past url opening start given c.args.self.now → HasBytes given c.args.planned.made.step.told a)
    (effect_of c.args.self.now.table c.args.planned.made.step.now (deed_of c.args.self.now.table c.args.ask.now)).mark (effect_of c.args.self.now.table c.args.planned.made.step.now (deed_of c.args.self.now.table c.args.ask.now)).told c.in-Ok.bytes c.args.planned.made.answer c.with_bytes.result c.with_bytes.ensures c.requires.plan.answer
    (λ told at url opening start given is. body_bytes given c.in-Ok.bytes c.args.planned.made.step.told told (ap (λ (s : Step). s.told) c.requires.plan.step ∙ at)
    (λ body same. c.in-Ok.ensures.bytes (c.enter.ensures.keeps h) body same url opening start given (lives g.D.Disk.honest g.D.Disk.moment g.D.Disk.seen g.D.Disk.past g.D.Disk.faults c.args.self.now c.args.ask.now c.args.planned c.args.row.now c.reserve.new.self b url opening start given is) (read_named g.D.Disk.honest g.D.Disk.moment g.D.Disk.seen g.D.Disk.past g.D.Disk.faults c.args.self.now c.args.ask.now c.args.planned c.args.row.now c.reserve.new.self b c.told_bytes.new.recorder k (c.enter.ensures.keeps h) url opening start given is body same)))

pub returns-clause-sum : goal.returns-clause-sum
returns-clause-sum g c =
    answer_has (HasSum c.args.planned.made.step.told) (effect_of c.args.self.now.table c.args.planned.made.step.now (deed_of c.args.self.now.table c.args.ask.now)).mark (effect_of c.args.self.now.table c.args.planned.made.step.now (deed_of c.args.self.now.table c.args.ask.now)).told c.in-Ok.bytes c.args.planned.made.answer c.with_bytes.result c.with_bytes.ensures c.requires.plan.answer
    (λ told at. body_sum c.in-Ok.bytes c.args.planned.made.step.told told (ap (λ (s : Step). s.told) c.requires.plan.step ∙ at) (λ body same. c.in-Ok.ensures.sum body same))

pub returns-clause-sound : goal.returns-clause-sound
returns-clause-sound g c =
    subst (λ (x : DeskTable). IsSound x) (sym (c.apply.ensures c.args.planned.made.step.now (deed_of c.args.self.now.table c.args.ask.now) c.requires.plan.change)) (after_sound c.args.self.now.table c.requires.sound c.args.planned.made.step.now (deed_of c.args.self.now.table c.args.ask.now) c.requires.plan.is_deed)

pub returns-clause-readied : goal.returns-clause-readied
returns-clause-readied g c =
    let b : Base g.D.Disk.honest g.D.Disk.moment g.D.Disk.seen g.D.Disk.past c.args.self.now c.args.ask.now c.args.planned c.args.row.now c.reserve.new.self =
    record { alive = c.requires.alive; sound = c.requires.sound; plan = c.requires.plan; ready = c.requires.ready; held = c.requires.held; rest = c.reserve.ensures.rest; room = c.reserve.ensures.items; more = c.reserve.ensures.capacity } in
    let k : Read g.D.Disk.honest g.D.Disk.moment g.D.Disk.seen g.D.Disk.past g.D.Disk.faults c.reserve.new.self c.told_bytes.new.recorder =
    record { trace = c.told_bytes.ensures.trace; more = c.told_bytes.ensures.faults; keeps = c.told_bytes.ensures.keeps; ready = c.told_bytes.ensures.ready; live = c.told_bytes.ensures.live } in
    let m : Stood g.D.Disk.moment g.D.Disk.faults c.args.self.now c.args.ask.now c.args.planned c.reserve.new.self c.told_bytes.new.recorder c.enter.new.recorder c.apply.new.self =
    record {
      kept = c.in-Ok.ensures.alive;
      later = c.enter.ensures.faults;
      ended = c.in-Ok-enter.ensures.ended;
      applied = c.apply.ensures c.args.planned.made.step.now (deed_of c.args.self.now.table c.args.ask.now) c.requires.plan.change;
    } in
    went_readied g.D.Disk.honest g.D.Disk.moment g.D.Disk.seen g.D.Disk.past g.D.Disk.faults c.args.self.now c.args.ask.now c.args.planned c.args.row.now c.reserve.new.self b c.told_bytes.new.recorder k c.enter.new.recorder c.apply.new.self c.kept_spare.result m c.in-Ok-enter.ensures.ready
    (subst (λ (o : Option Spare). HasSpare (after c.args.self.now.table c.args.planned.made.step.now (deed_of c.args.self.now.table c.args.ask.now)) o) (sym (c.kept_spare.ensures ∙ ap (kept_spare c.args.saved) c.take.ensures.value)) c.requires.next)
    (omega (arith, c.in_ok-reserve.ensures.room, c.slots.ensures)) c.enter.ensures.capacity

pub returns-clause-faults : goal.returns-clause-faults
returns-clause-faults g c =
    let b : Base g.D.Disk.honest g.D.Disk.moment g.D.Disk.seen g.D.Disk.past c.args.self.now c.args.ask.now c.args.planned c.args.row.now c.reserve.new.self =
    record { alive = c.requires.alive; sound = c.requires.sound; plan = c.requires.plan; ready = c.requires.ready; held = c.requires.held; rest = c.reserve.ensures.rest; room = c.reserve.ensures.items; more = c.reserve.ensures.capacity } in
    let k : Read g.D.Disk.honest g.D.Disk.moment g.D.Disk.seen g.D.Disk.past g.D.Disk.faults c.reserve.new.self c.told_bytes.new.recorder =
    record { trace = c.told_bytes.ensures.trace; more = c.told_bytes.ensures.faults; keeps = c.told_bytes.ensures.keeps; ready = c.told_bytes.ensures.ready; live = c.told_bytes.ensures.live } in
    entered_faults g.D.Disk.honest g.D.Disk.moment g.D.Disk.seen g.D.Disk.past g.D.Disk.faults c.args.self.now c.args.ask.now c.args.planned c.args.row.now c.reserve.new.self b c.told_bytes.new.recorder k c.enter.new.recorder c.enter.ensures.faults

pub returns-in_err-reserve-clause-changes : goal.returns-in_err-reserve-clause-changes
returns-in_err-reserve-clause-changes g c h =
    changes_none g.D.Disk.moment g.D.Disk.seen g.D.Disk.past (IsWritten (fresh_by c.args.self.now.table c.args.ask.now) (freed_by c.args.self.now.table c.args.planned.made.step.now c.args.ask.now)) c.args.self.now.recorder.disk c.reserve.new.self.disk (ap (λ (x : Recorder g.row.D.Denot). x.disk) c.reserve.ensures.rest)

pub returns-in_err-reserve-clause-put : goal.returns-in_err-reserve-clause-put
returns-in_err-reserve-clause-put g c =
    let p = err_from_is_err_and c.from_residual.result c.from_residual.ensures.1 in
    rw p.1 (λ h. tt)

pub returns-in-Err-clause-changes : goal.returns-in-Err-clause-changes
returns-in-Err-clause-changes g c h =
    changes_looked g.D.Disk.moment g.D.Disk.seen g.D.Disk.past (IsWritten (fresh_by c.args.self.now.table c.args.ask.now) (freed_by c.args.self.now.table c.args.planned.made.step.now c.args.ask.now)) c.args.self.now.recorder.disk c.reserve.new.self.disk c.told_bytes.new.recorder.disk (ap (λ (x : Recorder g.row.D.Denot). x.disk) c.reserve.ensures.rest) (c.told_bytes.ensures.changes h)

pub returns-in-Err-enter-clause-changes : goal.returns-in-Err-enter-clause-changes
returns-in-Err-enter-clause-changes g c h =
    changes_asked c.args.self.now.table c.args.planned.made.step.now c.args.ask.now c.args.planned.made.step.deed c.bytes.result.now c.as_slice.result.now (ap (λ (s : Step). s.deed) c.requires.plan.step) c.requires.plan.is_deed (c.as_slice.ensures.value ∙ c.requires.plan.released) g.D.Disk.moment g.D.Disk.seen g.D.Disk.past
    c.args.self.now.recorder.disk c.reserve.new.self.disk c.told_bytes.new.recorder.disk c.enter.new.recorder.disk (ap (λ (x : Recorder g.row.D.Denot). x.disk) c.reserve.ensures.rest) (c.told_bytes.ensures.changes (c.enter.ensures.keeps h)) (c.enter.ensures.changes h)

pub returns-clause-changes : goal.returns-clause-changes
returns-clause-changes g c h =
    changes_asked c.args.self.now.table c.args.planned.made.step.now c.args.ask.now c.args.planned.made.step.deed c.bytes.result.now c.as_slice.result.now (ap (λ (s : Step). s.deed) c.requires.plan.step) c.requires.plan.is_deed (c.as_slice.ensures.value ∙ c.requires.plan.released) g.D.Disk.moment g.D.Disk.seen g.D.Disk.past
    c.args.self.now.recorder.disk c.reserve.new.self.disk c.told_bytes.new.recorder.disk c.enter.new.recorder.disk (ap (λ (x : Recorder g.row.D.Denot). x.disk) c.reserve.ensures.rest) (c.told_bytes.ensures.changes (c.enter.ensures.keeps h)) (c.enter.ensures.changes h)

pub returns-clause-put : goal.returns-clause-put
returns-clause-put g c h =
    let disk = c.enter.new.recorder.disk in
    on_ok_any c.with_bytes.result (record {
      stored = stored_asked c.args.self.now.table c.args.planned.made.step.now c.args.ask.now c.args.planned.made.step.deed c.bytes.result.now c.as_slice.result.now (ap (λ (s : Step). s.deed) c.requires.plan.step) c.requires.plan.is_deed (c.as_slice.ensures.value ∙ c.requires.plan.released)
          c.args.row.now (g.D.Disk.seen disk) (g.D.Disk.past disk (g.D.Disk.moment disk)) c.bytes.ensures c.requires.plan.row_is (c.in-Ok-enter.ensures.stored h);
      emptied = empty_asked c.args.self.now.table c.args.planned.made.step.now c.args.ask.now c.args.planned.made.step.deed c.bytes.result.now c.as_slice.result.now (ap (λ (s : Step). s.deed) c.requires.plan.step) c.requires.plan.is_deed (c.as_slice.ensures.value ∙ c.requires.plan.released)
          (g.D.Disk.seen disk) (g.D.Disk.past disk (g.D.Disk.moment disk)) (c.in-Ok-enter.ensures.emptied h);
    })

pub returns-in_err-reserve-clause-ends : goal.returns-in_err-reserve-clause-ends
returns-in_err-reserve-clause-ends g c same =
    let slot = held_slot c.args.self.now c.args.planned.made.step.told same c.requires.held in
    absurd (false≢true (c.in_err-reserve.ensures.succeeds (omega (arith, slot, c.slots.ensures))))

pub returns-in-Err-clause-ends : goal.returns-in-Err-clause-ends
returns-in-Err-clause-ends g c same want =
    let missing = c.in-Err.ensures.fault in
    let no : None ≡ Some missing.body = sym (end_wants c.args.planned.made.step.told same) ∙ missing.is_wanted in
    cc no

pub returns-in-Err-enter-clause-ends : goal.returns-in-Err-enter-clause-ends
returns-in-Err-enter-clause-ends g c same want =
    let both : Disk ≡ Memory = sym c.in-Err-enter.ensures.stopped.0 ∙ want in
    cc both

pub returns-clause-ends : goal.returns-clause-ends
returns-clause-ends g c same =
    let t = c.args.self.now.table in
    let e = effect_of t c.args.planned.made.step.now (deed_of t c.args.ask.now) in
    let told : kind_told e.told ≡ Ends = ap kind_told (sym (ap (λ (s : Step). s.told) c.requires.plan.step)) ∙ same in
    subst (λ (r : Result Answer DeskFault). IfErr r (λ fault. fault ≢ Memory))
    (sym (c.with_bytes.ensures ∙ ap (λ (r : Result Told DeskFault). with_bytes r c.in-Ok.bytes) c.requires.plan.answer))
    (end_answers e.mark e.told c.in-Ok.bytes told)

pub returns-in_err-reserve-clause-called : goal.returns-in_err-reserve-clause-called
returns-in_err-reserve-clause-called g c =
    uncalled g.D.Disk.honest g.D.Disk.moment g.D.Disk.seen g.D.Disk.past c.args.planned.made.step.who c.args.planned.made.step.now c.args.ask.now c.args.self.now (record c.args.self.now { recorder = c.reserve.new.self })
    (ap (λ (x : Recorder g.row.D.Denot). x.disk) c.reserve.ensures.rest) c.reserve.ensures.items (ap (λ (x : Recorder g.row.D.Denot). x.under) c.reserve.ensures.rest)
    (λ alive. ap (λ (x : Recorder g.row.D.Denot). x.dead) c.reserve.ensures.rest ∙ alive)

pub returns-in-Err-clause-called : goal.returns-in-Err-clause-called
returns-in-Err-clause-called g c =
    let missing = c.in-Err.ensures.fault in
    let disk : c.reserve.new.self.disk ≡ c.args.self.now.recorder.disk = ap (λ (x : Recorder g.row.D.Denot). x.disk) c.reserve.ensures.rest in
    let one : told_calls c.args.planned.made.step.told ≡ 1 = ap one_call missing.is_wanted in
    let same : g.D.Disk.moment c.reserve.new.self.disk ≡ g.D.Disk.moment c.args.self.now.recorder.disk = ap g.D.Disk.moment disk in
    unread g.D.Disk.honest g.D.Disk.moment g.D.Disk.seen g.D.Disk.past c.args.planned.made.step.who c.args.planned.made.step.now c.args.ask.now c.args.self.now (record c.args.self.now { recorder = c.told_bytes.new.recorder })
    missing.body (ap wanted (sym (ap (λ (s : Step). s.told) c.requires.plan.step)) ∙ missing.is_wanted) (omega (arith, same, c.in-Err.ensures.counts.later)) (omega (arith, same, one, c.in-Err.ensures.counts.no_more))
    (ap (λ (x : Trace). x.steps.items) c.told_bytes.ensures.trace.0 ∙ c.reserve.ensures.items) (c.told_bytes.ensures.trace.1 ∙ ap (λ (x : Recorder g.row.D.Denot). x.under) c.reserve.ensures.rest)
    (λ h. subst (λ (d : g.row.D.Denot). ChangesOnly g.D.Disk.moment g.D.Disk.seen g.D.Disk.past (λ _. ⊥) d c.told_bytes.new.recorder.disk) disk (c.told_bytes.ensures.changes h))

pub returns-in-Err-enter-clause-called : goal.returns-in-Err-enter-clause-called
returns-in-Err-enter-clause-called g c =
    let stopped = c.in-Err-enter.ensures.stopped in
    failed g.D.Disk.honest g.D.Disk.moment g.D.Disk.seen g.D.Disk.past c.args.planned.made.step.who c.args.planned.made.step.now c.args.ask.now c.args.self.now (record c.args.self.now { recorder = c.enter.new.recorder }) c.args.planned c.args.row.now c.requires.plan c.reserve.new.self c.told_bytes.new.recorder
    (ap (λ (x : Recorder g.row.D.Denot). x.disk) c.reserve.ensures.rest) (ap (λ (x : Recorder g.row.D.Denot). x.under) c.reserve.ensures.rest) c.reserve.ensures.items
    c.in-Ok.ensures.counts.all c.told_bytes.ensures.trace.1 (ap (λ (x : Trace). x.steps.items) c.told_bytes.ensures.trace.0)
    c.bytes.result.now c.as_slice.result.now c.bytes.ensures c.as_slice.ensures.value
    c.in-Err-enter.ensures.counts.later c.in-Err-enter.ensures.counts.no_more stopped.1 stopped.3 (λ h. c.told_bytes.ensures.changes (c.enter.ensures.keeps h)) c.enter.ensures.quietly c.in-Err-enter.ensures.quiet c.in-Err-enter.ensures.under

pub returns-clause-called : goal.returns-clause-called
returns-clause-called g c =
    let ended = c.in-Ok-enter.ensures.ended in
    went g.D.Disk.honest g.D.Disk.moment g.D.Disk.seen g.D.Disk.past c.args.planned.made.step.who c.args.planned.made.step.now c.args.ask.now c.args.self.now (record c.args.self.now { recorder = c.enter.new.recorder; table = c.apply.new.self; spare = c.kept_spare.result }) c.args.planned c.args.row.now c.requires.plan c.reserve.new.self c.told_bytes.new.recorder
    (ap (λ (x : Recorder g.row.D.Denot). x.disk) c.reserve.ensures.rest) (ap (λ (x : Recorder g.row.D.Denot). x.under) c.reserve.ensures.rest) c.reserve.ensures.items
    c.in-Ok.ensures.counts.all c.told_bytes.ensures.trace.1 (ap (λ (x : Trace). x.steps.items) c.told_bytes.ensures.trace.0)
    c.bytes.result.now c.as_slice.result.now c.bytes.ensures c.as_slice.ensures.value
    c.in-Ok-enter.ensures.counts.all ended.0 ended.1 (ended.2 ∙ c.in-Ok.ensures.alive ∙ ap (λ (x : Recorder g.row.D.Denot). x.dead) c.reserve.ensures.rest ∙ c.requires.alive)
    (λ h. c.told_bytes.ensures.changes (c.enter.ensures.keeps h)) c.enter.ensures.quietly

pub returns-in_err-reserve-clause-undamaged : goal.returns-in_err-reserve-clause-undamaged
returns-in_err-reserve-clause-undamaged g c h url opening start given is fault = alive_undamaged c.reserve.new.self.dead fault (ap (λ (x : Recorder g.row.D.Denot). x.dead) c.reserve.ensures.rest ∙ c.requires.alive)

pub returns-in-Err-clause-undamaged : goal.returns-in-Err-clause-undamaged
returns-in-Err-clause-undamaged g c h url opening start given is fault =
    let b : Base g.D.Disk.honest g.D.Disk.moment g.D.Disk.seen g.D.Disk.past c.args.self.now c.args.ask.now c.args.planned c.args.row.now c.reserve.new.self =
    record { alive = c.requires.alive; sound = c.requires.sound; plan = c.requires.plan; ready = c.requires.ready; held = c.requires.held; rest = c.reserve.ensures.rest; room = c.reserve.ensures.items; more = c.reserve.ensures.capacity } in
    let k : Read g.D.Disk.honest g.D.Disk.moment g.D.Disk.seen g.D.Disk.past g.D.Disk.faults c.reserve.new.self c.told_bytes.new.recorder =
    record { trace = c.told_bytes.ensures.trace; more = c.told_bytes.ensures.faults; keeps = c.told_bytes.ensures.keeps; ready = c.told_bytes.ensures.ready; live = c.told_bytes.ensures.live } in
    let missing = c.in-Err.ensures.fault in
    let dead = c.told_bytes.new.recorder.dead in
    elim (end_of (g.D.Disk.honest c.told_bytes.new.recorder.disk) missing.body (g.D.Disk.seen c.reserve.new.self.disk missing.body.file) (g.D.Disk.faults c.reserve.new.self.disk) (g.D.Disk.faults c.told_bytes.new.recorder.disk) c.in-Err.fault missing.cause) [
      | inl want ↦ alive_undamaged dead fault ((c.in-Err.ensures.starved want).1 ∙ ap (λ (x : Recorder g.row.D.Denot). x.dead) c.reserve.ensures.rest ∙ c.requires.alive)
      | inr end ↦ died_undamaged dead c.in-Err.fault fault (c.in-Err.ensures.stopped end.1)
          (c.in-Err.ensures.undamaged h missing.body missing.is_wanted url opening start given (lives g.D.Disk.honest g.D.Disk.moment g.D.Disk.seen g.D.Disk.past g.D.Disk.faults c.args.self.now c.args.ask.now c.args.planned c.args.row.now c.reserve.new.self b url opening start given is)
          (read_named g.D.Disk.honest g.D.Disk.moment g.D.Disk.seen g.D.Disk.past g.D.Disk.faults c.args.self.now c.args.ask.now c.args.planned c.args.row.now c.reserve.new.self b c.told_bytes.new.recorder k h url opening start given is missing.body missing.is_wanted))
    ]

pub returns-in-Err-enter-clause-undamaged : goal.returns-in-Err-enter-clause-undamaged
returns-in-Err-enter-clause-undamaged g c h url opening start given is fault = died_undamaged c.enter.new.recorder.dead Disk fault c.in-Err-enter.ensures.stopped.1 tt

pub returns-clause-undamaged : goal.returns-clause-undamaged
returns-clause-undamaged g c h url opening start given is fault =
    alive_undamaged c.enter.new.recorder.dead fault (c.in-Ok-enter.ensures.ended.2 ∙ c.in-Ok.ensures.alive ∙ ap (λ (x : Recorder g.row.D.Denot). x.dead) c.reserve.ensures.rest ∙ c.requires.alive)
