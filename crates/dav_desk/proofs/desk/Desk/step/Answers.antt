use Rattle.std.proofs.Common.{◌≡◌, ℕ, List, Option, Some, None, OnOk, refl, sym, ◌∙◌, ap, subst}
use Rattle.std.proofs.lemmas.Bool.{false≢true}
use Rattle.std.proofs.lemmas.Result.{err_from_is_err_and}
use Rattle.std.specs.Prelude.{IfOk}
use Rattle.dav_store.specs.declared.body_id.BodyId.{BodyId}
use Rattle.dav_deeds.specs.Answers.{kind_told, wanted}
use Rattle.dav_deeds.specs.DeskTable.{DeskTable}
use Rattle.dav_deeds.specs.Effects.{after, told_of}
use Rattle.dav_deeds.specs.Legal.{bytes_in, deed_of}
use Rattle.dav_deeds.specs.Spare.{HasSpare, IsSaved, kept_spare}
use Rattle.dav_deeds.specs.declared.answer.Answer.{Answer}
use Rattle.dav_deeds.specs.declared.answer.Told.{Told}
use Rattle.dav_deeds.proofs.Flying.{taken_within}
use Rattle.dav_deeds.proofs.AllRows.{end_told, given_is, spare_after, told_ends}
use Rattle.dav_deeds.proofs.Taking.{taken_of}
use Rattle.dav_desk.specs.declared.desk.Desk.{Desk}
use Rattle.dav_desk.specs.Working.{IsWorking, HasBytes, HasSum}
use Rattle.dav_desk.proofs.Rooming.{end_held, end_frees, room_held}
use Rattle.dav_deeds.specs.declared.fault.DeskFault.{DeskFault}
use Rattle.dav_desk.proofs.Asking.{asked_dead, asked_starved}
use Rattle.dav_recorder.specs.Stands.{IsWritten}
use Rattle.dav_recorder.proofs.Filing.{changes_none}
use Rattle.dav_deeds.specs.Change.{IsPlan}
use Rattle.dav_deeds.specs.declared.plan.Planned.{Planned}
use Rattle.dav_deeds.specs.declared.deed.Step.{Step}
use Rattle.dav_desk.specs.Changed.{fresh_by, freed_by, IsPut}
use Rattle.dav_desk.proofs.Changing.{idle_frees, stored_nothing, empty_nothing, ok_map, on_ok_map}
use Rattle.dav_desk.proofs.Calling.{alive_undamaged, asked_spare, uncalled, spare_taken, by_step}
use Rattle.dav_desk.proofs.desk.Desk.step.Goals as goal

pub returns-in-Some-clause-asked : goal.returns-in-Some-clause-asked
returns-in-Some-clause-asked g c =
    let dead : c.args.self.now.recorder.dead ≡ Some c.again.result = sym c.in-Some.ensures ∙ ap (λ (f : DeskFault). Some f) (sym c.again.ensures) in
    asked_dead g.D.Disk.honest g.D.Disk.moment g.D.Disk.seen g.D.Disk.faults c.args.who c.args.now c.args.ask.now c.args.self.now c.args.self.now c.again.result dead refl

pub returns-in-Some-clause-changes : goal.returns-in-Some-clause-changes
returns-in-Some-clause-changes g c h = changes_none g.D.Disk.moment g.D.Disk.seen g.D.Disk.past (IsWritten (fresh_by c.args.self.now.table c.args.ask.now) (freed_by c.args.self.now.table c.args.now c.args.ask.now)) c.args.self.now.recorder.disk c.args.self.now.recorder.disk refl

pub returns-in_err-planned-clause-changes : goal.returns-in_err-planned-clause-changes
returns-in_err-planned-clause-changes g c h = changes_none g.D.Disk.moment g.D.Disk.seen g.D.Disk.past (IsWritten (fresh_by c.args.self.now.table c.args.ask.now) (freed_by c.args.self.now.table c.args.now c.args.ask.now)) c.args.self.now.recorder.disk c.args.self.now.recorder.disk refl

pub returns-in_default-2-clause-changes : goal.returns-in_default-2-clause-changes
returns-in_default-2-clause-changes g c h = changes_none g.D.Disk.moment g.D.Disk.seen g.D.Disk.past (IsWritten (fresh_by c.args.self.now.table c.args.ask.now) (freed_by c.args.self.now.table c.args.now c.args.ask.now)) c.args.self.now.recorder.disk c.args.self.now.recorder.disk refl

pub returns-in_default-2-clause-put : goal.returns-in_default-2-clause-put
returns-in_default-2-clause-put g c h =
    let t = c.args.self.now.table in
    let disk = c.args.self.now.recorder.disk in
    let plan : IsPlan t c.args.who c.args.now c.args.ask.now None c.plan.new.row.items = subst (λ (p : Option Planned). IsPlan t c.args.who c.args.now c.args.ask.now p c.plan.new.row.items) c.in_default-2.is c.in_ok-planned.ensures.plan in
    let nothing = idle_frees t c.args.now c.args.ask.now plan.0 in
    record {
      stored = stored_nothing (fresh_by t c.args.ask.now) (bytes_in c.args.ask.now) (freed_by t c.args.now c.args.ask.now) (g.D.Disk.seen disk) (g.D.Disk.past disk (g.D.Disk.moment disk)) nothing.0;
      emptied = empty_nothing (freed_by t c.args.now c.args.ask.now) (g.D.Disk.seen disk) (g.D.Disk.past disk (g.D.Disk.moment disk)) nothing.1;
    }

pub carry_out-requires-clause-held : goal.carry_out-requires-clause-held
carry_out-requires-clause-held g c =
    let old = c.args.self.now in
    let ends = sym c.ends_job.ensures ∙ c.if-ends_job.true in
    end_held old c.take.new.self c.args.ask.now c.plan_end-planned.result.made.step.told ends (ap (λ (s : Step). kind_told s.told) c.plan_end-planned.ensures.step ∙ end_told old.table c.args.now c.args.ask.now ends) (c.requires.readied.room (sym c.in_default.ensures))

pub carry_out-requires-clause-next : goal.carry_out-requires-clause-next
carry_out-requires-clause-next g c = end_frees c.args.self.now.table c.plan_end-planned.result.made.step.now c.args.ask.now c.take.new.self (sym c.ends_job.ensures ∙ c.if-ends_job.true)

pub returns-then-ends_job-clause-working : goal.returns-then-ends_job-clause-working
returns-then-ends_job-clause-working g c h url opening start given has is dead =
    c.carry_out.ensures.working h url opening start given has (record { alive = is.alive; table = is.table; live = is.live }) dead

pub returns-then-ends_job-clause-stopped : goal.returns-then-ends_job-clause-stopped
returns-then-ends_job-clause-stopped g c h url opening start given has is dead =
    c.carry_out.ensures.stopped h url opening start given has (record { alive = is.alive; table = is.table; live = is.live }) dead

pub returns-then-ends_job-clause-bytes : goal.returns-then-ends_job-clause-bytes
returns-then-ends_job-clause-bytes g c h =
    let works : Option Told → Desk g.row.D.Denot → Answer → Type 0 = λ (told : Option Told) (desk : Desk g.row.D.Denot) (answer : Answer). (url : List ℕ) (opening : DeskTable) (start : ℕ) (given : ℕ → List ℕ) → IsWorking g.D.Disk.moment g.D.Disk.seen g.D.Disk.past url opening start given desk → HasBytes given told answer in
    ok_map c.carry_out.result (works c.plan_end-planned.result.made.step.told (record c.args.self.now { spare = c.take.new.self })) (works (told_of c.args.self.now.table c.args.now (deed_of c.args.self.now.table c.args.ask.now)) c.args.self.now)
    (λ answer has url opening start given is. subst (λ (told : Option Told). HasBytes given told answer) (ap (λ (s : Step). s.told) c.plan_end-planned.ensures.step) (has url opening start given (record { alive = is.alive; table = is.table; live = is.live }))) (c.carry_out.ensures.bytes h)

pub returns-then-ends_job-clause-sum : goal.returns-then-ends_job-clause-sum
returns-then-ends_job-clause-sum g c =
    subst (λ (told : Option Told). IfOk c.carry_out.result (HasSum told)) (ap (λ (s : Step). s.told) c.plan_end-planned.ensures.step) c.carry_out.ensures.sum

pub returns-then-ends_job-clause-put : goal.returns-then-ends_job-clause-put
returns-then-ends_job-clause-put g c h =
    let put : ℕ → Desk g.row.D.Denot → Type 0 = λ (n : ℕ) (desk : Desk g.row.D.Denot). IsPut g.D.Disk.moment g.D.Disk.seen g.D.Disk.past n c.args.ask.now desk c.carry_out.new.self in
    let same : c.plan_end-planned.result.made.step.now ≡ c.args.now = ap (λ (s : Step). s.now) c.plan_end-planned.ensures.step in
    on_ok_map c.carry_out.result (put c.args.now (record c.args.self.now { spare = c.take.new.self })) (put c.args.now c.args.self.now) (λ is. record { stored = is.stored; emptied = is.emptied })
    (subst (λ (n : ℕ). OnOk c.carry_out.result (put n (record c.args.self.now { spare = c.take.new.self }))) same (c.carry_out.ensures.put h))

pub returns-then-ends_job-clause-ends : goal.returns-then-ends_job-clause-ends
returns-then-ends_job-clause-ends g c ends =
    c.carry_out.ensures.ends (ap (λ (s : Step). kind_told s.told) c.plan_end-planned.ensures.step ∙ end_told c.args.self.now.table c.args.now c.args.ask.now ends)

pub save-requires : goal.save-requires
save-requires g c =
    let t = c.args.self.now.table in
    let plan : IsPlan t c.args.who c.args.now c.args.ask.now (Some c.in-Some-2.planned) c.plan.new.row.items = subst (λ (p : Option Planned). IsPlan t c.args.who c.args.now c.args.ask.now p c.plan.new.row.items) c.in-Some-2.is c.in_ok-planned.ensures.plan in
    record { bare = λ flight is. (taken_within t.index flight c.index.ensures.sound.index (taken_of t c.args.now flight (given_is t c.args.now (deed_of t c.args.ask.now) flight (ap kind_told (sym (ap (λ (s : Step). s.told) plan.step) ∙ is))).taken_is).1).bare }

pub returns-in_err-saved-clause-asked : goal.returns-in_err-saved-clause-asked
returns-in_err-saved-clause-asked g c =
    let p = err_from_is_err_and c.from_residual-in_err-saved.result c.from_residual-in_err-saved.ensures.1 in
    rw (p.1, p.2) (asked_starved g.D.Disk.honest g.D.Disk.moment g.D.Disk.seen g.D.Disk.faults c.args.who c.args.now c.args.ask.now c.args.self.now c.args.self.now (sym c.in_default.ensures) refl refl refl refl refl)

pub carry_out-requires-2-clause-held : goal.carry_out-requires-2-clause-held
carry_out-requires-2-clause-held g c =
    let t = c.args.self.now.table in
    let plan : IsPlan t c.args.who c.args.now c.args.ask.now (Some c.in-Some-2.planned) c.plan.new.row.items = subst (λ (p : Option Planned). IsPlan t c.args.who c.args.now c.args.ask.now p c.plan.new.row.items) c.in-Some-2.is c.in_ok-planned.ensures.plan in
    room_held c.args.self.now c.in-Some-2.planned.made.step.told
    (λ same. false≢true (sym c.if-ends_job.false ∙ c.ends_job.ensures ∙ told_ends t c.args.now c.args.ask.now (ap kind_told (sym (ap (λ (s : Step). s.told) plan.step)) ∙ same)))
    (c.requires.readied.room (sym c.in_default.ensures))

pub carry_out-requires-2-clause-next : goal.carry_out-requires-2-clause-next
carry_out-requires-2-clause-next g c =
    let t = c.args.self.now.table in
    let old = c.args.self.now.spare in
    let saved = c.in_ok-saved.saved in
    let plan : IsPlan t c.args.who c.args.now c.args.ask.now (Some c.in-Some-2.planned) c.plan.new.row.items = subst (λ (p : Option Planned). IsPlan t c.args.who c.args.now c.args.ask.now p c.plan.new.row.items) c.in-Some-2.is c.in_ok-planned.ensures.plan in
    subst (λ (n : ℕ). HasSpare (after t n (deed_of t c.args.ask.now)) (kept_spare saved old)) (sym (ap (λ (s : Step). s.now) plan.step))
    (spare_after t c.args.now (deed_of t c.args.ask.now) old saved (c.requires.readied.room (sym c.in_default.ensures)).spare (subst (λ (o : Option Told). IsSaved t.index o saved) (ap (λ (s : Step). s.told) plan.step) c.in_ok-saved.ensures.saved))

pub returns-clause-put : goal.returns-clause-put
returns-clause-put g c h =
    let t = c.args.self.now.table in
    let plan : IsPlan t c.args.who c.args.now c.args.ask.now (Some c.in-Some-2.planned) c.plan.new.row.items = subst (λ (p : Option Planned). IsPlan t c.args.who c.args.now c.args.ask.now p c.plan.new.row.items) c.in-Some-2.is c.in_ok-planned.ensures.plan in
    subst (λ (n : ℕ). OnOk c.carry_out-2.result (IsPut g.D.Disk.moment g.D.Disk.seen g.D.Disk.past n c.args.ask.now c.args.self.now c.carry_out-2.new.self)) (ap (λ (s : Step). s.now) plan.step) (c.carry_out-2.ensures.put h)

pub returns-clause-bytes : goal.returns-clause-bytes
returns-clause-bytes g c h =
    let t = c.args.self.now.table in
    let plan : IsPlan t c.args.who c.args.now c.args.ask.now (Some c.in-Some-2.planned) c.plan.new.row.items = subst (λ (p : Option Planned). IsPlan t c.args.who c.args.now c.args.ask.now p c.plan.new.row.items) c.in-Some-2.is c.in_ok-planned.ensures.plan in
    subst (λ (told : Option Told). IfOk c.carry_out-2.result (λ (answer : Answer). (url : List ℕ) (opening : DeskTable) (start : ℕ) (given : ℕ → List ℕ) → IsWorking g.D.Disk.moment g.D.Disk.seen g.D.Disk.past url opening start given c.args.self.now → HasBytes given told answer))
    (ap (λ (s : Step). s.told) plan.step) (c.carry_out-2.ensures.bytes h)

pub returns-clause-sum : goal.returns-clause-sum
returns-clause-sum g c =
    let t = c.args.self.now.table in
    let plan : IsPlan t c.args.who c.args.now c.args.ask.now (Some c.in-Some-2.planned) c.plan.new.row.items = subst (λ (p : Option Planned). IsPlan t c.args.who c.args.now c.args.ask.now p c.plan.new.row.items) c.in-Some-2.is c.in_ok-planned.ensures.plan in
    subst (λ (told : Option Told). IfOk c.carry_out-2.result (HasSum told)) (ap (λ (s : Step). s.told) plan.step) c.carry_out-2.ensures.sum

pub returns-in_default-2-clause-bytes : goal.returns-in_default-2-clause-bytes
returns-in_default-2-clause-bytes g c h url opening start given is body wants =
    let t = c.args.self.now.table in
    let plan : IsPlan t c.args.who c.args.now c.args.ask.now None c.plan.new.row.items = subst (λ (p : Option Planned). IsPlan t c.args.who c.args.now c.args.ask.now p c.plan.new.row.items) c.in_default-2.is c.in_ok-planned.ensures.plan in
    let no : None ≡ Some body = ap wanted (sym plan.0) ∙ wants in cc no

pub returns-in_default-2-clause-sum : goal.returns-in_default-2-clause-sum
returns-in_default-2-clause-sum g c body wants =
    let t = c.args.self.now.table in
    let plan : IsPlan t c.args.who c.args.now c.args.ask.now None c.plan.new.row.items = subst (λ (p : Option Planned). IsPlan t c.args.who c.args.now c.args.ask.now p c.plan.new.row.items) c.in_default-2.is c.in_ok-planned.ensures.plan in
    let no : None ≡ Some body = ap wanted (sym plan.0) ∙ wants in cc no

pub returns-in-Some-clause-called : goal.returns-in-Some-clause-called
returns-in-Some-clause-called g c = uncalled g.D.Disk.honest g.D.Disk.moment g.D.Disk.seen g.D.Disk.past c.args.who c.args.now c.args.ask.now c.args.self.now c.args.self.now refl refl refl (λ alive. alive)

pub returns-in_err-planned-clause-called : goal.returns-in_err-planned-clause-called
returns-in_err-planned-clause-called g c = uncalled g.D.Disk.honest g.D.Disk.moment g.D.Disk.seen g.D.Disk.past c.args.who c.args.now c.args.ask.now c.args.self.now c.args.self.now refl refl refl (λ alive. alive)

pub returns-in_default-2-clause-called : goal.returns-in_default-2-clause-called
returns-in_default-2-clause-called g c = uncalled g.D.Disk.honest g.D.Disk.moment g.D.Disk.seen g.D.Disk.past c.args.who c.args.now c.args.ask.now c.args.self.now c.args.self.now refl refl refl (λ alive. alive)

pub returns-in_err-saved-clause-called : goal.returns-in_err-saved-clause-called
returns-in_err-saved-clause-called g c = uncalled g.D.Disk.honest g.D.Disk.moment g.D.Disk.seen g.D.Disk.past c.args.who c.args.now c.args.ask.now c.args.self.now c.args.self.now refl refl refl (λ alive. alive)

pub returns-then-ends_job-clause-called : goal.returns-then-ends_job-clause-called
returns-then-ends_job-clause-called g c =
    let step = c.plan_end-planned.result.made.step in
    spare_taken g.D.Disk.honest g.D.Disk.moment g.D.Disk.seen g.D.Disk.past c.args.who c.args.now c.args.ask.now c.args.self.now c.carry_out.new.self c.take.new.self
    (by_step g.D.Disk.honest g.D.Disk.moment g.D.Disk.seen g.D.Disk.past c.args.who step.who c.args.now step.now c.args.ask.now (record c.args.self.now { spare = c.take.new.self }) c.carry_out.new.self
    (ap (λ (s : Step). s.who) c.plan_end-planned.ensures.step) (ap (λ (s : Step). s.now) c.plan_end-planned.ensures.step) c.carry_out.ensures.called)

pub returns-clause-called : goal.returns-clause-called
returns-clause-called g c =
    let t = c.args.self.now.table in
    let plan : IsPlan t c.args.who c.args.now c.args.ask.now (Some c.in-Some-2.planned) c.plan.new.row.items = subst (λ (p : Option Planned). IsPlan t c.args.who c.args.now c.args.ask.now p c.plan.new.row.items) c.in-Some-2.is c.in_ok-planned.ensures.plan in
    by_step g.D.Disk.honest g.D.Disk.moment g.D.Disk.seen g.D.Disk.past c.args.who c.in-Some-2.planned.made.step.who c.args.now c.in-Some-2.planned.made.step.now c.args.ask.now c.args.self.now c.carry_out-2.new.self
    (ap (λ (s : Step). s.who) plan.step) (ap (λ (s : Step). s.now) plan.step) c.carry_out-2.ensures.called

pub returns-then-ends_job-clause-asked : goal.returns-then-ends_job-clause-asked
returns-then-ends_job-clause-asked g c =
    let step = c.plan_end-planned.result.made.step in
    asked_spare g.D.Disk.honest g.D.Disk.moment g.D.Disk.seen g.D.Disk.faults c.args.who step.who c.args.now step.now c.args.ask.now c.args.self.now c.carry_out.new.self c.take.new.self c.carry_out.result
    (ap (λ (s : Step). s.who) c.plan_end-planned.ensures.step) (ap (λ (s : Step). s.now) c.plan_end-planned.ensures.step) (sym c.in_default.ensures) c.carry_out.ensures.asked

pub returns-in-Some-clause-undamaged : goal.returns-in-Some-clause-undamaged
returns-in-Some-clause-undamaged g c h url opening start given is fault = alive_undamaged c.args.self.now.recorder.dead fault is.alive

pub returns-in_err-planned-clause-undamaged : goal.returns-in_err-planned-clause-undamaged
returns-in_err-planned-clause-undamaged g c h url opening start given is fault = alive_undamaged c.args.self.now.recorder.dead fault is.alive

pub returns-in_default-2-clause-undamaged : goal.returns-in_default-2-clause-undamaged
returns-in_default-2-clause-undamaged g c h url opening start given is fault = alive_undamaged c.args.self.now.recorder.dead fault is.alive

pub returns-in_err-saved-clause-undamaged : goal.returns-in_err-saved-clause-undamaged
returns-in_err-saved-clause-undamaged g c h url opening start given is fault = alive_undamaged c.args.self.now.recorder.dead fault is.alive

pub returns-then-ends_job-clause-undamaged : goal.returns-then-ends_job-clause-undamaged
returns-then-ends_job-clause-undamaged g c h url opening start given is = c.carry_out.ensures.undamaged h url opening start given (record { alive = is.alive; table = is.table; live = is.live })

pub returns-clause-undamaged : goal.returns-clause-undamaged
returns-clause-undamaged g c h url opening start given is = c.carry_out-2.ensures.undamaged h url opening start given is
