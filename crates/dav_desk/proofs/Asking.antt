-- How a call of a desk ends, at each of its exits.
use Rattle.std.proofs.Common.{◌≡◌, ◌≢◌, ◌⊎◌, inl, inr, ℕ, List, [], ◌∷◌, ◌++◌, Option, Some, None, Result, Ok, Err, refl, sym, ◌∙◌, ap, subst, append-nil}
use Rattle.dav_machine.specs.Log.{Rose}
use Rattle.dav_store.specs.declared.body_id.BodyId.{BodyId}
use Rattle.dav_deeds.specs.DeskTable.{DeskTable}
use Rattle.dav_deeds.specs.Effects.{after, effect_of, told_of}
use Rattle.dav_deeds.specs.Legal.{deed_of}
use Rattle.dav_deeds.specs.Made.{answer_by}
use Rattle.dav_deeds.specs.Change.{IsPlannedBy}
use Rattle.dav_deeds.specs.declared.answer.Answer.{Answer}
use Rattle.dav_deeds.specs.declared.answer.Answer.TheVariants as answers
use Rattle.dav_deeds.specs.declared.answer.Told.{Told}
use Rattle.dav_deeds.specs.declared.answer.Told.TheVariants.{Idle}
use Rattle.dav_deeds.specs.declared.ask.Ask.{Ask}
use Rattle.dav_deeds.specs.declared.ask.Who.{Who}
use Rattle.dav_deeds.specs.declared.deed.Step.{Step}
use Rattle.dav_deeds.specs.declared.fault.DeskFault.{DeskFault}
use Rattle.dav_deeds.specs.declared.fault.DeskFault.TheVariants.{Disk, NotACache, Damaged, OtherServer, Queued, NoSuchJob, Crowded, Limit, Memory}
use Rattle.dav_deeds.specs.declared.plan.Planned.{Planned}
use Rattle.dav_recorder.specs.Opening.{IsFetchFault}
use Rattle.dav_recorder.proofs.LiveLemmas.{stamped}
use Rattle.dav_desk.specs.declared.desk.Desk.{Desk}
use Rattle.dav_desk.specs.Ends.{IsEnd, IsEndIfAny}
use Rattle.dav_desk.specs.Ended.{IsAsked}
use Rattle.dav_desk.specs.Entry.{IsMissing}
use Rattle.dav_desk.specs.Verdict.{Went, Stopped, Starved, step_of, with_bytes}
use Rattle.dav_desk.proofs.Telling.{one_step, no_step, some_step}

-- a fault of a fetch is want of memory, or one by which a desk is dead
pub end_of : (honest : Type 0) (id : BodyId) (file : List ℕ) (before now : ℕ) (e : DeskFault) → IsFetchFault honest id file before now e → (e ≡ Memory) ⊎ (IsEnd e × (e ≢ Memory))
end_of honest id file before now Disk is = inr (tt, λ same. cc same)
end_of honest id file before now (NotACache at) is = inr (tt, λ same. cc same)
end_of honest id file before now (Damaged number stored found) is = inr (tt, λ same. cc same)
end_of honest id file before now (OtherServer kept asked) is = absurd is
end_of honest id file before now (Queued path) is = absurd is
end_of honest id file before now (NoSuchJob number) is = absurd is
end_of honest id file before now (Crowded oldest) is = absurd is
end_of honest id file before now (Limit which) is = absurd is
end_of honest id file before now Memory is = inl refl

module _ {D : Type 0} (honest : D → Type 0) (moment : D → ℕ) (seen : D → ℕ → List ℕ) (faults : D → ℕ) (who : Who) (now : ℕ) (ask : Ask) (old new : Desk D) where
  -- the desk was dead
  pub asked_dead : (fault : DeskFault) → old.recorder.dead ≡ Some fault → new ≡ old → IsAsked honest moment seen faults who now ask old new (Err fault)
  asked_dead fault dead same = record {
    verdict = Stopped fault;
    bytes = [];
    answer = refl;
    table = ap (λ (d : Desk D). d.table) same;
    steps = ap (λ (d : Desk D). d.recorder.trace.steps.items) same ∙ sym (append-nil old.recorder.trace.steps.items);
    cause = inl (record { dead = dead; same = same });
  }

  -- there was no memory
  pub asked_starved : old.recorder.dead ≡ None → new.recorder.disk ≡ old.recorder.disk → new.recorder.dead ≡ old.recorder.dead → new.recorder.under ≡ old.recorder.under → new.recorder.trace.steps.items ≡ old.recorder.trace.steps.items → new.table ≡ old.table
      → IsAsked honest moment seen faults who now ask old new (Err Memory)
  asked_starved alive disk dead under items table = record {
    verdict = Starved;
    bytes = [];
    answer = refl;
    table = table;
    steps = items ∙ sym (append-nil old.recorder.trace.steps.items);
    cause = record { lives = record { alive = alive; dead = dead ∙ alive; under = under }; disk = disk };
  }

  -- there was nothing to take
  pub asked_idle : old.recorder.dead ≡ None → new ≡ old → told_of old.table now (deed_of old.table ask) ≡ Some Idle → after old.table now (deed_of old.table ask) ≡ old.table
      → IsAsked honest moment seen faults who now ask old new (Ok answers.Idle)
  asked_idle alive same told still =
      let t = old.table in
      record {
        verdict = Went;
        bytes = [];
        answer = ap (λ (o : Option Told). with_bytes (answer_by (effect_of t now (deed_of t ask)).mark o) []) (sym told);
        table = ap (λ (d : Desk D). d.table) same ∙ sym still;
        steps = ap (λ (d : Desk D). d.recorder.trace.steps.items) same ∙ sym (append-nil old.recorder.trace.steps.items)
            ∙ ap (λ (l : List Step). old.recorder.trace.steps.items ++ l) (sym (no_step (told_of t now (deed_of t ask)) (step_of t who now ask (moment new.recorder.disk)) told));
        cause = (
          record { alive = alive; dead = ap (λ (d : Desk D). d.recorder.dead) same ∙ alive; under = ap (λ (d : Desk D). d.recorder.under) same },
          λ none. record { lives = record { alive = alive; dead = ap (λ (d : Desk D). d.recorder.dead) same ∙ alive; under = ap (λ (d : Desk D). d.recorder.under) same }; disk = ap (λ (d : Desk D). d.recorder.disk) same },
        );
      }

  -- the bytes of the job are not to be had
  pub asked_missing : (e : DeskFault) → old.recorder.dead ≡ None → IsMissing (honest new.recorder.disk) (seen old.recorder.disk) (seen new.recorder.disk) (faults old.recorder.disk) (faults new.recorder.disk) (told_of old.table now (deed_of old.table ask)) e
      → (e ≡ Memory → (new.recorder.disk ≡ old.recorder.disk) × (new.recorder.dead ≡ old.recorder.dead)) → (e ≢ Memory → new.recorder.dead ≡ Some e)
      → new.recorder.under ≡ old.recorder.under → new.recorder.trace.steps.items ≡ old.recorder.trace.steps.items → new.table ≡ old.table → IsAsked honest moment seen faults who now ask old new (Err e)
  asked_missing e alive missing starved stopped under items table = elim (end_of (honest new.recorder.disk) missing.body (seen old.recorder.disk missing.body.file) (faults old.recorder.disk) (faults new.recorder.disk) e missing.cause) [
    | inl want ↦ subst (λ (f : DeskFault). IsAsked honest moment seen faults who now ask old new (Err f)) (sym want) (asked_starved alive (starved want).0 (starved want).1 under items table)
    | inr end ↦ record {
      verdict = Stopped e;
      bytes = [];
      answer = refl;
      table = table;
      steps = items ∙ sym (append-nil old.recorder.trace.steps.items);
      cause = inr (record { alive = alive; dead = stopped end.1; ends = end.0; cause = inr (record { body = missing.body; told = missing.is_wanted; cause = missing.cause; files = missing.files }); under = inl under });
    }
  ]

  -- the disk failed
  pub asked_failed : (e : DeskFault) → old.recorder.dead ≡ None → e ≡ Disk → new.recorder.dead ≡ Some Disk → Rose (faults old.recorder.disk) (faults new.recorder.disk)
      → (new.recorder.under ≡ old.recorder.under) ⊎ (new.recorder.under ≡ Some (step_of old.table who now ask (moment new.recorder.disk)))
      → new.recorder.trace.steps.items ≡ old.recorder.trace.steps.items → new.table ≡ old.table → IsAsked honest moment seen faults who now ask old new (Err e)
  asked_failed e alive is dead rose under items table =
      subst (λ (f : DeskFault). IsAsked honest moment seen faults who now ask old new (Err f)) (sym is)
      (record {
        verdict = Stopped Disk;
        bytes = [];
        answer = refl;
        table = table;
        steps = items ∙ sym (append-nil old.recorder.trace.steps.items);
        cause = inr (record { alive = alive; dead = dead; ends = tt; cause = inl (refl, rose); under = under });
      })

  -- the step was made
  pub asked_went : (planned : Planned) (row bytes : List ℕ) (result : Result Answer DeskFault) → old.recorder.dead ≡ None → IsPlannedBy old.table who now (deed_of old.table ask) (effect_of old.table now (deed_of old.table ask)) planned row
      → result ≡ with_bytes planned.made.answer bytes → new.table ≡ after old.table now (deed_of old.table ask)
      → new.recorder.trace.steps.items ≡ old.recorder.trace.steps.items ++ stamped planned.made.step (moment new.recorder.disk) ∷ []
      → new.recorder.dead ≡ old.recorder.dead → new.recorder.under ≡ old.recorder.under → IsAsked honest moment seen faults who now ask old new result
  asked_went planned row bytes result alive is answer table items dead under =
      let t = old.table in
      let told = told_of t now (deed_of t ask) in
      let last = step_of t who now ask (moment new.recorder.disk) in
      record {
        verdict = Went;
        bytes = bytes;
        answer = answer ∙ ap (λ (r : Result Told DeskFault). with_bytes r bytes) is.answer;
        table = table;
        steps = items ∙ ap (λ (s : Step). old.recorder.trace.steps.items ++ stamped s (moment new.recorder.disk) ∷ []) is.step
            ∙ ap (λ (l : List Step). old.recorder.trace.steps.items ++ l) (sym (one_step told last is.stands));
        cause = (record { alive = alive; dead = dead ∙ alive; under = under }, λ none. absurd (some_step told (step_of t who now ask 0) is.stands none));
      }

-- a step that was planned, with its moment
pub stamped_is : (t : DeskTable) (who : Who) (now : ℕ) (ask : Ask) (planned : Planned) (row : List ℕ) (n : ℕ) → IsPlannedBy t who now (deed_of t ask) (effect_of t now (deed_of t ask)) planned row → stamped planned.made.step n ≡ step_of t who now ask n
stamped_is t who now ask planned row n is = ap (λ (s : Step). stamped s n) is.step

-- a dead desk has died of an end
pub end_is : (dead : Option DeskFault) (fault : DeskFault) → dead ≡ Some fault → IsEndIfAny dead → IsEnd fault
end_is dead fault is end = subst IsEndIfAny is end
