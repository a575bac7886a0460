-- What a call of a desk does to it, whatever its disk is.
use Rattle.std.specs.Prelude.{◌≡◌, ◌⊎◌, ℕ, List, [], ◌++◌, Some, None, Result}
use Rattle.dav_machine.specs.Log.{Rose}
use Rattle.dav_disk.specs.Disk.{AllStay}
use Rattle.dav_store.specs.declared.body_id.BodyId.{BodyId}
use Rattle.dav_deeds.specs.Answers.{wanted}
use Rattle.dav_deeds.specs.DeskTable.{DeskTable}
use Rattle.dav_deeds.specs.Effects.{told_of}
use Rattle.dav_deeds.specs.Legal.{deed_of}
use Rattle.dav_deeds.specs.declared.answer.Answer.{Answer}
use Rattle.dav_deeds.specs.declared.ask.Ask.{Ask}
use Rattle.dav_deeds.specs.declared.ask.Who.{Who}
use Rattle.dav_deeds.specs.declared.fault.DeskFault.{DeskFault}
use Rattle.dav_deeds.specs.declared.fault.DeskFault.TheVariants.{Disk}
use Rattle.dav_recorder.specs.Opening.{IsFetchFault}
use Rattle.dav_desk.specs.declared.desk.Desk.{Desk}
use Rattle.dav_desk.specs.Ends.{IsEnd}
use Rattle.dav_desk.specs.Verdict.{Verdict, Went, Stopped, Starved, step_of, steps_by, table_by, result_by}

-- the bytes of the body that was to be told could not be read, or are not those that were kept; no file changed
pub record IsUnread (honest : Type 0) (seen seen_now : ℕ → List ℕ) (before now_faults : ℕ) (t : DeskTable) (now : ℕ) (ask : Ask) (fault : DeskFault) : Type 0 where
  pub body : BodyId
  pub told : wanted (told_of t now (deed_of t ask)) ≡ Some body
  pub cause : IsFetchFault honest body (seen body.file) before now_faults fault
  pub files : honest → AllStay seen seen_now

-- the desk was dead already, and is as it was
pub record WasDead {D : Type 0} (fault : DeskFault) (old new : Desk D) : Type 0 where
  pub dead : old.recorder.dead ≡ Some fault
  pub same : new ≡ old

-- The desk died in this call: the disk failed in it, or the bytes of a body that was to be told are not to be had. The step is the one under way where
-- its record was begun.
pub record HasDied {D : Type 0} (honest : D → Type 0) (moment : D → ℕ) (seen : D → ℕ → List ℕ) (faults : D → ℕ) (who : Who) (now : ℕ) (ask : Ask) (fault : DeskFault) (old new : Desk D) : Type 0 where
  pub alive : old.recorder.dead ≡ None
  pub dead : new.recorder.dead ≡ Some fault
  pub ends : IsEnd fault
  pub cause : ((fault ≡ Disk) × Rose (faults old.recorder.disk) (faults new.recorder.disk))
      ⊎ IsUnread (honest new.recorder.disk) (seen old.recorder.disk) (seen new.recorder.disk) (faults old.recorder.disk) (faults new.recorder.disk) old.table now ask fault
  pub under : (new.recorder.under ≡ old.recorder.under) ⊎ (new.recorder.under ≡ Some (step_of old.table who now ask (moment new.recorder.disk)))

-- the desk lives on
pub record LivesOn {D : Type 0} (old new : Desk D) : Type 0 where
  pub alive : old.recorder.dead ≡ None
  pub dead : new.recorder.dead ≡ None
  pub under : new.recorder.under ≡ old.recorder.under

-- the same, and the disk was not called
pub record IsUncalled {D : Type 0} (old new : Desk D) : Type 0 where
  pub lives : LivesOn old new
  pub disk : new.recorder.disk ≡ old.recorder.disk

-- what there was to a verdict. A call that adds no step to the trace made no device call unless it was stopped
abbrev pub HasCause : {D : Type 0} → (D → Type 0) → (D → ℕ) → (D → ℕ → List ℕ) → (D → ℕ) → Who → ℕ → Ask → Verdict → Desk D → Desk D → Type 0
HasCause honest moment seen faults who now ask Went old new = LivesOn old new × (steps_by Went old.table who now ask 0 ≡ [] → IsUncalled old new)
HasCause honest moment seen faults who now ask (Stopped fault) old new = WasDead fault old new ⊎ HasDied honest moment seen faults who now ask fault old new
HasCause honest moment seen faults who now ask Starved old new = IsUncalled old new

-- the desk was asked this, and answered so: all by one verdict
pub record IsAsked {D : Type 0} (honest : D → Type 0) (moment : D → ℕ) (seen : D → ℕ → List ℕ) (faults : D → ℕ) (who : Who) (now : ℕ) (ask : Ask) (old new : Desk D) (result : Result Answer DeskFault) : Type 0 where
  pub verdict : Verdict
  pub bytes : List ℕ
  pub answer : result ≡ result_by verdict old.table now ask bytes
  pub table : new.table ≡ table_by verdict old.table now ask
  pub steps : new.recorder.trace.steps.items ≡ old.recorder.trace.steps.items ++ steps_by verdict old.table who now ask (moment new.recorder.disk)
  pub cause : HasCause honest moment seen faults who now ask verdict old new
