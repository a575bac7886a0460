-- How many device calls a call of a desk makes, and which step is under way after it, whatever the disk is.
use Rattle.std.specs.Prelude.{◌≡◌, ◌≢◌, ◌⊎◌, ℕ, ◌+◌, ◌≤◌, List, [], ◌∷◌, ◌++◌, Option, Some, None}
use Rattle.dav_disk.specs.Disk.{Doubt}
use Rattle.dav_index.specs.declared.record.Record.{Record}
use Rattle.dav_store.specs.declared.body_id.BodyId.{BodyId}
use Rattle.dav_deeds.specs.Answers.{wanted}
use Rattle.dav_deeds.specs.DeskTable.{DeskTable}
use Rattle.dav_deeds.specs.Effects.{record_of, told_of}
use Rattle.dav_deeds.specs.Legal.{bytes_in, deed_of}
use Rattle.dav_deeds.specs.declared.answer.Told.{Told}
use Rattle.dav_deeds.specs.declared.ask.Ask.{Ask}
use Rattle.dav_deeds.specs.declared.ask.Who.{Who}
use Rattle.dav_deeds.specs.declared.deed.Step.{Step}
use Rattle.dav_deeds.specs.declared.fault.DeskFault.TheVariants.{Disk}
use Rattle.std.specs.List.{Contains}
use Rattle.dav_recorder.specs.Files.{ChangesOnly}
use Rattle.dav_recorder.specs.Calls.{entry_calls, freeing_calls, IsUnbegun, IsBegun}
use Rattle.dav_desk.specs.Changed.{fresh_by, freed_by}
use Rattle.dav_desk.specs.Verdict.{step_of}
use Rattle.dav_desk.specs.declared.desk.Desk.{Desk}

-- the one that reads the bytes of a body, if one is told
abbrev pub one_call : Option BodyId → ℕ
one_call None = 0
one_call (Some body) = 1

abbrev pub told_calls : Option Told → ℕ
told_calls told = one_call (wanted told)

-- those that put a step on the disk: its new body, its record and an end to files, or an end to files alone
abbrev pub put_calls : Option Record → Option ℕ → List ℕ → ℕ
put_calls None fresh freed = freeing_calls freed
put_calls (Some r) fresh freed = entry_calls fresh freed

-- all of an ask
abbrev pub calls_by : DeskTable → ℕ → Ask → ℕ
calls_by t now ask = told_calls (told_of t now (deed_of t ask)) + put_calls (record_of t now (deed_of t ask)) (fresh_by t ask) (freed_by t now ask)

-- the steps ended at counts of calls of which none is less than the one before it, the first not less than this and the last not more than that
abbrev pub AreTimed : ℕ → List Step → ℕ → Type 0
AreTimed from [] to = from ≤ to
AreTimed from (s ∷ steps) to = (from ≤ s.moment) × AreTimed s.moment steps to

-- The count of calls does not fall, and where a step came to the trace, the count at its end is the step's moment: the one before, and those
-- that such an ask makes. So the moments of a trace never fall.
pub record IsCounted {D : Type 0} (moment : D → ℕ) (now : ℕ) (ask : Ask) (old new : Desk D) : Type 0 where
  pub later : moment old.recorder.disk ≤ moment new.recorder.disk
  pub no_more : moment new.recorder.disk ≤ moment old.recorder.disk + calls_by old.table now ask
  pub each : (s : Step) → new.recorder.trace.steps.items ≡ old.recorder.trace.steps.items ++ s ∷ []
      → (s.moment ≡ moment new.recorder.disk) × (moment new.recorder.disk ≡ moment old.recorder.disk + calls_by old.table now ask)
  pub timed : (from : ℕ) → AreTimed from old.recorder.trace.steps.items (moment old.recorder.disk) → AreTimed from new.recorder.trace.steps.items (moment new.recorder.disk)

module _ {D : Type 0} (honest : D → Type 0) (moment : D → ℕ) (seen : D → ℕ → List ℕ) (past : D → ℕ → ℕ → Doubt) (who : Who) (now : ℕ) (ask : Ask) (old new : Desk D) where
  -- The disk failed in this call once the writing of the step's record had begun: that is the step under way, and its new body is in its file.
  pub record WasBegun : Type 0 where
    pub has_record : record_of old.table now (deed_of old.table ask) ≢ None
    pub dead : new.recorder.dead ≡ Some Disk
    pub begun : IsBegun honest moment seen past (fresh_by old.table ask) (bytes_in ask) (freed_by old.table now ask) old.recorder.disk new.recorder.disk
    pub under : new.recorder.under ≡ Some (step_of old.table who now ask (moment new.recorder.disk))

  -- It didn't: the step under way is the one from before. Where the disk failed in a step with a record, it failed while its new body was stored.
  pub record WasUnbegun : Type 0 where
    pub same : new.recorder.under ≡ old.recorder.under
    pub unbegun : old.recorder.dead ≡ None → new.recorder.dead ≡ Some Disk → record_of old.table now (deed_of old.table ask) ≢ None
        → IsUnbegun honest moment seen past (fresh_by old.table ask) old.recorder.disk new.recorder.disk

  -- An ask without a record, as one that is refused, changes no file but those that nothing needs any more: not the index.
  pub record IsCalled : Type 0 where
    pub counted : IsCounted moment now ask old new
    pub under : WasBegun ⊎ WasUnbegun
    pub quiet : honest new.recorder.disk → record_of old.table now (deed_of old.table ask) ≡ None
        → ChangesOnly moment seen past (Contains (freed_by old.table now ask)) old.recorder.disk new.recorder.disk
