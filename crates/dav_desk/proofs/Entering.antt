-- Steps that are put on the disk.
use Rattle.std.proofs.Common.{◌≡◌, ◌≢◌, ℕ, ◌<◌, ◌≤◌, List, [], ◌∷◌, length, get_or, Bool, true, false, nat_eq, Option, Some, None, refl, sym, ◌∙◌, ap, subst, arith}
use Rattle.std.proofs.lemmas.Bool.{false≢true, eqb-true}
use Rattle.std.proofs.lemmas.List.Elements.{All-contains_itself}
use Rattle.std.specs.List.{All}
use Rattle.dav_disk.specs.Disk.{Doubt}
use Rattle.dav_store.specs.Body.{id_of}
use Rattle.dav_store.specs.Rows.{IsPayload}
use Rattle.dav_store.specs.declared.body_id.BodyId.{BodyId}
use Rattle.dav_index.specs.Records.{text_of}
use Rattle.dav_index.specs.declared.record.Record.{Record}
use Rattle.dav_index.specs.declared.record.Record.TheVariants as records
use Rattle.dav_index.proofs.LawLemmas.{text_fits}
use Rattle.dav_deeds.specs.DeskTable.{DeskTable, reopened}
use Rattle.dav_deeds.specs.Effects.{record_of, released_of, effect_of}
use Rattle.dav_deeds.specs.Legal.{IsLegal, IsDeed, Legal, bytes_in, deed_of, new_body, table_after}
use Rattle.dav_deeds.specs.Made.{row_of}
use Rattle.dav_deeds.specs.Change.{IsPlannedBy}
use Rattle.dav_deeds.specs.Sound.{IsSound}
use Rattle.dav_deeds.specs.declared.ask.Ask.{Ask}
use Rattle.dav_deeds.specs.declared.ask.Who.{Who}
use Rattle.dav_deeds.specs.declared.deed.Deed.{Deed}
use Rattle.dav_deeds.specs.declared.deed.Step.{Step}
use Rattle.dav_deeds.specs.declared.deed.Trace.{Trace}
use Rattle.dav_deeds.specs.declared.plan.Planned.{Planned}
use Rattle.dav_deeds.proofs.AllRows.{body_made, is_record, released_begin}
use Rattle.dav_recorder.specs.Planned.{HasNew, IsPlanned, IsQuiet}
use Rattle.dav_recorder.specs.Recovers.{IsConsistent}
use Rattle.dav_recorder.specs.Survives.{SurviveAll, IsLive, IsLeft, with_under}
use Rattle.dav_recorder.specs.declared.recorder.Recorder.{Recorder}
use Rattle.dav_recorder.proofs.PlanLemmas.{step_planned, step_quiet}
use Rattle.dav_desk.specs.Entry.{file_in, IsEntry}
use Rattle.dav_desk.specs.Working.{AreGiven}
use Rattle.dav_desk.proofs.Telling.{not_idle}

-- a row is that of a record, and no row is that of none
row_some : (found : Option Record) (row : List ℕ) → row ≡ row_of found → row ≢ [] → (r : Record) × (found ≡ Some r) × (row ≡ text_of r)
row_some None row is some = absurd (some is)
row_some (Some r) row is some = (r, refl, is)

row_none : (found : Option Record) (row : List ℕ) → row ≡ row_of found → row ≡ [] → ((r : Record) → found ≡ Some r → text_of r ≢ []) → found ≡ None
row_none None row is none wide = refl
row_none (Some r) row is none wide = absurd (wide r refl (sym is ∙ none))

not_empty : (xs : List ℕ) → xs ≢ [] → 0 < length xs
not_empty [] some = absurd (some refl)
not_empty (x ∷ xs) some = omega arith

pub row_fits : (t : DeskTable) (now : ℕ) (deed : Deed) (row : List ℕ) → IsSound t → IsDeed t deed → row ≡ row_of (record_of t now deed) → row ≢ [] → IsPayload row
row_fits t now deed row sound is row_is some =
    let found = row_some (record_of t now deed) row row_is some in
    let short : length (text_of found.0) < 65536 = text_fits found.0 (is_record t sound now deed found.0 is found.1) in
    let long : 0 < length row = not_empty row some in
    (long, omega (arith, short, ap (λ (l : List ℕ). length l) found.2))

-- whether a row is empty
pub row_empty : (row : List ℕ) (b : Bool) → b ≡ nat_eq (length row) 0 → b ≡ true → row ≡ []
row_empty [] b test is = refl
row_empty (x ∷ xs) b test is = let none : length (x ∷ xs) ≡ 0 = eqb-true (length (x ∷ xs)) 0 (sym test ∙ is) in absurd (omega (arith, none))

pub row_full : (row : List ℕ) (b : Bool) → b ≡ nat_eq (length row) 0 → b ≡ false → row ≢ []
row_full row b test off = λ is. absurd (false≢true (sym off ∙ test ∙ ap (λ (l : List ℕ). nat_eq (length l) 0) is))

-- each file that is freed is one of bodies
pub freed_begin : (t : DeskTable) (now : ℕ) (deed : Deed) (freed : List ℕ) → IsSound t → freed ≡ released_of t now deed → All (λ f. 2 ≤ f) freed
freed_begin t now deed freed sound is =
    subst (λ (l : List ℕ). All (λ f. 2 ≤ f) l) (sym is) (λ i d lt. released_begin t sound now deed (get_or (released_of t now deed) i d) (All-contains_itself (released_of t now deed) i d lt))

-- the text of a record is not empty
pub text_wide : (r : Record) → text_of r ≢ []
text_wide (records.Forgot path locks below) = λ is. cc is
text_wide (records.Closed path body) = λ is. cc is
text_wide (records.Sent path file seen) = λ is. cc is
text_wide (records.Lost number path stays) = λ is. cc is
text_wide (records.Dropped number) = λ is. cc is

-- what the recorder needs of a step with a row, and of one without
pub entry_planned : (t : DeskTable) (s : Step) (given : ℕ → List ℕ) (bytes row freed : List ℕ) → IsEntry t s given bytes row freed → row ≢ [] → IsPlanned t s given (file_in (new_body s.deed)) bytes row freed
entry_planned t s given bytes row freed is some =
    let found = row_some (record_of t s.now s.deed) row is.row_is some in
    subst (λ (l : List ℕ). IsPlanned t s given (file_in (new_body s.deed)) bytes row l) (sym is.freed_is)
    (subst (λ (l : List ℕ). IsPlanned t s given (file_in (new_body s.deed)) bytes l (released_of t s.now s.deed)) (sym found.2)
    (step_planned t s is.sound is.legal found.0 given (file_in (new_body s.deed)) bytes found.1 is.new))

pub entry_quiet : (t : DeskTable) (s : Step) (given : ℕ → List ℕ) (bytes row freed : List ℕ) → IsEntry t s given bytes row freed → row ≡ [] → IsQuiet t s freed
entry_quiet t s given bytes row freed is none =
    subst (λ (l : List ℕ). IsQuiet t s l) (sym is.freed_is)
    (step_quiet t s is.sound is.legal (row_none (record_of t s.now s.deed) row is.row_is none (λ r at. text_wide r)))

-- a planned step is an entry where the bytes of the ask are given for its new body
asked_new : (t : DeskTable) (ask : Ask) (given : ℕ → List ℕ) → AreGiven t given ask → HasNew (new_body (deed_of t ask)) given (file_in (new_body (deed_of t ask))) (bytes_in ask)
asked_new t ask given has = by (new_body (deed_of t ask)) refl
  where
    by : (new : Option BodyId) → new_body (deed_of t ask) ≡ new → HasNew new given (file_in new) (bytes_in ask)
    by None is = refl
    by (Some id) is =
        let made : id ≡ id_of t.index.next_file (bytes_in ask) = body_made t ask id is in
        (refl, subst (λ (b : BodyId). b ≡ id_of b.file (bytes_in ask)) (sym made) refl, has id is)

pub planned_legal : (t : DeskTable) (who : Who) (now : ℕ) (ask : Ask) (planned : Planned) (row : List ℕ) → IsPlannedBy t who now (deed_of t ask) (effect_of t now (deed_of t ask)) planned row → IsLegal t planned.made.step
planned_legal t who now ask planned row is =
    subst (λ (s : Step). IsLegal t s) (sym is.step)
    (record { deed = is.is_deed; mark = refl; told = refl; stands = not_idle (effect_of t now (deed_of t ask)).told is.stands })

pub planned_entry : (t : DeskTable) (who : Who) (now : ℕ) (ask : Ask) (planned : Planned) (row : List ℕ) (given : ℕ → List ℕ) → IsSound t → AreGiven t given ask → IsPlannedBy t who now (deed_of t ask) (effect_of t now (deed_of t ask)) planned row
    → IsEntry t planned.made.step given (bytes_in ask) row planned.made.released.items
planned_entry t who now ask planned row given sound has is =
    let legal = planned_legal t who now ask planned row is in
    subst (λ (s : Step). IsLegal t s → IsEntry t s given (bytes_in ask) row planned.made.released.items) (sym is.step)
    (λ legal. record { sound = sound; legal = legal; new = asked_new t ask given has; row_is = is.row_is; freed_is = is.released })
    legal

-- a desk that waits, or died without a step on its way
module _ {D : Type 0} (moment : D → ℕ) (seen : D → ℕ → List ℕ) (past : D → ℕ → ℕ → Doubt) (url : List ℕ) (opening : DeskTable) (start : ℕ) (given : ℕ → List ℕ) where
  pub live_reserved : (old : Recorder D) (trace : Trace) → trace.steps.items ≡ old.trace.steps.items → IsLive moment seen past url opening start given old → IsLive moment seen past url opening start given (record old { trace = trace })
  live_reserved old trace same is = record {
    begun = is.begun;
    legal = subst (λ (l : List Step). Legal opening l) (sym same) is.legal;
    consistent = subst (λ (l : List Step). IsConsistent url (reopened (table_after opening l)).index given old.journal.end (seen old.disk) (past old.disk (moment old.disk))) (sym same) is.consistent;
    survive = subst (λ (l : List Step). SurviveAll (past old.disk) start (moment old.disk) url opening l None given) (sym same) is.survive;
    idle = is.idle;
  }

  pub live_left : (desk : Recorder D) → IsLive moment seen past url opening start given desk → IsLeft moment past url opening start given desk
  live_left desk is = record {
    legal = subst (λ (u : Option Step). Legal opening (with_under desk.trace.steps.items u)) (sym is.idle) is.legal;
    survive = subst (λ (u : Option Step). SurviveAll (past desk.disk) start (moment desk.disk) url opening desk.trace.steps.items u given) (sym is.idle) is.survive;
  }
