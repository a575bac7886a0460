-- Which files of its disk a desk changes, at each of its exits.
use Rattle.std.proofs.Common.{◌≡◌, ◌≢◌, ℕ, List, [], Option, Some, None, Result, Ok, Err, IfOk, OnOk, refl, sym, ◌∙◌, ap, subst, arith}
use Rattle.dav_disk.specs.Disk.{Doubt}
use Rattle.dav_store.specs.declared.body_id.BodyId.{BodyId}
use Rattle.dav_index.specs.declared.record.Record.{Record}
use Rattle.dav_deeds.specs.Answers.{kind_told}
use Rattle.dav_deeds.specs.DeskTable.{DeskTable}
use Rattle.dav_deeds.specs.Effects.{record_of, told_of}
use Rattle.dav_deeds.specs.Legal.{IsDeed, bytes_in, deed_of, new_body}
use Rattle.dav_deeds.specs.Made.{row_of}
use Rattle.dav_deeds.specs.declared.answer.Told.TheVariants.{Idle}
use Rattle.dav_deeds.specs.declared.ask.Ask.{Ask}
use Rattle.dav_deeds.specs.declared.deed.Deed.{Deed}
use Rattle.dav_deeds.proofs.AllRows.{idle_is, new_recorded}
use Rattle.dav_recorder.specs.Files.{ChangesOnly, AreEmpty, IsStored}
use Rattle.dav_recorder.specs.Stands.{IsFile, IsWritten}
use Rattle.dav_recorder.proofs.Filing.{changes_wider, changes_behind}
use Rattle.dav_desk.specs.Changed.{fresh_by, freed_by}
use Rattle.dav_desk.specs.Entry.{file_in}
use Rattle.dav_desk.proofs.Entering.{text_wide}

-- what finds nothing to take frees no file and has no body
pub idle_frees : (t : DeskTable) (now : ℕ) (ask : Ask) → told_of t now (deed_of t ask) ≡ Some Idle → (fresh_by t ask ≡ None) × (freed_by t now ask ≡ [])
idle_frees t now ask is =
    let idle = idle_is t now (deed_of t ask) (ap kind_told is) in
    (ap file_in idle.none, idle.frees)

-- an ask that has a new body has a row
pub stored_row : (t : DeskTable) (now : ℕ) (ask : Ask) (row : List ℕ) → IsDeed t (deed_of t ask) → row ≡ row_of (record_of t now (deed_of t ask)) → (f : ℕ) → IsFile (fresh_by t ask) f → row ≢ []
stored_row t now ask row is_deed is f there = by (new_body (deed_of t ask)) refl there
  where
    some : (found : Option Record) → found ≢ None → row ≡ row_of found → row ≢ []
    some None none at = absurd (none refl)
    some (Some r) none at = λ empty. text_wide r (sym at ∙ empty)

    by : (new : Option BodyId) → new_body (deed_of t ask) ≡ new → IsFile (file_in new) f → row ≢ []
    by None at out = absurd out
    by (Some id) at in_file = some (record_of t now (deed_of t ask)) (new_recorded t now (deed_of t ask) id is_deed at) is

pub on_ok_any : {T E : Type 0} {P : Type 0} (r : Result T E) → P → OnOk r P
on_ok_any (Ok v) p = p
on_ok_any (Err e) p = tt

-- nothing is put where an ask has no body and frees no file
pub stored_nothing : (fresh : Option ℕ) (bytes freed : List ℕ) (seen : ℕ → List ℕ) (doubts : ℕ → Doubt) → fresh ≡ None → IsStored fresh bytes freed seen doubts
stored_nothing fresh bytes freed seen doubts none f is out = absurd (subst (λ (o : Option ℕ). IsFile o f) none is)

pub empty_nothing : (freed : List ℕ) (seen : ℕ → List ℕ) (doubts : ℕ → Doubt) → freed ≡ [] → AreEmpty freed seen doubts
empty_nothing freed seen doubts none = subst (λ (l : List ℕ). AreEmpty l seen doubts) (sym none) (λ i d lt. absurd (omega (arith, lt)))

-- what a planned step puts on the disk is what the ask does
module _ (t : DeskTable) (now : ℕ) (ask : Ask) (deed : Deed) (bytes freed : List ℕ) (deed_is : deed ≡ deed_of t ask) (is_deed : IsDeed t (deed_of t ask)) (freed_is : freed ≡ freed_by t now ask) where
  pub stored_asked : (row : List ℕ) (seen : ℕ → List ℕ) (doubts : ℕ → Doubt) → bytes ≡ bytes_in ask → row ≡ row_of (record_of t now (deed_of t ask)) → (row ≢ [] → IsStored (file_in (new_body deed)) bytes freed seen doubts)
      → IsStored (fresh_by t ask) (bytes_in ask) (freed_by t now ask) seen doubts
  stored_asked row seen doubts bytes_is row_is stored f there =
      let same : row ≢ [] → IsStored (fresh_by t ask) (bytes_in ask) (freed_by t now ask) seen doubts =
      subst (λ (d : Deed). row ≢ [] → IsStored (file_in (new_body d)) (bytes_in ask) (freed_by t now ask) seen doubts) deed_is
      (subst (λ (l : List ℕ). row ≢ [] → IsStored (file_in (new_body deed)) l (freed_by t now ask) seen doubts) bytes_is
      (subst (λ (l : List ℕ). row ≢ [] → IsStored (file_in (new_body deed)) bytes l seen doubts) freed_is stored)) in
      same (stored_row t now ask row is_deed row_is f there) f there

  pub empty_asked : (seen : ℕ → List ℕ) (doubts : ℕ → Doubt) → AreEmpty freed seen doubts → AreEmpty (freed_by t now ask) seen doubts
  empty_asked seen doubts is = subst (λ (l : List ℕ). AreEmpty l seen doubts) freed_is is

  module _ {D : Type 0} (moment : D → ℕ) (seen : D → ℕ → List ℕ) (past : D → ℕ → ℕ → Doubt) where
    -- the disk before, with room for a step, once the bytes of the job are read, and once the step is on it
    pub changes_asked : (before roomy read done : D) → roomy ≡ before → ChangesOnly moment seen past (λ _. ⊥) roomy read → ChangesOnly moment seen past (IsWritten (file_in (new_body deed)) freed) read done
        → ChangesOnly moment seen past (IsWritten (fresh_by t ask) (freed_by t now ask)) before done
    changes_asked before roomy read done same looks is =
        let asked : ChangesOnly moment seen past (IsWritten (fresh_by t ask) (freed_by t now ask)) read done =
        subst (λ (d : Deed). ChangesOnly moment seen past (IsWritten (file_in (new_body d)) (freed_by t now ask)) read done) deed_is
        (subst (λ (l : List ℕ). ChangesOnly moment seen past (IsWritten (file_in (new_body deed)) l) read done) freed_is is) in
        subst (λ (d : D). ChangesOnly moment seen past (IsWritten (fresh_by t ask) (freed_by t now ask)) d done) same (changes_behind moment seen past (IsWritten (fresh_by t ask) (freed_by t now ask)) roomy read done looks asked)

-- the bytes of the job were looked for, and no more
pub changes_looked : {D : Type 0} (moment : D → ℕ) (seen : D → ℕ → List ℕ) (past : D → ℕ → ℕ → Doubt) (F : ℕ → Type 0) (before roomy read : D) → roomy ≡ before → ChangesOnly moment seen past (λ _. ⊥) roomy read → ChangesOnly moment seen past F before read
changes_looked {D} moment seen past F before roomy read same looks = subst (λ (d : D). ChangesOnly moment seen past F d read) same (changes_wider moment seen past (λ _. ⊥) F roomy read (λ f never. absurd never) looks)

-- what holds of an answer
pub ok_map : {A E : Type 0} (r : Result A E) (P Q : A → Type 0) → ((a : A) → P a → Q a) → IfOk r P → IfOk r Q
ok_map (Ok a) P Q of h = of a h
ok_map (Err e) P Q of h = tt

pub on_ok_map : {A E : Type 0} (r : Result A E) (P Q : Type 0) → (P → Q) → OnOk r P → OnOk r Q
on_ok_map (Ok a) P Q of h = of h
on_ok_map (Err e) P Q of h = tt
