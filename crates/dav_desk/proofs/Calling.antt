-- The device calls of a step, and which one is under way, at each of its exits.
use Rattle.std.proofs.Common.{◌≡◌, ◌≢◌, ◌⊎◌, inl, inr, ℕ, ◌+◌, ◌≤◌, List, [], ◌∷◌, ◌++◌, length, Bool, Option, Some, None, Result, refl, sym, ◌∙◌, ap, subst, arith, length-append}
use Rattle.dav_disk.specs.Disk.{Doubt}
use Rattle.dav_store.specs.declared.body_id.BodyId.{BodyId}
use Rattle.dav_index.specs.declared.record.Record.{Record}
use Rattle.dav_deeds.specs.Answers.{wanted}
use Rattle.dav_deeds.specs.DeskTable.{DeskTable}
use Rattle.dav_deeds.proofs.AllRows.{told_quiet}
use Rattle.dav_deeds.specs.Change.{IsPlannedBy}
use Rattle.dav_deeds.specs.Effects.{effect_of, record_of, told_of}
use Rattle.dav_deeds.specs.Legal.{bytes_in, deed_of, new_body}
use Rattle.dav_deeds.specs.Made.{row_of}
use Rattle.dav_deeds.specs.declared.answer.Told.{Told}
use Rattle.dav_deeds.specs.declared.ask.Ask.{Ask}
use Rattle.dav_deeds.specs.declared.ask.Who.{Who}
use Rattle.dav_deeds.specs.declared.deed.Deed.{Deed}
use Rattle.dav_deeds.specs.declared.deed.Step.{Step}
use Rattle.dav_deeds.specs.declared.fault.DeskFault.{DeskFault}
use Rattle.dav_deeds.specs.declared.fault.DeskFault.TheVariants.{Disk}
use Rattle.dav_deeds.specs.declared.plan.Planned.{Planned}
use Rattle.dav_deeds.specs.declared.spare.Spare.{Spare}
use Rattle.std.specs.List.{Contains}
use Rattle.dav_recorder.specs.Opening.{IsUndamaged}
use Rattle.dav_recorder.specs.Calls.{entry_calls, IsUnder}
use Rattle.dav_recorder.specs.Files.{ChangesOnly}
use Rattle.dav_recorder.specs.Stands.{IsFile}
use Rattle.dav_recorder.specs.declared.recorder.Recorder.{Recorder}
use Rattle.dav_recorder.proofs.LiveLemmas.{stamped}
use Rattle.dav_recorder.proofs.Filing.{changes_none, changes_wider, changes_behind}
use Rattle.dav_desk.specs.Called.{AreTimed, one_call, told_calls, put_calls, calls_by, IsCalled}
use Rattle.dav_desk.specs.Calls.{row_calls}
use Rattle.dav_desk.specs.Changed.{fresh_by, freed_by}
use Rattle.dav_desk.specs.Entry.{file_in}
use Rattle.dav_deeds.specs.declared.answer.Answer.{Answer}
use Rattle.dav_desk.specs.Ended.{LivesOn, IsUncalled, HasCause, IsAsked}
use Rattle.dav_desk.specs.Verdict.{Verdict, Went, Stopped, Starved}
use Rattle.dav_desk.specs.declared.desk.Desk.{Desk}
use Rattle.dav_desk.proofs.Asking.{stamped_is}
use Rattle.dav_desk.proofs.Entering.{text_wide}

-- the calls by a row are those by its record
pub row_puts : (r : Option Record) (row : List ℕ) (fresh : Option ℕ) (freed : List ℕ) → row ≡ row_of r → row_calls row fresh freed ≡ put_calls r fresh freed
row_puts None row fresh freed is = ap (λ (l : List ℕ). row_calls l fresh freed) is
row_puts (Some r) [] fresh freed is = absurd (text_wide r (sym is))
row_puts (Some r) (b ∷ row) fresh freed is = refl

pub full_calls : (row : List ℕ) (fresh : Option ℕ) (freed : List ℕ) → row ≢ [] → row_calls row fresh freed ≡ entry_calls fresh freed
full_calls [] fresh freed some = absurd (some refl)
full_calls (b ∷ row) fresh freed some = refl

row_there : (r : Option Record) (row : List ℕ) → row ≡ row_of r → r ≢ None → row ≢ []
row_there None row is some = absurd (some refl)
row_there (Some r) row is some = λ none. text_wide r (sym is ∙ none)

row_not_there : (r : Option Record) (row : List ℕ) → row ≡ row_of r → row ≢ [] → r ≢ None
row_not_there None row is some = absurd (some is)
row_not_there (Some r) row is some = λ none. cc none

is_row : (row : List ℕ) → (row ≡ []) ⊎ (row ≢ [])
is_row [] = inl refl
is_row (b ∷ row) = inr (λ none. cc none)

none_told_calls : (o : Option Told) → ((body : BodyId) → wanted o ≡ Some body → ⊥) → told_calls o ≡ 0
none_told_calls o other = by (wanted o) refl
  where
    by : (w : Option BodyId) → wanted o ≡ w → one_call w ≡ 0
    by None is = refl
    by (Some body) is = absurd (other body is)

longer : {X : Type 0} (xs ys : List X) (x : X) → ys ≡ xs → ys ≡ xs ++ x ∷ [] → ⊥
longer xs ys x same more = omega (arith, ap length same, ap length more, length-append xs (x ∷ []))

last_is : {X : Type 0} (xs ys : List X) (x y : X) → ys ≡ xs ++ x ∷ [] → ys ≡ xs ++ y ∷ [] → x ≡ y
last_is xs ys x y one two = same_last xs x y (sym one ∙ two)
  where
    same_last : {X : Type 0} (xs : List X) (x y : X) → xs ++ x ∷ [] ≡ xs ++ y ∷ [] → x ≡ y
    same_last [] x y is = cc is
    same_last (z ∷ xs) x y is = same_last xs x y (cc is)

-- moments that were in order are so later, and with one more
pub timed_later : (from : ℕ) (steps : List Step) (a b : ℕ) → a ≤ b → AreTimed from steps a → AreTimed from steps b
timed_later from [] a b le is = omega (arith, le, is)
timed_later from (s ∷ steps) a b le is = (is.0, timed_later s.moment steps a b le is.1)

timed_more : (from : ℕ) (steps : List Step) (s : Step) (a : ℕ) → AreTimed from steps a → a ≤ s.moment → AreTimed from (steps ++ s ∷ []) s.moment
timed_more from [] s a is le = (omega (arith, is, le), omega arith)
timed_more from (x ∷ steps) s a is le = (is.0, timed_more x.moment steps s a is.1 le)

timed_still : (from : ℕ) (steps steps_now : List Step) (a b : ℕ) → steps_now ≡ steps → a ≤ b → AreTimed from steps a → AreTimed from steps_now b
timed_still from steps steps_now a b same le is = subst (λ (l : List Step). AreTimed from l b) (sym same) (timed_later from steps a b le is)

module _ {D : Type 0} (honest : D → Type 0) (moment : D → ℕ) (seen : D → ℕ → List ℕ) (past : D → ℕ → ℕ → Doubt) (who : Who) (now : ℕ) (ask : Ask) (old new : Desk D) where
  -- no call was made
  pub uncalled : new.recorder.disk ≡ old.recorder.disk → new.recorder.trace.steps.items ≡ old.recorder.trace.steps.items → new.recorder.under ≡ old.recorder.under
      → (old.recorder.dead ≡ None → new.recorder.dead ≡ None) → IsCalled honest moment seen past who now ask old new
  uncalled disk items under lives = record {
    counted = record {
      later = omega (arith, ap moment disk);
      no_more = omega (arith, ap moment disk);
      each = λ s more. absurd (longer old.recorder.trace.steps.items new.recorder.trace.steps.items s items more);
      timed = λ from is. timed_still from old.recorder.trace.steps.items new.recorder.trace.steps.items (moment old.recorder.disk) (moment new.recorder.disk) items (omega (arith, ap moment disk)) is;
    };
    under = inr (record { same = under; unbegun = λ alive dead some. let no : Some Disk ≡ None = sym dead ∙ lives alive in cc no });
    quiet = λ h none. changes_none moment seen past (Contains (freed_by old.table now ask)) old.recorder.disk new.recorder.disk disk;
  }

  -- the bytes of a body that was to be told were not to be had
  pub unread : (body : BodyId) → wanted (told_of old.table now (deed_of old.table ask)) ≡ Some body → moment old.recorder.disk ≤ moment new.recorder.disk → moment new.recorder.disk ≤ moment old.recorder.disk + 1
      → new.recorder.trace.steps.items ≡ old.recorder.trace.steps.items → new.recorder.under ≡ old.recorder.under → (honest new.recorder.disk → ChangesOnly moment seen past (λ _. ⊥) old.recorder.disk new.recorder.disk)
      → IsCalled honest moment seen past who now ask old new
  unread body told later most items under looks =
      let one : told_calls (told_of old.table now (deed_of old.table ask)) ≡ 1 = ap one_call told in
      record {
        counted = record {
          later = later;
          no_more = omega (arith, most, one);
          each = λ s more. absurd (longer old.recorder.trace.steps.items new.recorder.trace.steps.items s items more);
          timed = λ from is. timed_still from old.recorder.trace.steps.items new.recorder.trace.steps.items (moment old.recorder.disk) (moment new.recorder.disk) items later is;
        };
        under = inr (record { same = under; unbegun = λ alive dead some. absurd (some (told_quiet old.table now (deed_of old.table ask) body told)) });
        quiet = λ h none. changes_wider moment seen past (λ _. ⊥) (Contains (freed_by old.table now ask)) old.recorder.disk new.recorder.disk (λ f never. absurd never) (looks h);
      }

  -- the step was to be put on the disk, once there was room for it in r, and the bytes that it tells were read in q
  module _ (planned : Planned) (row : List ℕ) (plan : IsPlannedBy old.table who now (deed_of old.table ask) (effect_of old.table now (deed_of old.table ask)) planned row)
      (r q : Recorder D) (reserved : r.disk ≡ old.recorder.disk) (under_reserved : r.under ≡ old.recorder.under) (items_reserved : r.trace.steps.items ≡ old.recorder.trace.steps.items)
      (read : moment q.disk ≡ moment r.disk + told_calls planned.made.step.told) (under_read : q.under ≡ r.under) (items_read : q.trace.steps.items ≡ r.trace.steps.items)
      (bytes freed : List ℕ) (bytes_is : bytes ≡ bytes_in ask) (freed_is : freed ≡ planned.made.released.items) where
    abbrev found : Option Record
    found = record_of old.table now (deed_of old.table ask)

    told_is : planned.made.step.told ≡ told_of old.table now (deed_of old.table ask)
    told_is = ap (λ (s : Step). s.told) plan.step

    fresh_is : file_in (new_body planned.made.step.deed) ≡ fresh_by old.table ask
    fresh_is = ap (λ (s : Step). file_in (new_body s.deed)) plan.step

    all_freed : freed ≡ freed_by old.table now ask
    all_freed = freed_is ∙ plan.released

    under_old : q.under ≡ old.recorder.under
    under_old = under_read ∙ under_reserved

    items_old : q.trace.steps.items ≡ old.recorder.trace.steps.items
    items_old = items_read ∙ items_reserved

    calls_are : told_calls planned.made.step.told + row_calls row (file_in (new_body planned.made.step.deed)) freed ≡ calls_by old.table now ask
    calls_are =
        ap (λ (o : Option Told). told_calls o + row_calls row (file_in (new_body planned.made.step.deed)) freed) told_is
        ∙ ap (λ (o : Option ℕ). told_calls (told_of old.table now (deed_of old.table ask)) + row_calls row o freed) fresh_is
        ∙ ap (λ (l : List ℕ). told_calls (told_of old.table now (deed_of old.table ask)) + row_calls row (fresh_by old.table ask) l) all_freed
        ∙ ap (λ (n : ℕ). told_calls (told_of old.table now (deed_of old.table ask)) + n) (row_puts found row (fresh_by old.table ask) (freed_by old.table now ask) plan.row_is)

    -- the same of a step with a row, which reads no bytes
    none_told : row ≢ [] → moment q.disk ≡ moment old.recorder.disk
    none_told some =
        let none : told_calls planned.made.step.told ≡ 0 =
        none_told_calls planned.made.step.told (λ body is. row_not_there found row plan.row_is some (told_quiet old.table now (deed_of old.table ask) body (ap wanted (sym told_is) ∙ is))) in
        omega (arith, read, none, ap moment reserved)

    changes_quiet : (honest new.recorder.disk → ChangesOnly moment seen past (λ _. ⊥) r.disk q.disk) → (honest new.recorder.disk → row ≡ [] → ChangesOnly moment seen past (Contains freed) q.disk new.recorder.disk)
        → honest new.recorder.disk → found ≡ None → ChangesOnly moment seen past (Contains (freed_by old.table now ask)) old.recorder.disk new.recorder.disk
    changes_quiet looks quietly h none =
        subst (λ (d : D). ChangesOnly moment seen past (Contains (freed_by old.table now ask)) d new.recorder.disk) reserved
        (subst (λ (l : List ℕ). ChangesOnly moment seen past (Contains l) r.disk new.recorder.disk) all_freed
        (changes_behind moment seen past (Contains freed) r.disk q.disk new.recorder.disk (looks h) (quietly h (plan.row_is ∙ ap (λ (o : Option Record). row_of o) none))))

    -- it was stopped
    module _ (later : moment q.disk ≤ moment new.recorder.disk) (most : moment new.recorder.disk ≤ moment q.disk + row_calls row (file_in (new_body planned.made.step.deed)) freed) where
      at_most : moment new.recorder.disk ≤ moment old.recorder.disk + calls_by old.table now ask
      at_most = omega (arith, most, read, calls_are, ap moment reserved)

      not_before : moment old.recorder.disk ≤ moment new.recorder.disk
      not_before = omega (arith, later, read, ap moment reserved)

      pub failed : new.recorder.dead ≡ Some Disk → new.recorder.trace.steps.items ≡ q.trace.steps.items → (honest new.recorder.disk → ChangesOnly moment seen past (λ _. ⊥) r.disk q.disk)
          → (honest new.recorder.disk → row ≡ [] → ChangesOnly moment seen past (Contains freed) q.disk new.recorder.disk)
          → (row ≡ [] → new.recorder.under ≡ q.under)
          → (row ≢ [] → IsUnder honest moment seen past (file_in (new_body planned.made.step.deed)) bytes freed planned.made.step q.disk new.recorder.disk q.under new.recorder.under)
          → IsCalled honest moment seen past who now ask old new
      failed dead items looks quietly quiet begun = record {
        counted = record {
          later = not_before;
          no_more = at_most;
          each = λ s more. absurd (longer old.recorder.trace.steps.items new.recorder.trace.steps.items s (items ∙ items_old) more);
          timed = λ from is. timed_still from old.recorder.trace.steps.items new.recorder.trace.steps.items (moment old.recorder.disk) (moment new.recorder.disk) (items ∙ items_old) not_before is;
        };
        under = elim (is_row row) [
          | inl none ↦ inr (record { same = quiet none ∙ under_old; unbegun = λ alive died some. absurd (row_there found row plan.row_is some none) })
          | inr some ↦ elim (asked_under (begun some)) [
            | inl un ↦ inr (record {
              same = un.1 ∙ under_old;
              unbegun = λ alive died there. record {
                has_body = un.0.has_body;
                early = let early = un.0.early in let none = none_told some in omega (arith, early, none);
                changes = λ h. subst (λ (d : D). ChangesOnly moment seen past (IsFile (fresh_by old.table ask)) d new.recorder.disk) reserved (changes_behind moment seen past (IsFile (fresh_by old.table ask)) r.disk q.disk new.recorder.disk (looks h) (un.0.changes h));
              };
            })
            | inr be ↦ inl (record {
              has_record = row_not_there found row plan.row_is some;
              dead = dead;
              begun = record { late = let late = be.0.late in let none = none_told some in omega (arith, late, none); stored = be.0.stored };
              under = be.1 ∙ ap (λ (x : Step). Some x) (stamped_is old.table who now ask planned row (moment new.recorder.disk) plan);
            })
          ]
        ];
        quiet = changes_quiet looks quietly;
      }
        where
          asked_under : IsUnder honest moment seen past (file_in (new_body planned.made.step.deed)) bytes freed planned.made.step q.disk new.recorder.disk q.under new.recorder.under
              → IsUnder honest moment seen past (fresh_by old.table ask) (bytes_in ask) (freed_by old.table now ask) planned.made.step q.disk new.recorder.disk q.under new.recorder.under
          asked_under is =
              subst (λ (o : Option ℕ). IsUnder honest moment seen past o (bytes_in ask) (freed_by old.table now ask) planned.made.step q.disk new.recorder.disk q.under new.recorder.under) fresh_is
              (subst (λ (l : List ℕ). IsUnder honest moment seen past (file_in (new_body planned.made.step.deed)) l (freed_by old.table now ask) planned.made.step q.disk new.recorder.disk q.under new.recorder.under) bytes_is
              (subst (λ (l : List ℕ). IsUnder honest moment seen past (file_in (new_body planned.made.step.deed)) bytes l planned.made.step q.disk new.recorder.disk q.under new.recorder.under) all_freed is))

    -- it stands in the trace
    pub went : moment new.recorder.disk ≡ moment q.disk + row_calls row (file_in (new_body planned.made.step.deed)) freed
        → new.recorder.trace.steps.items ≡ q.trace.steps.items ++ stamped planned.made.step (moment new.recorder.disk) ∷ [] → new.recorder.under ≡ q.under → new.recorder.dead ≡ None
        → (honest new.recorder.disk → ChangesOnly moment seen past (λ _. ⊥) r.disk q.disk) → (honest new.recorder.disk → row ≡ [] → ChangesOnly moment seen past (Contains freed) q.disk new.recorder.disk)
        → IsCalled honest moment seen past who now ask old new
    went counted items under lives looks quietly =
        let exact : moment new.recorder.disk ≡ moment old.recorder.disk + calls_by old.table now ask = omega (arith, counted, read, calls_are, ap moment reserved) in
        let grown : new.recorder.trace.steps.items ≡ old.recorder.trace.steps.items ++ stamped planned.made.step (moment new.recorder.disk) ∷ [] =
        items ∙ ap (λ (l : List Step). l ++ stamped planned.made.step (moment new.recorder.disk) ∷ []) items_old in
        record {
          counted = record {
            later = omega (arith, exact);
            no_more = omega (arith, exact);
            each = λ s more. (ap (λ (x : Step). x.moment) (last_is old.recorder.trace.steps.items new.recorder.trace.steps.items s (stamped planned.made.step (moment new.recorder.disk)) more grown), exact);
            timed = λ from is. subst (λ (l : List Step). AreTimed from l (moment new.recorder.disk)) (sym grown)
                (timed_more from old.recorder.trace.steps.items (stamped planned.made.step (moment new.recorder.disk)) (moment old.recorder.disk) is (omega (arith, exact)));
          };
          under = inr (record { same = under ∙ under_old; unbegun = λ alive dead some. let no : Some Disk ≡ None = sym dead ∙ lives in cc no });
          quiet = changes_quiet looks quietly;
        }

-- the same of a desk whose memory for the end of its job was taken out before
pub spare_taken : {D : Type 0} (honest : D → Type 0) (moment : D → ℕ) (seen : D → ℕ → List ℕ) (past : D → ℕ → ℕ → Doubt) (who : Who) (now : ℕ) (ask : Ask) (old new : Desk D) (spare : Option Spare)
    → IsCalled honest moment seen past who now ask (record old { spare = spare }) new → IsCalled honest moment seen past who now ask old new
spare_taken honest moment seen past who now ask old new spare is = record {
  counted = record { later = is.counted.later; no_more = is.counted.no_more; each = is.counted.each; timed = is.counted.timed };
  under = elim is.under [
    | inl was ↦ inl (record { has_record = was.has_record; dead = was.dead; begun = was.begun; under = was.under })
    | inr was ↦ inr (record { same = was.same; unbegun = was.unbegun })
  ];
  quiet = is.quiet;
}

-- it was this who and this time
pub by_step : {D : Type 0} (honest : D → Type 0) (moment : D → ℕ) (seen : D → ℕ → List ℕ) (past : D → ℕ → ℕ → Doubt) (who who_now : Who) (now then : ℕ) (ask : Ask) (old new : Desk D)
    → who_now ≡ who → then ≡ now → IsCalled honest moment seen past who_now then ask old new → IsCalled honest moment seen past who now ask old new
by_step {D} honest moment seen past who who_now now then ask old new same_who same_now is =
    subst (λ (n : ℕ). IsCalled honest moment seen past who n ask old new) same_now (subst (λ (w : Who). IsCalled honest moment seen past w then ask old new) same_who is)

-- what the desk was asked, the same
pub asked_spare : {D : Type 0} (honest : D → Type 0) (moment : D → ℕ) (seen : D → ℕ → List ℕ) (faults : D → ℕ) (who who_now : Who) (now then : ℕ) (ask : Ask) (old new : Desk D) (spare : Option Spare) (result : Result Answer DeskFault)
    → who_now ≡ who → then ≡ now → old.recorder.dead ≡ None → IsAsked honest moment seen faults who_now then ask (record old { spare = spare }) new result → IsAsked honest moment seen faults who now ask old new result
asked_spare {D} honest moment seen faults who who_now now then ask old new spare result same_who same_now alive is =
    subst (λ (n : ℕ). IsAsked honest moment seen faults who n ask old new result) same_now
    (subst (λ (w : Who). IsAsked honest moment seen faults w then ask old new result) same_who
    (record { verdict = is.verdict; bytes = is.bytes; answer = is.answer; table = is.table; steps = is.steps; cause = caused is.verdict is.cause }))
  where
    lives : LivesOn (record old { spare = spare }) new → LivesOn old new
    lives l = record { alive = l.alive; dead = l.dead; under = l.under }

    uncalled_too : IsUncalled (record old { spare = spare }) new → IsUncalled old new
    uncalled_too u = record { lives = lives u.lives; disk = u.disk }

    caused : (v : Verdict) → HasCause honest moment seen faults who_now then ask v (record old { spare = spare }) new → HasCause honest moment seen faults who_now then ask v old new
    caused Went cause = (lives cause.0, λ none. uncalled_too (cause.1 none))
    caused (Stopped fault) cause = elim cause [
      | inl was ↦ let no : Some fault ≡ None = sym was.dead ∙ alive in cc no
      | inr died ↦ inr (record { alive = died.alive; dead = died.dead; ends = died.ends; cause = died.cause; under = died.under })
    ]
    caused Starved cause = uncalled_too cause

-- a desk that lives didn't die of a damaged body
pub alive_undamaged : (dead : Option DeskFault) (fault : DeskFault) → dead ≡ None → dead ≡ Some fault → IsUndamaged fault
alive_undamaged dead fault alive died = let no : Some fault ≡ None = sym died ∙ alive in cc no

-- nor one that died of another fault
pub died_undamaged : (dead : Option DeskFault) (e fault : DeskFault) → dead ≡ Some e → IsUndamaged e → dead ≡ Some fault → IsUndamaged fault
died_undamaged dead e fault died undamaged is = let same : Some e ≡ Some fault = sym died ∙ is in subst IsUndamaged (cc same) undamaged
