-- Which steps of a run closed a path, and with the bytes of which line.
use Rattle.std.proofs.Common.{◌≡◌, inl, inr, ℕ, List, [], ◌∷◌, ◌++◌, length, Bool, true, false, cond, if◌then◌else◌, Option, Some, None, Ok, Err, refl, sym, ◌∙◌, ap, subst, append_assoc, arith}
use Rattle.std.proofs.lemmas.List.Elements.{filter-append}
use Rattle.dav_machine.specs.Log.{event}
use Rattle.dav_machine.specs.Devices.{one_device, answers_before}
use Rattle.dav_machine.specs.Machine.{Run, run_with, prepend, give}
use Rattle.dav_text.specs.Path.{PathParts}
use Rattle.dav_store.specs.Body.{id_of}
use Rattle.dav_store.specs.declared.body_id.BodyId.{BodyId}
use Rattle.dav_recorder.specs.Survives.{with_under}
use Rattle.dav_deeds.specs.Answers.{is_idle, kind_told}
use Rattle.dav_deeds.specs.DeskTable.{DeskTable}
use Rattle.dav_deeds.specs.Effects.{told_of, mark_of, effect_unless}
use Rattle.dav_deeds.specs.Legal.{deed_of, body_unless, new_body}
use Rattle.dav_deeds.specs.Made.{answer_by}
use Rattle.dav_deeds.specs.Refusals.{store_refusal}
use Rattle.dav_deeds.specs.declared.answer.Answer.{Answer}
use Rattle.dav_deeds.specs.declared.answer.Answer.TheVariants as answers
use Rattle.dav_deeds.specs.declared.answer.Told.{Told as Said}
use Rattle.dav_deeds.specs.declared.answer.Told.TheVariants.{Closed}
use Rattle.dav_deeds.specs.declared.ask.Ask.{Ask}
use Rattle.dav_deeds.specs.declared.ask.Ask.TheVariants.{Store, Forget, Take, Settle, Stop}
use Rattle.dav_deeds.specs.declared.deed.Deed.{Deed}
use Rattle.dav_deeds.specs.declared.deed.Deed.TheVariants as deeds
use Rattle.dav_deeds.specs.declared.deed.Mark.{Mark}
use Rattle.dav_deeds.specs.declared.deed.Mark.TheVariants as marks
use Rattle.dav_deeds.specs.declared.deed.Step.{Step}
use Rattle.dav_deeds.specs.declared.fault.DeskFault.{DeskFault}
use Rattle.dav_deeds.specs.declared.fault.DeskFault.TheVariants as faults
use Rattle.dav_desk.specs.Ends.{IsEnd}
use Rattle.dav_desk.specs.Verdict.{Verdict, Went, Stopped, Starved, step_of, unless_idle, steps_by, table_by, with_bytes, result_by}
use Rattle.dav_desk.specs.Working.{AreGiven}
use Rattle.dav_upload.specs.Asking.{Met, Asked, Answered, table_met, answer_met}
use Rattle.dav_upload.specs.Sent.{step_asked}
use Rattle.dav_upload.proofs.Asks.{an_answer, a_fault}
use Rattle.dav_run.specs.declared.cause.Cause.{Cause}
use Rattle.dav_run.specs.declared.cause.Cause.TheVariants as causes
use Rattle.dav_run.specs.Asked.{still, GivenBy, AllGiven}
use Rattle.dav_run.specs.Causes.{cause_of}
use Rattle.dav_run.specs.Headline.{HasItsBytes, BytesAre}
use Rattle.dav_run.specs.Kept.{Told, asked_by, LineDoes, Walks, is_closing, closings, StoresAre, IsStore, NoStores}
use Rattle.dav_run.specs.Line.{IsPut}
use Rattle.dav_run.specs.Shell.{State, counted, faulted, starved, with_table, Lined, lined, closed_line, syntax_line, limit_line, crowded_line, memory_line, store_ask, forget_ask, OnCrowded, refused, stored, StoresOr, IsStillCrowded, tells as still_tells, memory as still_memory, StillCrowded, unforgotten, forgotten, makes_room, Lines, nothing, syntax, puts, memory}
use Rattle.dav_run.proofs.OneAsk.{AskRun, asked_once}
use Rattle.dav_run.proofs.Tracing.{AllStopped, IsUnderOf, TracesOne, went, stopped, starved as starves, Traces}

abbrev DeskRun : Type 0
DeskRun = Run (List Asked) (List Met) Lined

-- a step is one that closed a path, or isn't

closes_by : (test : Bool) (s : Step) (steps : List Step) → is_closing s.deed s.mark ≡ test → closings (s ∷ steps) ≡ cond test (s ∷ closings steps) (closings steps)
closes_by test s steps is = ap (λ (b : Bool). cond b (s ∷ closings steps) (closings steps)) is

closes_one : (s : Step) (steps : List Step) → is_closing s.deed s.mark ≡ true → closings (s ∷ steps) ≡ s ∷ closings steps
closes_one s steps is = closes_by true s steps is

closes_none : (s : Step) → is_closing s.deed s.mark ≡ false → closings (s ∷ []) ≡ []
closes_none s is = closes_by false s [] is

with_under_then : (steps rest : List Step) (under : Option Step) → with_under (steps ++ rest) under ≡ steps ++ with_under rest under
with_under_then steps rest None = refl
with_under_then steps rest (Some s) = append_assoc steps rest (s ∷ [])

closings_then : (steps rest : List Step) (under : Option Step) → closings (with_under (steps ++ rest) under) ≡ closings steps ++ closings (with_under rest under)
closings_then steps rest under =
    ap closings (with_under_then steps rest under) ∙ filter-append (λ (s : Step). is_closing s.deed s.mark) steps (with_under rest under)

closings_unless : (told : Option Said) (s : Step) → is_closing s.deed s.mark ≡ false → closings (unless_idle told s) ≡ []
closings_unless told s is = by (is_idle (kind_told told))
  where
    by : (b : Bool) → closings (if b then [] else s ∷ []) ≡ []
    by true = refl
    by false = closes_none s is

-- no step but that of a store closes a path
not_store : (t : DeskTable) (ask : Ask) (mark : Mark) → (IsStore ask → ⊥) → is_closing (deed_of t ask) mark ≡ false
not_store t (Store path bytes) mark none = absurd (none tt)
not_store t (Forget path locks below) mark none = refl
not_store t Take mark none = refl
not_store t (Settle job done) mark none = refl
not_store t Stop mark none = refl

-- What a store comes to: it is refused, or the bytes are in a new file.
pub data StoreStep (t : DeskTable) (now : ℕ) (path : PathParts) (bytes : List ℕ) (deed : Deed) : Type 0 where
  refuses : (fault : DeskFault) → store_refusal t.index path (length bytes) ≡ Some fault → is_closing deed (mark_of t now deed) ≡ false → ((more : List ℕ) → with_bytes (answer_by (mark_of t now deed) (told_of t now deed)) more ≡ Err fault) → StoreStep t now path bytes deed
  stores : store_refusal t.index path (length bytes) ≡ None → deed ≡ deeds.Store path (length bytes) (Some (id_of t.index.next_file bytes)) → mark_of t now deed ≡ marks.Body (id_of t.index.next_file bytes)
      → told_of t now deed ≡ Some (Closed (id_of t.index.next_file bytes)) → StoreStep t now path bytes deed

pub store_step : (t : DeskTable) (now : ℕ) (path : PathParts) (bytes : List ℕ) → StoreStep t now path bytes (deed_of t (Store path bytes))
store_step t now path bytes = by (store_refusal t.index path (length bytes)) refl
  where
    id : BodyId
    id = id_of t.index.next_file bytes

    by : (r : Option DeskFault) → store_refusal t.index path (length bytes) ≡ r → StoreStep t now path bytes (deeds.Store path (length bytes) (body_unless (store_refusal t.index path (length bytes)) id))
    by None is =
        subst (λ (o : Option DeskFault). StoreStep t now path bytes (deeds.Store path (length bytes) (body_unless o id))) (sym is)
        (let deed : Deed = deeds.Store path (length bytes) (Some id) in
        stores is refl (ap (λ (o : Option DeskFault). (effect_unless o t now deed).mark) is) (ap (λ (o : Option DeskFault). (effect_unless o t now deed).told) is))
    by (Some fault) is =
        subst (λ (o : Option DeskFault). StoreStep t now path bytes (deeds.Store path (length bytes) (body_unless o id))) (sym is)
        (let deed : Deed = deeds.Store path (length bytes) None in
        refuses fault is (ap (λ (o : Option DeskFault). is_closing deed (effect_unless o t now deed).mark) is) (λ more. ap (λ (o : Option DeskFault). with_bytes (answer_by (effect_unless o t now deed).mark (effect_unless o t now deed).told) more) is))

-- the step closed the path with the bytes, which are in its file
record IsBytesOf (bodies : ℕ → List ℕ) (path : PathParts) (bytes : List ℕ) (s : Step) : Type 0 where
  file : ℕ
  deed : s.deed ≡ deeds.Store path (length bytes) (Some (id_of file bytes))
  mark : s.mark ≡ marks.Body (id_of file bytes)
  given : bodies file ≡ bytes

is_bytes_closing : (bodies : ℕ → List ℕ) (path : PathParts) (bytes : List ℕ) (s : Step) → IsBytesOf bodies path bytes s → is_closing s.deed s.mark ≡ true
is_bytes_closing bodies path bytes s one =
    ap (λ (d : Deed). is_closing d s.mark) one.deed ∙ ap (λ (m : Mark). is_closing (deeds.Store path (length bytes) (Some (id_of one.file bytes))) m) one.mark

-- the steps that closed a path in these asks; or all of these were stopped
pub data Goes (bodies : ℕ → List ℕ) (t : DeskTable) (es : List Asked) (closed : List Step) : Type 0 where
  runs : (steps : List Step) (under : Option Step) → Traces t es steps under → AllGiven bodies t es → closed ≡ closings (with_under steps under) → Goes bodies t es closed
  over : (fault : DeskFault) → IsEnd fault → AllStopped fault es → closed ≡ [] → Goes bodies t es closed

-- one ask, and those behind it
data GoesOne (bodies : ℕ → List ℕ) (t : DeskTable) (e : Asked) (es : List Asked) (closed : List Step) : Type 0 where
  one_went : (moment : ℕ) (more : List Step) → e.answer.verdict ≡ Went → closed ≡ closings (steps_by Went t e.asked.who e.asked.now e.asked.ask moment) ++ more → AreGiven t bodies e.asked.ask
      → Goes bodies (table_by Went t e.asked.now e.asked.ask) es more → GoesOne bodies t e es closed
  one_ended : (fault : DeskFault) → e.answer.verdict ≡ Stopped fault → closed ≡ [] → Goes bodies t es [] → GoesOne bodies t e es closed
  one_begun : (fault : DeskFault) (s : Step) → e.answer.verdict ≡ Stopped fault → closed ≡ closings (s ∷ []) → still s ≡ step_asked t e → AreGiven t bodies e.asked.ask → Goes bodies t es [] → GoesOne bodies t e es closed
  one_starved : e.answer.verdict ≡ Starved → Goes bodies t es closed → GoesOne bodies t e es closed

goes_one : (bodies : ℕ → List ℕ) (t : DeskTable) (e : Asked) (es : List Asked) (closed : List Step) → Goes bodies t (e ∷ es) closed → GoesOne bodies t e es closed
goes_one bodies t e es closed (over fault ends all none) = one_ended fault all.0 none (over fault ends all.1 refl)
goes_one bodies t e es closed (runs steps under traces given is) = by traces
  where
    given_by : (v : Verdict) → e.answer.verdict ≡ v → GivenBy v (AreGiven t bodies e.asked.ask) (AllGiven bodies (table_by v t e.asked.now e.asked.ask) es)
    given_by v same = subst (λ (w : Verdict). GivenBy w (AreGiven t bodies e.asked.ask) (AllGiven bodies (table_by w t e.asked.now e.asked.ask) es)) same given

    begun : (fault : DeskFault) (o : Option Step) → e.answer.verdict ≡ Stopped fault → IsEnd fault → AllStopped fault es → closed ≡ closings (with_under [] o) → IsUnderOf t e o → GoesOne bodies t e es closed
    begun fault None same ends all closed_is of = one_ended fault same closed_is (over fault ends all refl)
    begun fault (Some s) same ends all closed_is of = one_begun fault s same closed_is of (given_by (Stopped fault) same) (over fault ends all refl)

    by : TracesOne t e es (λ u rest. Traces u es rest under) steps under → GoesOne bodies t e es closed
    by (went moment rest same steps_are later) =
        let all = given_by Went same in
        one_went moment (closings (with_under rest under)) same
        (is ∙ ap (λ (l : List Step). closings (with_under l under)) steps_are ∙ closings_then (steps_by Went t e.asked.who e.asked.now e.asked.ask moment) rest under)
        all.0 (runs rest under later all.1 refl)
    by (stopped fault same ends all none of) =
        begun fault under same ends all (is ∙ ap (λ (l : List Step). closings (with_under l under)) none) of
    by (starves same later) = one_starved same (runs steps under later (given_by Starved same) is)

-- the table after an ask that went so
as_met : (bodies : ℕ → List ℕ) (t : DeskTable) (e : Asked) (es : List Asked) (closed : List Step) (v : Verdict) → e.answer.verdict ≡ v → Goes bodies (table_by v t e.asked.now e.asked.ask) es closed
    → Goes bodies (table_met t e.asked e.answer) es closed
as_met bodies t e es closed v is one = subst (λ (w : Verdict). Goes bodies (table_by w t e.asked.now e.asked.ask) es closed) (sym is) one

as_closed : (bodies : ℕ → List ℕ) (t : DeskTable) (es : List Asked) (one two : List Step) → two ≡ one → Goes bodies t es one → Goes bodies t es two
as_closed bodies t es one two is goes = subst (Goes bodies t es) (sym is) goes

-- an ask that is no store closes nothing
goes_quiet : (bodies : ℕ → List ℕ) (t : DeskTable) (e : Asked) (es : List Asked) (closed : List Step) → (IsStore e.asked.ask → ⊥) → Goes bodies t (e ∷ es) closed → Goes bodies (table_met t e.asked e.answer) es closed
goes_quiet bodies t e es closed none goes = by (goes_one bodies t e es closed goes)
  where
    by : GoesOne bodies t e es closed → Goes bodies (table_met t e.asked e.answer) es closed
    by (one_went moment more is closed_is given later) =
        let s : Step = step_of t e.asked.who e.asked.now e.asked.ask moment in
        let nothing_closed = closings_unless (told_of t e.asked.now (deed_of t e.asked.ask)) s (not_store t e.asked.ask s.mark none) in
        as_met bodies t e es closed Went is
        (as_closed bodies (table_by Went t e.asked.now e.asked.ask) es more closed (closed_is ∙ ap (λ (l : List Step). l ++ more) nothing_closed) later)
    by (one_ended fault is closed_is later) = as_met bodies t e es closed (Stopped fault) is (as_closed bodies t es [] closed closed_is later)
    by (one_begun fault s is closed_is same given later) =
        let off : is_closing s.deed s.mark ≡ false = ap (λ (x : Step). is_closing x.deed s.mark) same ∙ not_store t e.asked.ask s.mark none in
        as_met bodies t e es closed (Stopped fault) is (as_closed bodies t es [] closed (closed_is ∙ closes_none s off) later)
    by (one_starved is later) = as_met bodies t e es closed Starved is later

-- What a store adds: nothing, where it wasn't answered; or the step that closed the path.
data Adds (bodies : ℕ → List ℕ) (path : PathParts) (bytes : List ℕ) (u : DeskTable) (es : List Asked) (answered : Answered) (closed : List Step) : Type 0 where
  plain : (fault : DeskFault) → answered ≡ Err fault → Goes bodies u es closed → Adds bodies path bytes u es answered closed
  closes : (s : Step) (more : List Step) (answer : Answer) → closed ≡ s ∷ more → IsBytesOf bodies path bytes s → answered ≡ Ok answer → Goes bodies u es more → Adds bodies path bytes u es answered closed
  begins : (s : Step) (fault : DeskFault) → closed ≡ s ∷ [] → IsBytesOf bodies path bytes s → answered ≡ Err fault → Goes bodies u es [] → Adds bodies path bytes u es answered closed

adds : (bodies : ℕ → List ℕ) (t : DeskTable) (path : PathParts) (bytes : List ℕ) (met : Met) (es : List Asked) (closed : List Step) → Goes bodies t (event (store_ask path bytes) met ∷ es) closed
    → Adds bodies path bytes (table_met t (store_ask path bytes) met) es (answer_met t (store_ask path bytes) met) closed
adds bodies t path bytes met es closed goes = by (goes_one bodies t e es closed goes)
  where
    e : Asked
    e = event (store_ask path bytes) met

    u : DeskTable
    u = table_met t (store_ask path bytes) met

    answered : Answered
    answered = answer_met t (store_ask path bytes) met

    as_answer : (v : Verdict) → met.verdict ≡ v → answered ≡ result_by v t 0 (Store path bytes) met.bytes
    as_answer v is = ap (λ (w : Verdict). result_by w t 0 (Store path bytes) met.bytes) is

    step_by : (moment : ℕ) → Step
    step_by moment = step_of t e.asked.who 0 (Store path bytes) moment

    went_by : (moment : ℕ) (more : List Step) → met.verdict ≡ Went → closed ≡ closings (steps_by Went t e.asked.who 0 (Store path bytes) moment) ++ more → AreGiven t bodies (Store path bytes)
        → Goes bodies u es more → StoreStep t 0 path bytes (deed_of t (Store path bytes)) → Adds bodies path bytes u es answered closed
    went_by moment more is closed_is given later (refuses fault why off answer) =
        plain fault (as_answer Went is ∙ answer met.bytes)
        (as_closed bodies u es more closed (closed_is ∙ ap (λ (l : List Step). l ++ more) (closings_unless (told_of t 0 (deed_of t (Store path bytes))) (step_by moment) off)) later)
    went_by moment more is closed_is given later (stores none deed mark told) =
        let s : Step = step_by moment in
        let has : IsBytesOf bodies path bytes s = record { file = t.index.next_file; deed = deed; mark = mark; given = given (id_of t.index.next_file bytes) (ap new_body deed) } in
        let alone : closings (steps_by Went t e.asked.who 0 (Store path bytes) moment) ≡ s ∷ [] =
        ap (λ (o : Option Said). closings (unless_idle o s)) told ∙ closes_one s [] (is_bytes_closing bodies path bytes s has) in
        closes s more (answers.Closed (id_of t.index.next_file bytes)) (closed_is ∙ ap (λ (l : List Step). l ++ more) alone) has
        (as_answer Went is ∙ ap (λ (o : Option Said). with_bytes (answer_by (mark_of t 0 (deed_of t (Store path bytes))) o) met.bytes) told) later

    begun_by : (fault : DeskFault) (s : Step) → met.verdict ≡ Stopped fault → closed ≡ closings (s ∷ []) → still s ≡ step_asked t e → AreGiven t bodies (Store path bytes)
        → Goes bodies u es [] → StoreStep t 0 path bytes (deed_of t (Store path bytes)) → Adds bodies path bytes u es answered closed
    begun_by fault s is closed_is same given later (refuses other why off answer) =
        let off_here : is_closing s.deed s.mark ≡ false = ap (λ (x : Step). is_closing x.deed x.mark) same ∙ off in
        plain fault (as_answer (Stopped fault) is) (as_closed bodies u es [] closed (closed_is ∙ closes_none s off_here) later)
    begun_by fault s is closed_is same given later (stores none deed mark told) =
        let has : IsBytesOf bodies path bytes s =
        record { file = t.index.next_file; deed = ap (λ (x : Step). x.deed) same ∙ deed; mark = ap (λ (x : Step). x.mark) same ∙ mark; given = given (id_of t.index.next_file bytes) (ap new_body deed) } in
        begins s fault (closed_is ∙ closes_one s [] (is_bytes_closing bodies path bytes s has)) has (as_answer (Stopped fault) is) later

    by : GoesOne bodies t e es closed → Adds bodies path bytes u es answered closed
    by (one_went moment more is closed_is given later) = went_by moment more is closed_is given (as_met bodies t e es more Went is later) (store_step t 0 path bytes)
    by (one_ended fault is closed_is later) =
        plain fault (as_answer (Stopped fault) is) (as_closed bodies u es [] closed closed_is (as_met bodies t e es [] (Stopped fault) is later))
    by (one_begun fault s is closed_is same given later) =
        begun_by fault s is closed_is same given (as_met bodies t e es [] (Stopped fault) is later) (store_step t 0 path bytes)
    by (one_starved is later) = plain faults.Memory (as_answer Starved is) (as_met bodies t e es closed Starved is later)

-- what a line prints that isn't answered `closed`

abbrev pub first_byte : List ℕ → ℕ
first_byte [] = 0
first_byte (b ∷ bytes) = b

abbrev IsOther : List ℕ → Type 0
IsOther printed = (path : PathParts) (len : ℕ) → printed ≡ closed_line path len → ⊥

begins_otherwise : (n : ℕ) → n ≡ 102 → n ≡ 99 → ⊥
begins_otherwise n one other = absurd (omega arith)

begins_none : (n : ℕ) → n ≡ 0 → n ≡ 99 → ⊥
begins_none n one other = absurd (omega arith)

other_line : (printed : List ℕ) → first_byte printed ≡ 102 → IsOther printed
other_line printed first path len is = begins_otherwise (first_byte printed) first (ap first_byte is)

other_none : IsOther []
other_none path len is = begins_none (first_byte []) refl (ap first_byte is)

-- What a line of a put comes to, and what is left of the steps that closed a path: the line isn't answered `closed`, or the first of them is its own.
data Puts (bodies : ℕ → List ℕ) (path : PathParts) (bytes : List ℕ) (rest : List Asked) (l : Lined) (closed : List Step) : Type 0 where
  unclosed : IsOther l.printed → Goes bodies l.now.table rest closed → Puts bodies path bytes rest l closed
  own : (s : Step) (more : List Step) → closed ≡ s ∷ more → IsBytesOf bodies path bytes s → Goes bodies l.now.table rest more → Puts bodies path bytes rest l closed

-- the step was begun, and what follows closed nothing
puts_begun : (bodies : ℕ → List ℕ) (path : PathParts) (bytes : List ℕ) (rest : List Asked) (l : Lined) (s : Step) (closed : List Step) → closed ≡ s ∷ [] → IsBytesOf bodies path bytes s → Puts bodies path bytes rest l []
    → Puts bodies path bytes rest l closed
puts_begun bodies path bytes rest l s closed is has (unclosed printed goes) = own s [] is has goes
puts_begun bodies path bytes rest l s closed is has (own later more split has_later goes) = absurd (let h : [] ≡ later ∷ more = split in cc)

module _ (bodies : ℕ → List ℕ) (path : PathParts) (bytes : List ℕ) (rest : List Asked) where
  -- the line prints this, and asks nothing more
  gives_other : (l : Lined) (answers : List Met) (run : DeskRun) (closed : List Step) → give one_device l answers run → IsOther l.printed → Goes bodies l.now.table (run.made ++ rest) closed → Puts bodies path bytes rest run.result closed
  gives_other l answers run closed does printed goes =
      subst (λ (r : DeskRun). Puts bodies path bytes rest r.result closed) (sym does)
      (unclosed printed (subst (λ (r : DeskRun). Goes bodies l.now.table (r.made ++ rest) closed) does goes))

  gives_own : (l : Lined) (answers : List Met) (run : DeskRun) (s : Step) (more closed : List Step) → give one_device l answers run → closed ≡ s ∷ more → IsBytesOf bodies path bytes s → Goes bodies l.now.table (run.made ++ rest) more
      → Puts bodies path bytes rest run.result closed
  gives_own l answers run s more closed does is has goes =
      subst (λ (r : DeskRun). Puts bodies path bytes rest r.result closed) (sym does)
      (own s more is has (subst (λ (r : DeskRun). Goes bodies l.now.table (r.made ++ rest) more) does goes))

  -- what is done where no more paths can be known
  abbrev PutsOn : OnCrowded → Type 0
  PutsOn crowded = (oldest : PathParts) (st : State) (answers : List Met) (run : DeskRun) (closed : List Step) → crowded oldest st answers run → Goes bodies st.table (run.made ++ rest) closed → Puts bodies path bytes rest run.result closed

  still_puts : PutsOn StillCrowded
  still_puts oldest st answers run closed d goes = by d.is
    where
      line_is : (l : Lined) → run.result ≡ l → IsOther l.printed → l.now.table ≡ st.table → Puts bodies path bytes rest run.result closed
      line_is l is printed table =
          gives_other l answers run closed (subst (λ (x : Lined). give one_device x answers run) is d.gives) printed (subst (λ (t : DeskTable). Goes bodies t (run.made ++ rest) closed) (sym table) goes)

      by : IsStillCrowded oldest st run.result → Puts bodies path bytes rest run.result closed
      by (still_tells is) = line_is (lined (crowded_line oldest) (faulted st) None) is (other_line (crowded_line oldest) refl) refl
      by (still_memory is) = line_is (lined memory_line (starved st) None) is (other_line memory_line refl) refl

  refused_puts : (crowded : OnCrowded) → PutsOn crowded → (cause : Cause) (st : State) (answers : List Met) (run : DeskRun) (closed : List Step) → refused crowded cause st answers run → Goes bodies st.table (run.made ++ rest) closed
      → Puts bodies path bytes rest run.result closed
  refused_puts crowded on (causes.Crowded oldest) st answers run closed does goes = on oldest st answers run closed does goes
  refused_puts crowded on (causes.Limit which) st answers run closed does goes = gives_other (lined (limit_line which) (faulted st) None) answers run closed does (other_line (limit_line which) refl) goes
  refused_puts crowded on causes.Memory st answers run closed does goes = gives_other (lined memory_line (starved st) None) answers run closed does (other_line memory_line refl) goes
  refused_puts crowded on causes.Disk st answers run closed does goes = gives_other (lined [] st (Some faults.Disk)) answers run closed does other_none goes
  refused_puts crowded on (causes.Cache fault) st answers run closed does goes = gives_other (lined [] st (Some fault)) answers run closed does other_none goes

  -- by what the store was answered
  stored_puts : (crowded : OnCrowded) → PutsOn crowded → (answered : Answered) (st : State) (answers : List Met) (run : DeskRun) (closed : List Step) → stored path bytes crowded answered st answers run
      → Adds bodies path bytes st.table (run.made ++ rest) answered closed → Puts bodies path bytes rest run.result closed
  stored_puts crowded on (Ok answer) st answers run closed does (plain fault is goes) = absurd (let h : an_answer answer ≡ a_fault fault = is in cc)
  stored_puts crowded on (Ok answer) st answers run closed does (closes s more told is has so goes) = gives_own (lined (closed_line path (length bytes)) st None) answers run s more closed does is has goes
  stored_puts crowded on (Ok answer) st answers run closed does (begins s fault is has told goes) = absurd (let h : an_answer answer ≡ a_fault fault = told in cc)
  stored_puts crowded on (Err fault) st answers run closed does (plain other is goes) = refused_puts crowded on (cause_of fault) st answers run closed does goes
  stored_puts crowded on (Err fault) st answers run closed does (closes s more answer is has told goes) = absurd (let h : a_fault fault ≡ an_answer answer = told in cc)
  stored_puts crowded on (Err fault) st answers run closed does (begins s other is has told goes) =
      puts_begun bodies path bytes rest run.result s closed is has (refused_puts crowded on (cause_of fault) st answers run [] does goes)

  stores_puts : (crowded : OnCrowded) → PutsOn crowded → (st : State) (answers : List Met) (run : DeskRun) (closed : List Step) → StoresOr path bytes crowded st answers run → Goes bodies st.table (run.made ++ rest) closed
      → Puts bodies path bytes rest run.result closed
  stores_puts crowded on st answers run closed d goes =
      let one = asked_once st.table (store_ask path bytes) answers d.before d.begins in
      let u : DeskTable = table_met st.table (store_ask path bytes) one.met in
      let whole : run ≡ prepend one_device (event (store_ask path bytes) one.met ∷ []) d.after = d.whole ∙ ap (λ (r : AskRun). prepend one_device r.made d.after) one.is in
      let after : stored path bytes crowded (answer_met st.table (store_ask path bytes) one.met) (with_table st u) one.more d.after =
      subst (λ (r : AskRun). stored path bytes crowded r.result.0 (with_table st r.result.1) r.left d.after) one.is d.goes_on in
      subst (λ (r : DeskRun). Puts bodies path bytes rest r.result closed) (sym whole)
      (stored_puts crowded on (answer_met st.table (store_ask path bytes) one.met) (with_table st u) one.more d.after closed after
      (adds bodies st.table path bytes one.met (d.after.made ++ rest) closed (subst (λ (r : DeskRun). Goes bodies st.table (r.made ++ rest) closed) whole goes)))

  unforgotten_puts : (cause : Cause) (st : State) (answers : List Met) (run : DeskRun) (closed : List Step) → unforgotten cause st answers run → Goes bodies st.table (run.made ++ rest) closed → Puts bodies path bytes rest run.result closed
  unforgotten_puts (causes.Crowded oldest) st answers run closed does goes = gives_other (lined [] st (Some (faults.Crowded oldest))) answers run closed does other_none goes
  unforgotten_puts (causes.Limit which) st answers run closed does goes = gives_other (lined [] st (Some (faults.Limit which))) answers run closed does other_none goes
  unforgotten_puts causes.Memory st answers run closed does goes = gives_other (lined memory_line (starved st) None) answers run closed does (other_line memory_line refl) goes
  unforgotten_puts causes.Disk st answers run closed does goes = gives_other (lined [] st (Some faults.Disk)) answers run closed does other_none goes
  unforgotten_puts (causes.Cache fault) st answers run closed does goes = gives_other (lined [] st (Some fault)) answers run closed does other_none goes

  forgotten_puts : (answered : Answered) (st : State) (answers : List Met) (run : DeskRun) (closed : List Step) → forgotten path bytes answered st answers run → Goes bodies st.table (run.made ++ rest) closed → Puts bodies path bytes rest run.result closed
  forgotten_puts (Ok answer) st answers run closed does goes = stores_puts StillCrowded still_puts st answers run closed does goes
  forgotten_puts (Err fault) st answers run closed does goes = unforgotten_puts (cause_of fault) st answers run closed does goes

  room_puts : PutsOn (makes_room path bytes)
  room_puts oldest st answers run closed d goes =
      let one = asked_once st.table (forget_ask oldest) answers d.before d.begins in
      let u : DeskTable = table_met st.table (forget_ask oldest) one.met in
      let whole : run ≡ prepend one_device (event (forget_ask oldest) one.met ∷ []) d.after = d.whole ∙ ap (λ (r : AskRun). prepend one_device r.made d.after) one.is in
      let after : forgotten path bytes (answer_met st.table (forget_ask oldest) one.met) (with_table st u) one.more d.after =
      subst (λ (r : AskRun). forgotten path bytes r.result.0 (with_table st r.result.1) r.left d.after) one.is d.goes_on in
      subst (λ (r : DeskRun). Puts bodies path bytes rest r.result closed) (sym whole)
      (forgotten_puts (answer_met st.table (forget_ask oldest) one.met) (with_table st u) one.more d.after closed after
      (goes_quiet bodies st.table (event (forget_ask oldest) one.met) (d.after.made ++ rest) closed (λ none. none) (subst (λ (r : DeskRun). Goes bodies st.table (r.made ++ rest) closed) whole goes)))

-- what a line comes to, and what is left of the steps that closed a path
data LineGoes (bodies : ℕ → List ℕ) (before : State) (line : List ℕ) (rest : List Asked) (l : Lined) (closed : List Step) : Type 0 where
  line_other : IsOther l.printed → Goes bodies l.now.table rest closed → LineGoes bodies before line rest l closed
  line_own : (path : PathParts) (bytes : List ℕ) (s : Step) (more : List Step) → IsPut before.current line path bytes → closed ≡ s ∷ more → IsBytesOf bodies path bytes s → Goes bodies l.now.table rest more
      → LineGoes bodies before line rest l closed

line_puts : (bodies : ℕ → List ℕ) (before : State) (line : List ℕ) (rest : List Asked) (l : Lined) (closed : List Step) (path : PathParts) (bytes : List ℕ) → IsPut before.current line path bytes → Puts bodies path bytes rest l closed
    → LineGoes bodies before line rest l closed
line_puts bodies before line rest l closed path bytes put (unclosed printed goes) = line_other printed goes
line_puts bodies before line rest l closed path bytes put (own s more is has goes) = line_own path bytes s more put is has goes

line_gives : (bodies : ℕ → List ℕ) (before : State) (line : List ℕ) (rest : List Asked) (l : Lined) (answers : List Met) (run : DeskRun) (closed : List Step) → give one_device l answers run → IsOther l.printed
    → Goes bodies l.now.table (run.made ++ rest) closed → LineGoes bodies before line rest run.result closed
line_gives bodies before line rest l answers run closed does printed goes =
    subst (λ (r : DeskRun). LineGoes bodies before line rest r.result closed) (sym does)
    (line_other printed (subst (λ (r : DeskRun). Goes bodies l.now.table (r.made ++ rest) closed) does goes))

line_goes : (bodies : ℕ → List ℕ) (before : State) (line : List ℕ) (rest : List Asked) (answers : List Met) (run : DeskRun) (closed : List Step) → Lines before line answers run → Goes bodies before.table (run.made ++ rest) closed
    → LineGoes bodies before line rest run.result closed
line_goes bodies before line rest answers run closed (nothing empty does) goes = line_gives bodies before line rest (lined [] before None) answers run closed does other_none goes
line_goes bodies before line rest answers run closed (syntax some none does) goes =
    line_gives bodies before line rest (lined syntax_line (faulted before) None) answers run closed does (other_line syntax_line refl) goes
line_goes bodies before line rest answers run closed (puts path bytes put does) goes =
    line_puts bodies before line rest run.result closed path bytes put (stores_puts bodies path bytes rest (makes_room path bytes) (room_puts bodies path bytes rest) before answers run closed does goes)
line_goes bodies before line rest answers run closed (memory does) goes =
    line_gives bodies before line rest (lined memory_line (starved before) None) answers run closed does (other_line memory_line refl) goes

-- behind the lines nothing is closed
none_left : (bodies : ℕ → List ℕ) (t : DeskTable) (es : List Asked) (closed : List Step) → NoStores es → Goes bodies t es closed → closed ≡ []
none_left bodies t [] closed none (runs steps under traces given is) =
    is ∙ ap (λ (l : List Step). closings (with_under l under)) traces.0 ∙ ap (λ (o : Option Step). closings (with_under [] o)) traces.1
none_left bodies t [] closed none (over fault ends all is) = is
none_left bodies t (e ∷ es) closed none goes = none_left bodies (table_met t e.asked e.answer) es closed none.1 (goes_quiet bodies t e es closed none.0 goes)

bytes_one : (bodies : ℕ → List ℕ) (before : State) (told : Told) (l : Lined) (path : PathParts) (bytes : List ℕ) (s : Step) → LineDoes before told l → IsPut before.current told.line path bytes → IsBytesOf bodies path bytes s → HasItsBytes bodies told s
bytes_one bodies before told l path bytes s line put has = record {
  is = record {
    path = path;
    bytes = bytes;
    put = subst (λ (c : PathParts). IsPut c told.line path bytes) (sym line.at) put;
    file = has.file;
    deed = has.deed;
    mark = has.mark;
  };
  bytes = has.given;
}

bytes_next : (bodies : ℕ → List ℕ) (told : Told) (more : List Told) (before : State) (behind : List Asked) (l : Lined) (closed : List Step) → LineDoes before told l
    → ((later : List Step) → Goes bodies l.now.table (asked_by more ++ behind) later → BytesAre bodies more later) → Goes bodies before.table (asked_by (told ∷ more) ++ behind) closed → BytesAre bodies (told ∷ more) closed
bytes_next bodies told more before behind l closed line rest goes =
    by (line_goes bodies before told.line (asked_by more ++ behind) (answers_before told.asked []) (run_with l told.asked []) closed line.does
    (subst (λ (es : List Asked). Goes bodies before.table es closed) (append_assoc told.asked (asked_by more) behind) goes))
  where
    by : LineGoes bodies before told.line (asked_by more ++ behind) l closed → BytesAre bodies (told ∷ more) closed
    by (line_other printed later) = inl (λ path bytes close. printed path (length bytes) (sym line.printed ∙ close.printed), rest closed later)
    by (line_own path bytes s later put is has goes_later) = inr (s, later, is, bytes_one bodies before told l path bytes s line put has, rest later goes_later)

-- the steps that closed a path are those of the lines
pub bytes_are : (bodies : ℕ → List ℕ) (told : List Told) (before last : State) (behind : List Asked) (closed : List Step) → Walks before told last → NoStores behind → Goes bodies before.table (asked_by told ++ behind) closed
    → BytesAre bodies told closed
bytes_are bodies [] before last behind closed walks none goes = none_left bodies before.table behind closed none goes
bytes_are bodies (told ∷ more) before last behind closed (l, line, inl (ended, is)) none goes =
    bytes_next bodies told more before behind l closed line (λ later goes_later. bytes_are bodies more l.now last behind later (subst (λ (m : List Told). Walks l.now m last) (sym ended) is) none goes_later) goes
bytes_are bodies (told ∷ more) before last behind closed (l, line, inr (on, walks)) none goes =
    bytes_next bodies told more before behind l closed line (λ later goes_later. bytes_are bodies more (counted l.now) last behind later walks none goes_later) goes

pub stores_of : (bodies : ℕ → List ℕ) (told : List Told) (steps : List Step) → BytesAre bodies told steps → StoresAre told steps
stores_of bodies [] steps are = are
stores_of bodies (told ∷ more) steps (inl (none, are)) = inl (none, stores_of bodies more steps are)
stores_of bodies (told ∷ more) steps (inr (s, rest, is, has, are)) = inr (s, rest, is, has.is, stores_of bodies more rest are)
