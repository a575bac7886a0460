-- What the job in flight was taken of.
use Rattle.std.proofs.Common.{◌≡◌, ◌⊎◌, inl, inr, ℕ, Bool, true, false, ◌&&◌, List, [], ◌∷◌, ◌++◌, Option, Some, None, Contains, fold, refl, sym, ◌∙◌, ap, subst, arith, append_assoc, append-nil, if◌then◌else◌}
use Rattle.std.proofs.lemmas.Bool.{false≢true}
use Rattle.std.proofs.lemmas.List.Elements.{Contains-append_right}
use Rattle.dav_text.specs.Path.{PathParts}
use Rattle.dav_store.specs.declared.body_id.BodyId.{BodyId}
use Rattle.dav_index.specs.Item.{Item}
use Rattle.dav_index.specs.Tables.{waiting_body}
use Rattle.dav_index.specs.Queries.{is_due, is_sooner, is_next, sooner, next_due}
use Rattle.dav_index.specs.declared.entry.Waiting.{Waiting}
use Rattle.dav_deeds.specs.declared.answer.Flight.{Flight}
use Rattle.dav_deeds.specs.declared.answer.Told.{Told}
use Rattle.dav_deeds.specs.declared.answer.Told.TheVariants as answers
use Rattle.dav_deeds.specs.declared.ask.Done.{Done}
use Rattle.dav_deeds.specs.declared.deed.Deed.{Deed}
use Rattle.dav_deeds.specs.declared.deed.Deed.TheVariants.{Store, Forget, Take, Settle, Stop}
use Rattle.dav_deeds.specs.declared.deed.Step.{Step}
use Rattle.dav_deeds.specs.declared.fault.DeskFault.{DeskFault}
use Rattle.dav_deeds.specs.DeskTable.{DeskTable}
use Rattle.dav_deeds.specs.Refusals.{refusal_of}
use Rattle.dav_deeds.specs.Effects.{store_effect, take_effect, flight_with, flight_of, next_job, taken_beside, taken, settle_effect, effect_done, effect_unless, after, told_of}
use Rattle.dav_deeds.specs.Fate.{IsOfTable, IsTaken}
use Rattle.dav_deeds.specs.Legal.{table_after, Legal}

-- the best one so far is of the list, and its bytes may be sent
pub record IsPick (now : ℕ) (stopping : Bool) (items : List Item) (x : Item) : Type 0 where
  pub among : Contains items x
  pub due : is_due now stopping x.entry.queued ≡ true

abbrev IsPickOrNone : ℕ → Bool → List Item → Option Item → Type 0
IsPickOrNone now stopping items None = Unit {0}
IsPickOrNone now stopping items (Some x) = IsPick now stopping items x

and_left : (a b : Bool) → (a && b) ≡ true → a ≡ true
and_left true b h = refl
and_left false b h = absurd (false≢true h)

next_is_due : (now : ℕ) (stopping : Bool) (best : Option Item) (x : Item) → is_next now stopping best x ≡ true → is_due now stopping x.entry.queued ≡ true
next_is_due now stopping None x h = h
next_is_due now stopping (Some best) x h = and_left (is_due now stopping x.entry.queued) (is_sooner x best) h

pick_from : (now : ℕ) (stopping : Bool) (front rest : List Item) (best : Option Item) → IsPickOrNone now stopping (front ++ rest) best → IsPickOrNone now stopping (front ++ rest) (fold (sooner now stopping) best rest)
pick_from now stopping front [] best so_far = so_far
pick_from now stopping front (x ∷ rest) best so_far =
    let P : List Item → Type 0 = λ (l : List Item). IsPickOrNone now stopping l (fold (sooner now stopping) (sooner now stopping best x) rest) in
    subst P (append_assoc front (x ∷ []) rest)
    (pick_from now stopping (front ++ x ∷ []) rest (sooner now stopping best x)
    (subst (λ (l : List Item). IsPickOrNone now stopping l (sooner now stopping best x)) (sym (append_assoc front (x ∷ []) rest)) (by (is_next now stopping best x) refl)))
  where
    by : (b : Bool) → is_next now stopping best x ≡ b → IsPickOrNone now stopping (front ++ x ∷ rest) (if b then Some x else best)
    by true is = record { among = Contains-append_right front (x ∷ rest) x (0, omega arith, refl); due = next_is_due now stopping best x is }
    by false is = so_far

pub next_is_pick : (now : ℕ) (stopping : Bool) (items : List Item) (x : Item) → next_due now stopping items ≡ Some x → IsPick now stopping items x
next_is_pick now stopping items x is = subst (IsPickOrNone now stopping items) is (pick_from now stopping [] items None tt)

due_body : (now : ℕ) (stopping : Bool) (q : Option Waiting) (b : Option BodyId) → is_due now stopping q ≡ true → waiting_body q b ≡ b
due_body now stopping None b h = absurd (false≢true h)
due_body now stopping (Some w) b h = refl

-- a job that is made of an entry
made_of : (number : ℕ) (x : Item) (b : Option BodyId) (flight : Flight) → flight_with number x b ≡ Some flight
    → (x.path ≡ flight.path) × (b ≡ Some flight.body) × (x.entry.seen ≡ flight.seen) × (number ≡ flight.number)
made_of number x None flight is = cc
made_of number x (Some b) flight is =
    let new : Flight = record { number = number; path = x.path; body = b; seen = x.entry.seen } in
    let same : new ≡ flight = cc in
    (ap (λ (f : Flight). f.path) same, ap (λ (f : Flight). Some f.body) same, ap (λ (f : Flight). f.seen) same, ap (λ (f : Flight). f.number) same)

pub taken_of : (t : DeskTable) (now : ℕ) (flight : Flight) → taken t now ≡ Some flight → (t.job ≡ None) × IsOfTable flight t.index
taken_of t now flight is = by t.job refl is
  where
    of : (next : Option Item) → next_due now t.stopping t.index.entries ≡ next → flight_of (next_job t) next ≡ Some flight → IsOfTable flight t.index
    of None next is = cc
    of (Some x) next is =
        let made : (x.path ≡ flight.path) × (x.entry.body ≡ Some flight.body) × (x.entry.seen ≡ flight.seen) × (next_job t ≡ flight.number) = made_of (next_job t) x x.entry.body flight is in
        let pick : IsPick now t.stopping t.index.entries x = next_is_pick now t.stopping t.index.entries x next in
        record {
          item = x;
          among = pick.among;
          path_is = made.0;
          body_is = due_body now t.stopping x.entry.queued x.entry.body pick.due ∙ made.1;
          seen_is = made.2;
        }

    by : (job : Option Flight) → t.job ≡ job → taken_beside t now job ≡ Some flight → (t.job ≡ None) × IsOfTable flight t.index
    by None none is = (none, of (next_due now t.stopping t.index.entries) refl is)
    by (Some j) flies is = cc

-- a job that is in flight after a deed was so before, or was taken by it
pub record IsTakenNow (t : DeskTable) (deed : Deed) (told : Option Told) (flight : Flight) : Type 0 where
  pub deed_is : deed ≡ Take
  pub told_is : told ≡ Some (answers.Took flight)
  pub of_table : IsOfTable flight t.index

pub store_job : (t : DeskTable) (p : PathParts) (now : ℕ) (body : Option BodyId) → (store_effect t p now body).job ≡ t.job
store_job t p now None = refl
store_job t p now (Some b) = refl

pub table_push : (t : DeskTable) (steps : List Step) (s : Step) → table_after t (steps ++ s ∷ []) ≡ after (table_after t steps) s.now s.deed
table_push t [] s = refl
table_push t (x ∷ steps) s = table_push (after t x.now x.deed) steps s
