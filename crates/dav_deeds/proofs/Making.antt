-- What the code of each step comes to.
use Rattle.std.proofs.Common.{◌≡◌, ◌≢◌, ℕ, ◌+◌, ◌<◌, Bool, true, false, not, ◌||◌, List, [], ◌∷◌, ◌++◌, length, take, get_or, Option, Some, None, nat_eq, refl, sym, ◌∙◌, ap, subst, append_assoc, if◌then◌else◌}
use Rattle.std.specs.List.{list_any}
use Rattle.std.specs.Option.{option_to_list}
use Rattle.std.proofs.lemmas.Bool.{false≢true, eqb-true, eq-eqb}
use Rattle.std.proofs.lemmas.List.Elements.{filter_more, filter-append}
use Rattle.dav_store.specs.Body.{id_of}
use Rattle.dav_text.specs.Path.{PathParts}
use Rattle.dav_store.specs.declared.body_id.BodyId.{BodyId}
use Rattle.dav_index.specs.Item.{Item}
use Rattle.dav_index.specs.Items.{goes_with}
use Rattle.dav_index.specs.Tables.{replay, with_waiting}
use Rattle.dav_index.specs.declared.entry.Waiting.{Waiting}
use Rattle.dav_index.specs.declared.record.Record.{Record}
use Rattle.dav_index.specs.declared.record.Record.TheVariants.{Forgot}
use Rattle.dav_index.specs.declared.table.Table.{Table}
use Rattle.dav_deeds.specs.declared.desk_table.DeskTable.TheInside.{Inside}
use Rattle.dav_deeds.specs.DeskTable.{DeskTable}
use Rattle.dav_deeds.specs.DeskView.{table_of}
use Rattle.dav_deeds.specs.Sound.{IsSound}
use Rattle.dav_deeds.proofs.AllRows.{after_sound}
use Rattle.dav_deeds.proofs.Sparing.{settled_effect}
use Rattle.dav_deeds.specs.Effects.{Effect, Wait, quiet, file_of, files_of, is_flying, grounded, going, forgot_record, waiting_at, taken, take_effect, fated_of, wait_of_fate, settle_by_fate, settle_effect, effect_unless, effect_of, waited, recorded, changed, after}
use Rattle.dav_deeds.specs.Change.{CanNote, Notes, IsWaiting, job_with, jobs_with, IsChange, CanChange, IsPlannedBy, IsPlan}
use Rattle.dav_deeds.specs.declared.answer.Told.TheVariants.{Idle}
use Rattle.dav_deeds.specs.declared.plan.Change.{Change}
use Rattle.dav_deeds.specs.declared.plan.Planned.{Planned}
use Rattle.dav_deeds.specs.declared.plan.Noting.{Noting}
use Rattle.dav_deeds.specs.declared.plan.Waits.{Waits}
use Rattle.dav_deeds.specs.Refusals.{store_refusal, queued_with, queued_fault, job_fault, refusal_of}
use Rattle.dav_deeds.specs.Legal.{body_unless, deed_of}
use Rattle.dav_deeds.specs.Made.{IsMadeBy, wait_by, file_unless, file_going}
use Rattle.dav_deeds.specs.declared.answer.Fated.{Fated}
use Rattle.dav_deeds.specs.declared.answer.Fated.TheVariants as fates
use Rattle.dav_deeds.specs.declared.answer.Flight.{Flight}
use Rattle.dav_deeds.specs.declared.ask.Ask.{Ask}
use Rattle.dav_deeds.specs.declared.ask.Ask.TheVariants as asks
use Rattle.dav_deeds.specs.declared.ask.Done.{Done}
use Rattle.dav_deeds.specs.declared.ask.Who.{Who}
use Rattle.dav_deeds.specs.declared.deed.Deed.{Deed}
use Rattle.dav_deeds.specs.declared.deed.Deed.TheVariants as deeds
use Rattle.dav_deeds.specs.declared.deed.Mark.TheVariants as marks
use Rattle.dav_deeds.specs.declared.fault.DeskFault.{DeskFault}
use Rattle.dav_deeds.specs.declared.fault.DeskFault.TheVariants.{NoSuchJob}
use Rattle.dav_deeds.proofs.Paths.{by_test}

-- an ask that is refused
pub refused_is : (t : DeskTable) (who : Who) (now : ℕ) (ask : Ask) (deed : Deed) (fault : DeskFault) (planned : Planned) (row : List ℕ) → deed_of t ask ≡ deed → refusal_of t deed ≡ Some fault → row ≡ []
    → IsPlannedBy t who now deed (quiet t (marks.Refused fault) None) planned [] → IsPlan t who now ask (Some planned) row
refused_is t who now ask deed fault planned row asked refused blank h =
    subst (λ (d : Deed). IsPlannedBy t who now d (effect_of t now d) planned row) (sym asked)
    (subst (λ (r : Option DeskFault). IsPlannedBy t who now deed (effect_unless r t now deed) planned row) (sym refused)
    (subst (λ (l : List ℕ). IsPlannedBy t who now deed (quiet t (marks.Refused fault) None) planned l) (sym blank) h))

store_refused : (t : DeskTable) (q p : PathParts) (bytes : List ℕ) (fault : DeskFault) → p ≡ q → store_refusal t.index q (length bytes) ≡ Some fault → deed_of t (asks.Store q bytes) ≡ deeds.Store p (length bytes) None
store_refused t q p bytes fault same refused =
    ap (λ (r : Option DeskFault). deeds.Store q (length bytes) (body_unless r (id_of t.index.next_file bytes))) refused
    ∙ ap (λ (p : PathParts). deeds.Store p (length bytes) None) (sym same)

pub store_is : (t : DeskTable) (who : Who) (now : ℕ) (q p : PathParts) (len : ℕ) (bytes : List ℕ) (fault : DeskFault) (planned : Planned) (row : List ℕ) → p ≡ q → len ≡ length bytes → store_refusal t.index q len ≡ Some fault → row ≡ []
    → IsPlannedBy t who now (deeds.Store p len None) (quiet t (marks.Refused fault) None) planned [] → IsPlan t who now (asks.Store q bytes) (Some planned) row
store_is t who now q p len bytes fault planned row same length_is refused blank h =
    let refused' : store_refusal t.index q (length bytes) ≡ Some fault = subst (λ (n : ℕ). store_refusal t.index q n ≡ Some fault) length_is refused in
    refused_is t who now (asks.Store q bytes) (deeds.Store p (length bytes) None) fault planned row (store_refused t q p bytes fault same refused')
    (ap (λ (p : PathParts). store_refusal t.index p (length bytes)) same ∙ refused') blank
    (subst (λ (n : ℕ). IsPlannedBy t who now (deeds.Store p n None) (quiet t (marks.Refused fault) None) planned []) length_is h)

pub settle_is : (t : DeskTable) (who : Who) (now job : ℕ) (done : Done) (flight : Flight) (planned : Planned) (row : List ℕ) → t.job ≡ Some flight → flight.number ≡ job
    → IsPlannedBy t who now (deeds.Settle job done) (settle_by_fate t flight done (fated_of t.index flight now done)) planned row → IsPlan t who now (asks.Settle job done) (Some planned) row
settle_is t who now job done flight planned row flies same h =
    subst (λ (e : Effect). IsPlannedBy t who now (deeds.Settle job done) e planned row) (sym (settled_effect t now job done flight flies same)) h

-- a settling of another job
pub no_job : (t : DeskTable) (who : Who) (now job : ℕ) (done : Done) (planned : Planned) (row : List ℕ) → ((flight : Flight) → t.job ≡ Some flight → flight.number ≢ job) → row ≡ []
    → IsPlannedBy t who now (deeds.Settle job done) (quiet t (marks.Refused (NoSuchJob job)) None) planned [] → IsPlan t who now (asks.Settle job done) (Some planned) row
no_job t who now job done planned row other blank h =
    refused_is t who now (asks.Settle job done) (deeds.Settle job done) (NoSuchJob job) planned row refl (by t.job refl) blank h
  where
    by : (o : Option Flight) → t.job ≡ o → job_fault job o ≡ Some (NoSuchJob job)
    by None is = refl
    by (Some flight) is = ap (λ (b : Bool). if b then None else Some (NoSuchJob job)) (by_test (nat_eq flight.number job) (λ h. absurd (other flight is (eqb-true flight.number job h))) (λ h. h))

-- the table of the index once a job ended
waits_same : (t : Table) (flight : Flight) (fated : Fated) → wait_by flight (waiting_at flight.path t.entries).tried fated ≡ wait_of_fate t flight fated
waits_same t flight fates.Clean = refl
waits_same t flight fates.Superseded = refl
waits_same t flight (fates.Waits n due) = refl
waits_same t flight (fates.Lost n) = refl

pub lands_waiting : (t : Table) (flight : Flight) (fated fate : Fated) (tried : Bool) (waits : Option Waits) → fated ≡ fate → tried ≡ (waiting_at flight.path t.entries).tried → IsWaiting (wait_by flight tried fated) waits → IsWaiting (wait_of_fate t flight fate) waits
lands_waiting t flight fated fate tried waits same was h =
    subst (λ (o : Option Wait). IsWaiting o waits) (ap (λ (b : Bool). wait_by flight b fated) was ∙ waits_same t flight fated ∙ ap (wait_of_fate t flight) same) h

-- the record of what is forgotten, by whether anything goes
pub none_goes : (q : PathParts) (locks below : Bool) (items : List Item) → list_any (goes_with q below) items ≡ false → None ≡ forgot_record q locks below (going q below items)
none_goes q locks below [] h = refl
none_goes q locks below (x ∷ xs) h = by (goes_with q below x) refl h (λ k. none_goes q locks below xs k)
  where
    by : (b : Bool) → goes_with q below x ≡ b → (b || list_any (goes_with q below) xs) ≡ false → (list_any (goes_with q below) xs ≡ false → None ≡ forgot_record q locks below (going q below xs)) → None ≡ forgot_record q locks below (if b then x ∷ going q below xs else going q below xs)
    by true is h ih = absurd (false≢true (sym h))
    by false is h ih = ih h

pub some_goes : (q p : PathParts) (locks below : Bool) (items : List Item) → p ≡ q → list_any (goes_with q below) items ≡ true → Some (Forgot p locks below) ≡ forgot_record q locks below (going q below items)
some_goes q p locks below [] same h = absurd (false≢true h)
some_goes q p locks below (x ∷ xs) same h = by (goes_with q below x) refl h (λ k. some_goes q p locks below xs same k)
  where
    by : (b : Bool) → goes_with q below x ≡ b → (b || list_any (goes_with q below) xs) ≡ true → (list_any (goes_with q below) xs ≡ true → Some (Forgot p locks below) ≡ forgot_record q locks below (going q below xs)) → Some (Forgot p locks below) ≡ forgot_record q locks below (if b then x ∷ going q below xs else going q below xs)
    by true is h ih = ap (λ (p : PathParts). Some (Forgot p locks below)) same
    by false is h ih = ih h

-- the files of what goes, one entry more
files_append : (xs ys : List Item) → files_of (xs ++ ys) ≡ files_of xs ++ files_of ys
files_append [] ys = refl
files_append (x ∷ xs) ys = ap (λ (l : List ℕ). file_of x.entry.body ++ l) (files_append xs ys) ∙ sym (append_assoc (file_of x.entry.body) (files_of xs) (files_of ys))

one_goes : (job : Option Flight) (q : PathParts) (below : Bool) (x : Item) → grounded job (files_of (if goes_with q below x then x ∷ [] else [])) ≡ option_to_list (file_going job q below x)
one_goes job q below x = by (goes_with q below x)
  where
    ground : (o : Option BodyId) → grounded job (file_of o ++ []) ≡ option_to_list (file_unless job o)
    ground None = refl
    ground (Some b) = one (is_flying job b.file)
      where
        one : (c : Bool) → (if not c then b.file ∷ [] else []) ≡ option_to_list (if c then None else Some b.file)
        one true = refl
        one false = refl

    by : (c : Bool) → grounded job (files_of (if c then x ∷ [] else [])) ≡ option_to_list (if c then file_unless job x.entry.body else None)
    by true = ground x.entry.body
    by false = refl

pub going_more : (job : Option Flight) (q : PathParts) (below : Bool) (xs : List Item) (i : ℕ) (x : Item) → i < length xs → x ≡ get_or xs i x
    → grounded job (files_of (going q below (take (i + 1) xs))) ≡ grounded job (files_of (going q below (take i xs))) ++ option_to_list (file_going job q below x)
going_more job q below xs i x lt is =
    let next : going q below (take (i + 1) xs) ≡ going q below (take i xs) ++ (if goes_with q below (get_or xs i x) then get_or xs i x ∷ [] else []) = filter_more (goes_with q below) xs i x lt in
    ap (λ (l : List Item). grounded job (files_of l)) (next ∙ ap (λ (y : Item). going q below (take i xs) ++ (if goes_with q below y then y ∷ [] else [])) (sym is))
    ∙ ap (grounded job) (files_append (going q below (take i xs)) (if goes_with q below x then x ∷ [] else []))
    ∙ filter-append (λ (file : ℕ). not (is_flying job file)) (files_of (going q below (take i xs))) (files_of (if goes_with q below x then x ∷ [] else []))
    ∙ ap (λ (l : List ℕ). grounded job (files_of (going q below (take i xs))) ++ l) (one_goes job q below x)

pub forget_is : (t : DeskTable) (who : Who) (now : ℕ) (q p : PathParts) (locks below : Bool) (fault : DeskFault) (planned : Planned) (row : List ℕ) → p ≡ q → queued_fault (queued_with q below t.index.entries) ≡ Some fault → row ≡ []
    → IsPlannedBy t who now (deeds.Forget p locks below) (quiet t (marks.Refused fault) None) planned [] → IsPlan t who now (asks.Forget q locks below) (Some planned) row
forget_is t who now q p locks below fault planned row same refused blank h =
    refused_is t who now (asks.Forget q locks below) (deeds.Forget q locks below) fault planned row refl refused blank
    (subst (λ (p : PathParts). IsPlannedBy t who now (deeds.Forget p locks below) (quiet t (marks.Refused fault) None) planned []) same h)

-- a change that was planned is the one of its deed
pub change_is : (t : DeskTable) (e : Effect) (c : Change) (r u : Table) → IsChange t e c → r ≡ recorded t.index e.on_record → u ≡ waited r e.waits
    → record { index = u; job = job_with t.job c.job; jobs = jobs_with t.jobs c.job; stopping = c.stopping } ≡ changed t e
change_is t e c r u is noted waits =
    let index : u ≡ waited (recorded t.index e.on_record) e.waits = waits ∙ ap (λ (v : Table). waited v e.waits) noted in
    ap (λ (v : Table). record { index = v; job = job_with t.job c.job; jobs = jobs_with t.jobs c.job; stopping = c.stopping }) index
    ∙ ap (λ (j : Option Flight). record { index = waited (recorded t.index e.on_record) e.waits; job = j; jobs = jobs_with t.jobs c.job; stopping = c.stopping }) (sym is.job)
    ∙ ap (λ (n : ℕ). record { index = waited (recorded t.index e.on_record) e.waits; job = e.job; jobs = n; stopping = c.stopping }) (sym is.jobs)
    ∙ ap (λ (b : Bool). record { index = waited (recorded t.index e.on_record) e.waits; job = e.job; jobs = e.jobs; stopping = b }) (sym is.stopping)

-- a take that finds nothing changes nothing
pub idle_take : (t : DeskTable) (now : ℕ) → taken t now ≡ None → ((effect_of t now deeds.Take).told ≡ Some Idle) × (after t now deeds.Take ≡ t)
idle_take t now none = (ap (λ (o : Option Flight). (take_effect t o).told) none, ap (λ (o : Option Flight). changed t (take_effect t o)) none)

-- what is written and changed of a plan
pub made_of_plan : (t : DeskTable) (who : Who) (now : ℕ) (deed : Deed) (planned : Planned) (row : List ℕ) (u : DeskTable) → IsPlannedBy t who now deed (effect_of t now deed) planned row → u ≡ after t now deed → IsMadeBy t who now deed (effect_of t now deed) planned.made row u
made_of_plan t who now deed planned row u is at = record { step = is.step; answer = is.answer; released = is.released; row_is = is.row_is; after = at }

-- what is noted, if anything is
pub can_note : (t : Table) (noting : Option Noting) (n : Noting) → (found : Option Record) × Notes t found noting → noting ≡ Some n → CanNote t n.what n
can_note t noting n ready is = by ready.0 (subst (λ (o : Option Noting). Notes t ready.0 o) is ready.1)
  where
    by : (found : Option Record) → Notes t found (Some n) → CanNote t n.what n
    by None h = absurd h
    by (Some r) h = subst (λ (x : Record). CanNote t x n) (sym h.what) h

pub noted_is : (t u : Table) (n : Noting) (noting : Option Noting) → noting ≡ Some n → u ≡ replay t n.what → (found : Option Record) → Notes t found noting → u ≡ recorded t found
noted_is t u n noting is replayed found notes = by found (subst (λ (o : Option Noting). Notes t found o) is notes)
  where
    by : (found : Option Record) → Notes t found (Some n) → u ≡ recorded t found
    by None h = absurd h
    by (Some r) h = replayed ∙ ap (λ (x : Record). replay t x) h.what

pub not_noted_is : (t : Table) (noting : Option Noting) → noting ≡ None → (found : Option Record) → Notes t found noting → t ≡ recorded t found
not_noted_is t noting is found notes = by found (subst (λ (o : Option Noting). Notes t found o) is notes)
  where
    by : (found : Option Record) → Notes t found None → t ≡ recorded t found
    by None h = refl
    by (Some r) h = absurd h

-- how bytes wait, if that changes
pub waits_is : (t u : Table) (w : Waits) (waits : Option Waits) → waits ≡ Some w → u ≡ with_waiting w.path w.waiting t → (found : Option Wait) → IsWaiting found waits → u ≡ waited t found
waits_is t u w waits is written found waiting = by found (subst (λ (o : Option Waits). IsWaiting found o) is waiting)
  where
    by : (found : Option Wait) → IsWaiting found (Some w) → u ≡ waited t found
    by None h = absurd h
    by (Some wait) h = written ∙ ap (λ (p : PathParts). with_waiting p w.waiting t) h.0 ∙ ap (λ (x : Waiting). with_waiting wait.path x t) h.1

pub not_waits_is : (t : Table) (waits : Option Waits) → waits ≡ None → (found : Option Wait) → IsWaiting found waits → t ≡ waited t found
not_waits_is t waits is found waiting = by found (subst (λ (o : Option Waits). IsWaiting found o) is waiting)
  where
    by : (found : Option Wait) → IsWaiting found None → t ≡ waited t found
    by None h = refl
    by (Some wait) h = absurd h

-- the table after a change that was planned
module _ (d : Inside) (c : Change) (r u : Table) (job : Option Flight) (jobs : ℕ) (stopping : Bool)
    (noted : (found : Option Record) → Notes d.index found c.noting → r ≡ recorded d.index found) (waits : (found : Option Wait) → IsWaiting found c.waits → u ≡ waited r found)
    (job_is : job ≡ job_with d.job c.job) (jobs_is : jobs ≡ jobs_with d.jobs c.job) (stopping_is : stopping ≡ c.stopping) where
  pub applied_is : (now : ℕ) (deed : Deed) → IsChange (table_of d) (effect_of (table_of d) now deed) c → record { index = u; job = job; jobs = jobs; stopping = stopping } ≡ after (table_of d) now deed
  applied_is now deed is =
      let e = effect_of (table_of d) now deed in
      ap (λ (j : Option Flight). record { index = u; job = j; jobs = jobs; stopping = stopping }) job_is
      ∙ ap (λ (n : ℕ). record { index = u; job = job_with d.job c.job; jobs = n; stopping = stopping }) jobs_is
      ∙ ap (λ (b : Bool). record { index = u; job = job_with d.job c.job; jobs = jobs_with d.jobs c.job; stopping = b }) stopping_is
      ∙ change_is (table_of d) e c r u is (noted e.on_record is.noting) (waits e.waits is.waits)

  pub applied_sound : CanChange (table_of d) c → IsSound (table_of d) → IsSound (record { index = u; job = job; jobs = jobs; stopping = stopping })
  applied_sound can sound = subst (λ (t : DeskTable). IsSound t) (sym (applied_is can.now can.deed can.change)) (after_sound (table_of d) sound can.now can.deed can.is_deed)
