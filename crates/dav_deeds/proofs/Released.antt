-- A file that a deed releases is that of no body afterwards.
use Rattle.std.proofs.Common.{◌≡◌, ◌≢◌, ◌⊎◌, inl, inr, ℕ, zero, suc, ◌+◌, ◌<◌, ◌≤◌, Bool, true, false, not, List, [], ◌∷◌, Option, Some, None, nat_eq, Contains, refl, sym, ◌∙◌, ap, subst, arith, sum_by, if◌then◌else◌}
use Rattle.std.specs.Prelude.{nat_lt, option_and_then}
use Rattle.std.proofs.lemmas.Bool.{false≢true, eqb-true, eq-eqb}
use Rattle.std.proofs.lemmas.List.Sums.{sum_by-cons}
use Rattle.std.proofs.lemmas.List.Elements.{Contains-append_cases}
use Rattle.dav_text.specs.Path.{PathParts, IsPath}
use Rattle.dav_text.specs.declared.tag.Seen.{Seen}
use Rattle.dav_store.specs.declared.body_id.BodyId.{BodyId}
use Rattle.dav_index.specs.Item.{Item}
use Rattle.dav_index.specs.Items.{Every, entry_at, goes_with, with_changed, with_entry, without_entry}
use Rattle.dav_index.specs.Tables.{waiting_body, queued_body, queued_at, has_file, closed_entry, sent_entry, replay, waiting_so}
use Rattle.dav_index.specs.Bounds.{bodies_of}
use Rattle.dav_index.specs.declared.entry.Entry.{Entry}
use Rattle.dav_index.specs.declared.entry.Waiting.{Waiting}
use Rattle.dav_index.specs.declared.lost.LostItem.{LostItem}
use Rattle.dav_index.specs.declared.record.Record.TheVariants as records
use Rattle.dav_index.specs.declared.table.Table.{Table}
use Rattle.dav_deeds.specs.declared.answer.Fated.{Fated}
use Rattle.dav_deeds.specs.declared.answer.Fated.TheVariants as fates
use Rattle.dav_deeds.specs.declared.answer.Flight.{Flight}
use Rattle.dav_deeds.specs.declared.ask.Done.{Done}
use Rattle.dav_deeds.specs.declared.ask.Done.TheVariants as ends
use Rattle.dav_deeds.specs.declared.deed.Deed.{Deed}
use Rattle.dav_deeds.specs.declared.deed.Deed.TheVariants.{Store, Forget, Take, Settle, Stop}
use Rattle.dav_deeds.specs.declared.fault.DeskFault.{DeskFault}
use Rattle.dav_deeds.specs.DeskTable.{DeskTable}
use Rattle.dav_deeds.specs.Refusals.{store_refusal, refusal_of}
use Rattle.dav_deeds.specs.Effects.{Wait, Effect, bare, moment, pause, waiting_at, file_of, files_of, body_at, is_flying, grounded, store_effect, going, forgot_record, forget_effect, take_effect, taken, is_current, fated_current, fated_of, settle_by_fate, settle_effect, effect_done, effect_unless, waited, recorded, changed, after, released_of}
use Rattle.dav_deeds.specs.Legal.{IsBodyUnless, IsDeed}
use Rattle.dav_deeds.specs.Sound.{IsOwn, IsFlightWithin, IsJobWithin, IsSound}
use Rattle.dav_deeds.proofs.Paths.{by_test, same_self}
use Rattle.dav_deeds.proofs.Entries.{entry_same}
use Rattle.dav_index.proofs.Weights.{weight, each_found, changed_less, without_weight}
use Rattle.dav_deeds.proofs.Bodies.{of_body, of_entry, in_file, bodies_weight, OfBody, EachBody, each_body}
use Rattle.dav_deeds.proofs.Within.{Puts, puts_by, old_weight, one_if}
use Rattle.dav_deeds.proofs.Flying.{every_at, at_found}
use Rattle.dav_deeds.proofs.Sounds.{bare_is}

-- how many bodies are in the file
abbrev pub total : ℕ → Table → ℕ
total file t = sum_by (in_file file) (bodies_of t)

one_in : (file : ℕ) (b : BodyId) → b.file ≡ file → in_file file b ≡ 1
one_in file b same = ap one_if (eq-eqb b.file file same)

none_in : (file : ℕ) (b : BodyId) → b.file ≢ file → in_file file b ≡ 0
none_in file b off = ap one_if (by_test (nat_eq b.file file) (λ h. absurd (off (eqb-true b.file file h))) (λ h. h))

-- where no body is in a file, each is in another
pub apart : (file : ℕ) (bs : List BodyId) → sum_by (in_file file) bs ≡ 0 → Every (λ (b : BodyId). b.file ≢ file) bs
apart file [] nil = tt
apart file (b ∷ bs) nil =
    let head : sum_by (in_file file) (b ∷ bs) ≡ in_file file b + sum_by (in_file file) bs = sum_by-cons (in_file file) b bs in
    ((λ same. let one : in_file file b ≡ 1 = one_in file b same in absurd (omega (arith, head, nil, one))), apart file bs (omega (arith, head, nil)))

waited_total : (file : ℕ) (t : Table) (w : Option Wait) → total file (waited t w) ≤ total file t
waited_total file t None = omega arith
waited_total file t (Some w) =
    let before : total file t ≡ weight (of_entry (in_file file)) t.entries + sum_by (λ (l : LostItem). in_file file l.body) t.lost = bodies_weight (in_file file) t in
    let now : total file (waited t (Some w)) ≡ weight (of_entry (in_file file)) (with_changed w.path (waiting_so w.waiting) t.entries) + sum_by (λ (l : LostItem). in_file file l.body) t.lost = bodies_weight (in_file file) (waited t (Some w)) in
    let less : weight (of_entry (in_file file)) (with_changed w.path (waiting_so w.waiting) t.entries) ≤ weight (of_entry (in_file file)) t.entries = changed_less w.path (waiting_so w.waiting) (of_entry (in_file file)) (λ e. omega arith) t.entries in
    omega arith

grounded_of : (job : Option Flight) (files : List ℕ) (file : ℕ) → Contains (grounded job files) file → Contains files file × (is_flying job file ≡ false)
grounded_of job [] file (k, lt, at) = absurd (omega arith)
grounded_of job (f ∷ fs) file there = by (is_flying job f) refl there (λ c. grounded_of job fs file c)
  where
    more : Contains fs file → Contains (f ∷ fs) file
    more c = (suc c.0, omega (arith, c.1), c.2)

    by : (b : Bool) → is_flying job f ≡ b → Contains (if not b then f ∷ grounded job fs else grounded job fs) file → (Contains (grounded job fs) file → Contains fs file × (is_flying job file ≡ false)) → Contains (f ∷ fs) file × (is_flying job file ≡ false)
    by true is c ih = (more (ih c).0, (ih c).1)
    by false is (zero, lt, at) ih = ((0, omega arith, at), ap (is_flying job) (sym at) ∙ is)
    by false is (suc k, lt, at) ih = let c : Contains (grounded job fs) file = (k, omega arith, at) in (more (ih c).0, (ih c).1)

file_in : (o : Option BodyId) (file : ℕ) → Contains (file_of o) file → (c : BodyId) × (o ≡ Some c) × (c.file ≡ file)
file_in None file (k, lt, at) = absurd (omega arith)
file_in (Some b) file (zero, lt, at) = (b, refl, at)
file_in (Some b) file (suc k, lt, at) = absurd (omega arith)

-- a file of these entries is that of the body of one of them
files_weigh : (items : List Item) (file : ℕ) → Contains (files_of items) file → 1 ≤ weight (of_entry (in_file file)) items
files_weigh [] file (k, lt, at) = absurd (omega arith)
files_weigh (x ∷ xs) file there = by (Contains-append_cases (file_of x.entry.body) (files_of xs) file there) (λ c. files_weigh xs file c)
  where
    head : weight (of_entry (in_file file)) (x ∷ xs) ≡ of_body (in_file file) x.entry.body + weight (of_entry (in_file file)) xs
    head = sum_by-cons (λ (item : Item). of_entry (in_file file) item.entry) x xs

    by : Contains (file_of x.entry.body) file ⊎ Contains (files_of xs) file → (Contains (files_of xs) file → 1 ≤ weight (of_entry (in_file file)) xs) → 1 ≤ weight (of_entry (in_file file)) (x ∷ xs)
    by (inl c) ih =
        let f : (b : BodyId) × (x.entry.body ≡ Some b) × (b.file ≡ file) = file_in x.entry.body file c in
        let one : of_body (in_file file) x.entry.body ≡ 1 = ap (of_body (in_file file)) f.1 ∙ one_in file f.0 f.2 in
        omega (arith, head)
    by (inr c) ih = let k : 1 ≤ weight (of_entry (in_file file)) xs = ih c in omega (arith, head)

body_entry : (path : PathParts) (items : List Item) (c : BodyId) → body_at path items ≡ Some c → (old : Entry) × (entry_at path items ≡ Some old) × (old.body ≡ Some c)
body_entry path items c is = by (entry_at path items) refl is
  where
    by : (o : Option Entry) → entry_at path items ≡ o → option_and_then (λ (entry : Entry). entry.body) o ≡ Some c → (old : Entry) × (entry_at path items ≡ Some old) × (old.body ≡ Some c)
    by None at h = cc
    by (Some old) at h = (old, at, h)

module _ (t : DeskTable) (s : IsSound t) where
  -- nothing is in a file that is released
  abbrev pub Spares : Effect → Type 0
  Spares e = (file : ℕ) → Contains e.released file → (total file (changed t e).index ≡ 0) × (is_flying e.job file ≡ false)

  pub nothing : (e : Effect) → e.released ≡ [] → Spares e
  nothing e none file there = let c : Contains [] file = subst (λ (l : List ℕ). Contains l file) none there in absurd (omega (arith, c.1))

  pub store_spares : (now : ℕ) (path : PathParts) (len : ℕ) (body : Option BodyId) → IsPath path → store_refusal t.index path len ≡ None → IsBodyUnless None t.index.next_file len body → Spares (store_effect t path now body)
  store_spares now path len None is free h file there = absurd h
  store_spares now path len (Some b) is free h file there =
      let g : Contains (file_of (body_at path t.index.entries)) file × (is_flying t.job file ≡ false) = grounded_of t.job (file_of (body_at path t.index.entries)) file there in
      let f : (c : BodyId) × (body_at path t.index.entries ≡ Some c) × (c.file ≡ file) = file_in (body_at path t.index.entries) file g.0 in
      let o : (old : Entry) × (entry_at path t.index.entries ≡ Some old) × (old.body ≡ Some f.0) = body_entry path t.index.entries f.0 f.1 in
      let bare_at : entry_at (bare path) t.index.entries ≡ Some o.0 = sym (entry_same path (bare path) t.index.entries (same_self path)) ∙ o.1 in
      let entry : Entry = closed_entry b (t.index.records + 1) (entry_at (bare path) t.index.entries) in
      let puts : Puts (entry_at (bare path) t.index.entries) entry t.index.entries (with_entry (bare path) entry t.index.entries) = puts_by (bare path) entry t.index.entries (bare_is path is) s.index.in_order (entry_at (bare path) t.index.entries) refl in
      let sum : weight (of_entry (in_file file)) (with_entry (bare path) entry t.index.entries) + old_weight (of_entry (in_file file)) (entry_at (bare path) t.index.entries) ≡ weight (of_entry (in_file file)) t.index.entries + in_file file b = puts.sum (of_entry (in_file file)) in
      let own : old_weight (of_entry (in_file file)) (entry_at (bare path) t.index.entries) ≡ 1 = ap (old_weight (of_entry (in_file file))) bare_at ∙ ap (of_body (in_file file)) o.2 ∙ one_in file f.0 f.2 in
      let known : EachBody (λ (c : BodyId). c.file < t.index.next_file) t.index.entries t.index.lost = each_body (λ (c : BodyId). c.file < t.index.next_file) t.index s.index.files_known in
      let below : f.0.file < t.index.next_file = each_found path (OfBody (λ (c : BodyId). c.file < t.index.next_file)) t.index.entries o.0 o.1 known.kept f.0 o.2 in
      let other : in_file file b ≡ 0 = none_in file b (λ same. omega (arith, same, f.2, h.0, below)) in
      let closed : Table = replay t.index (records.Closed (bare path) b) in
      let before : total file t.index ≡ weight (of_entry (in_file file)) t.index.entries + sum_by (λ (l : LostItem). in_file file l.body) t.index.lost = bodies_weight (in_file file) t.index in
      let after_it : total file closed ≡ weight (of_entry (in_file file)) (with_entry (bare path) entry t.index.entries) + sum_by (λ (l : LostItem). in_file file l.body) t.index.lost = bodies_weight (in_file file) closed in
      let few : total file t.index ≤ 1 = s.index.files_differ file in
      let less : total file (waited closed (store_effect t path now (Some b)).waits) ≤ total file closed = waited_total file closed (store_effect t path now (Some b)).waits in
      let none : total file (waited closed (store_effect t path now (Some b)).waits) ≡ 0 = omega arith in
      (none, g.1)

  pub forget_spares : (path : PathParts) (locks below : Bool) → Spares (forget_effect t path locks below)
  forget_spares path locks below file there =
      let g : Contains (files_of (going path below t.index.entries)) file × (is_flying t.job file ≡ false) = grounded_of t.job (files_of (going path below t.index.entries)) file there in
      (by (going path below t.index.entries) refl g.0, g.1)
    where
      by : (items : List Item) → going path below t.index.entries ≡ items → Contains (files_of items) file → total file (recorded t.index (forgot_record path locks below items)) ≡ 0
      by [] is c = absurd (omega (arith, c.1))
      by (x ∷ xs) is c =
          let forgot : Table = replay t.index (records.Forgot path locks below) in
          let some : 1 ≤ weight (of_entry (in_file file)) (x ∷ xs) = files_weigh (x ∷ xs) file c in
          let gone : weight (of_entry (in_file file)) (going path below t.index.entries) ≡ weight (of_entry (in_file file)) (x ∷ xs) = ap (weight (of_entry (in_file file))) is in
          let both : weight (of_entry (in_file file)) (without_entry path below t.index.entries) + weight (of_entry (in_file file)) (going path below t.index.entries) ≡ weight (of_entry (in_file file)) t.index.entries = without_weight path below (of_entry (in_file file)) t.index.entries in
          let before : total file t.index ≡ weight (of_entry (in_file file)) t.index.entries + sum_by (λ (l : LostItem). in_file file l.body) t.index.lost = bodies_weight (in_file file) t.index in
          let after_it : total file forgot ≡ weight (of_entry (in_file file)) (without_entry path below t.index.entries) + sum_by (λ (l : LostItem). in_file file l.body) t.index.lost = bodies_weight (in_file file) forgot in
          let few : total file t.index ≤ 1 = s.index.files_differ file in
          omega arith

  none_of : (file : ℕ) (o : Option BodyId) → ((c : BodyId) → o ≡ Some c → c.file ≢ file) → of_body (in_file file) o ≡ 0
  none_of file None h = refl
  none_of file (Some c) h = none_in file c (h c refl)

  -- once newer bytes are queued nothing is in the job's file
  superseded : (flight : Flight) → IsFlightWithin flight t.index → is_current t.index flight ≡ false → total flight.body.file t.index ≡ 0
  superseded flight within off =
      let before : total flight.body.file t.index ≡ weight (of_entry (in_file flight.body.file)) t.index.entries + sum_by (λ (l : LostItem). in_file flight.body.file l.body) t.index.lost = bodies_weight (in_file flight.body.file) t.index in
      let entries : weight (of_entry (in_file flight.body.file)) t.index.entries ≡ 0 = light t.index.entries (λ y c. not_own y c) in
      let lost : sum_by (λ (l : LostItem). in_file flight.body.file l.body) t.index.lost ≡ 0 = none_lost t.index.lost within.not_lost in
      omega arith
    where
      queued_other : (q : Option Waiting) (o : Option BodyId) (c : BodyId) → waiting_body q o ≢ None → has_file flight.body.file (waiting_body q o) ≡ false → o ≡ Some c → c.file ≢ flight.body.file
      queued_other None o c some off is = λ same. absurd (some refl)
      queued_other (Some w) o c some off is = λ same.
          let on : has_file flight.body.file o ≡ true = ap (has_file flight.body.file) is ∙ eq-eqb c.file flight.body.file same in
          absurd (false≢true (sym off ∙ on))

      not_own : (y : Item) → Contains t.index.entries y → (c : BodyId) → y.entry.body ≡ Some c → c.file ≢ flight.body.file
      not_own y there c is = λ same.
          let own : IsOwn flight y = every_at (IsOwn flight) t.index.entries y within.owned there in
          let at : entry_at flight.path t.index.entries ≡ Some y.entry = entry_same flight.path y.path t.index.entries (own.own c is same) ∙ at_found t.index.entries y s.index.in_order.differ there in
          let queued : queued_at flight.path t.index.entries ≡ queued_body y.entry = ap (option_and_then queued_body) at in
          queued_other y.entry.queued y.entry.body c (λ none. within.queued (queued ∙ none)) (ap (has_file flight.body.file) (sym queued) ∙ off) is same

      light : (items : List Item) → ((y : Item) → Contains items y → (c : BodyId) → y.entry.body ≡ Some c → c.file ≢ flight.body.file) → weight (of_entry (in_file flight.body.file)) items ≡ 0
      light [] h = refl
      light (x ∷ xs) h =
          let head : weight (of_entry (in_file flight.body.file)) (x ∷ xs) ≡ of_body (in_file flight.body.file) x.entry.body + weight (of_entry (in_file flight.body.file)) xs = sum_by-cons (λ (item : Item). of_entry (in_file flight.body.file) item.entry) x xs in
          let own : of_body (in_file flight.body.file) x.entry.body ≡ 0 = none_of flight.body.file x.entry.body (λ c is. h x (0, omega arith, refl) c is) in
          let ih : weight (of_entry (in_file flight.body.file)) xs ≡ 0 = light xs (λ y k. h y (suc k.0, omega (arith, k.1), k.2)) in
          omega arith

      none_lost : (ls : List LostItem) → Every (λ (l : LostItem). l.body.file ≢ flight.body.file) ls → sum_by (λ (l : LostItem). in_file flight.body.file l.body) ls ≡ 0
      none_lost [] h = refl
      none_lost (l ∷ ls) h =
          let head : sum_by (λ (l : LostItem). in_file flight.body.file l.body) (l ∷ ls) ≡ in_file flight.body.file l.body + sum_by (λ (l : LostItem). in_file flight.body.file l.body) ls = sum_by-cons (λ (l : LostItem). in_file flight.body.file l.body) l ls in
          let own : in_file flight.body.file l.body ≡ 0 = none_in flight.body.file l.body h.0 in
          let ih : sum_by (λ (l : LostItem). in_file flight.body.file l.body) ls ≡ 0 = none_lost ls h.1 in
          omega arith

  sent_total : (flight : Flight) (seen : Seen) → total flight.body.file (replay t.index (records.Sent flight.path flight.body.file seen)) ≤ total flight.body.file t.index
  sent_total flight seen =
      let file : ℕ = flight.body.file in
      let f : Entry → Entry = sent_entry flight.body.file seen (t.index.records + 1) in
      let before : total flight.body.file t.index ≡ weight (of_entry (in_file flight.body.file)) t.index.entries + sum_by (λ (l : LostItem). in_file flight.body.file l.body) t.index.lost = bodies_weight (in_file flight.body.file) t.index in
      let now : total flight.body.file (replay t.index (records.Sent flight.path flight.body.file seen)) ≡ weight (of_entry (in_file flight.body.file)) (with_changed flight.path (sent_entry flight.body.file seen (t.index.records + 1)) t.index.entries) + sum_by (λ (l : LostItem). in_file flight.body.file l.body) t.index.lost = bodies_weight (in_file flight.body.file) (replay t.index (records.Sent flight.path flight.body.file seen)) in
      let less : weight (of_entry (in_file flight.body.file)) (with_changed flight.path (sent_entry flight.body.file seen (t.index.records + 1)) t.index.entries) ≤ weight (of_entry (in_file flight.body.file)) t.index.entries = changed_less flight.path (sent_entry flight.body.file seen (t.index.records + 1)) (of_entry (in_file flight.body.file)) (λ e. omega arith) t.index.entries in
      omega arith

  fate_spares : (flight : Flight) (done : Done) (fated : Fated) → (fated ≡ fates.Superseded → total flight.body.file t.index ≡ 0) → Spares (settle_by_fate t flight done fated)
  fate_spares flight done fates.Clean none file there = absurd (omega (arith, there.1))
  fate_spares flight done (fates.Waits n due) none file there = absurd (omega (arith, there.1))
  fate_spares flight done (fates.Lost n) none file there = absurd (omega (arith, there.1))
  fate_spares flight (ends.Sent seen) fates.Superseded none file (zero, lt, at) =
      let less : total flight.body.file (replay t.index (records.Sent flight.path flight.body.file seen)) ≤ total flight.body.file t.index = sent_total flight seen in
      let nil : total flight.body.file t.index ≡ 0 = none refl in
      let z : total flight.body.file (replay t.index (records.Sent flight.path flight.body.file seen)) ≡ 0 = omega arith in
      (subst (λ n. total n (replay t.index (records.Sent flight.path flight.body.file seen)) ≡ 0) at z, refl)
  fate_spares flight (ends.Again after) fates.Superseded none file (zero, lt, at) = (subst (λ n. total n t.index ≡ 0) at (none refl), refl)
  fate_spares flight ends.Refused fates.Superseded none file (zero, lt, at) = (subst (λ n. total n t.index ≡ 0) at (none refl), refl)
  fate_spares flight (ends.Sent seen) fates.Superseded none file (suc k, lt, at) = absurd (omega arith)
  fate_spares flight (ends.Again after) fates.Superseded none file (suc k, lt, at) = absurd (omega arith)
  fate_spares flight ends.Refused fates.Superseded none file (suc k, lt, at) = absurd (omega arith)

  pub settle_spares : (job : Option Flight) (now : ℕ) (done : Done) → t.job ≡ job → Spares (settle_effect t job now done)
  settle_spares None now done same = nothing (settle_effect t None now done) refl
  settle_spares (Some flight) now done same =
      fate_spares flight done (fated_of t.index flight now done)
      (λ is. superseded flight (subst (λ (job : Option Flight). IsJobWithin job t.index) same s.job) (off is))
    where
      again : (b : Bool) (n due : ℕ) → (if b then fates.Waits n due else fates.Lost t.index.next_lost) ≢ fates.Superseded
      again true n due = λ e. cc
      again false n due = λ e. cc

      not_superseded : (done : Done) → fated_current t.index flight now done ≢ fates.Superseded
      not_superseded (ends.Sent seen) = λ e. cc
      not_superseded (ends.Again after) = again (nat_lt ((waiting_at flight.path t.index.entries).attempts + 1) 15) ((waiting_at flight.path t.index.entries).attempts + 1) (moment (now + pause ((waiting_at flight.path t.index.entries).attempts + 1) after))
      not_superseded ends.Refused = λ e. cc

      off : fated_of t.index flight now done ≡ fates.Superseded → is_current t.index flight ≡ false
      off is = by (is_current t.index flight) is
        where
          by : (c : Bool) → (if c then fated_current t.index flight now done else fates.Superseded) ≡ fates.Superseded → c ≡ false
          by true h = absurd (not_superseded done h)
          by false h = refl

  pub take_spares : (o : Option Flight) → Spares (take_effect t o)
  take_spares None = nothing (take_effect t None) refl
  take_spares (Some flight) = nothing (take_effect t (Some flight)) refl

  -- and each is a file of bodies
  abbrev pub Begins : Effect → Type 0
  Begins e = (file : ℕ) → Contains e.released file → 2 ≤ file

  pub none_begins : (e : Effect) → e.released ≡ [] → Begins e
  none_begins e none file there = let c : Contains [] file = subst (λ (l : List ℕ). Contains l file) none there in absurd (omega (arith, c.1))

  begun : EachBody (λ (b : BodyId). 2 ≤ b.file) t.index.entries t.index.lost
  begun = each_body (λ (b : BodyId). 2 ≤ b.file) t.index s.index.files_begin

  pub store_begins : (now : ℕ) (path : PathParts) (body : Option BodyId) → Begins (store_effect t path now body)
  store_begins now path None file there = absurd (omega (arith, there.1))
  store_begins now path (Some b) file there =
      let g : Contains (file_of (body_at path t.index.entries)) file × (is_flying t.job file ≡ false) = grounded_of t.job (file_of (body_at path t.index.entries)) file there in
      let f : (c : BodyId) × (body_at path t.index.entries ≡ Some c) × (c.file ≡ file) = file_in (body_at path t.index.entries) file g.0 in
      let o : (old : Entry) × (entry_at path t.index.entries ≡ Some old) × (old.body ≡ Some f.0) = body_entry path t.index.entries f.0 f.1 in
      let is : 2 ≤ f.0.file = each_found path (OfBody (λ (c : BodyId). 2 ≤ c.file)) t.index.entries o.0 o.1 begun.kept f.0 o.2 in
      omega (arith, is, f.2)

  files_begin : (items : List Item) (file : ℕ) → Every (λ (x : Item). OfBody (λ (c : BodyId). 2 ≤ c.file) x.entry) items → Contains (files_of items) file → 2 ≤ file
  files_begin [] file each there = absurd (omega (arith, there.1))
  files_begin (x ∷ xs) file each there = by (Contains-append_cases (file_of x.entry.body) (files_of xs) file there) (λ c. files_begin xs file each.1 c)
    where
      by : Contains (file_of x.entry.body) file ⊎ Contains (files_of xs) file → (Contains (files_of xs) file → 2 ≤ file) → 2 ≤ file
      by (inl c) ih =
          let f : (b : BodyId) × (x.entry.body ≡ Some b) × (b.file ≡ file) = file_in x.entry.body file c in
          let is : 2 ≤ f.0.file = each.0 f.0 f.1 in omega (arith, is, f.2)
      by (inr c) ih = ih c

  going_each : (path : PathParts) (below : Bool) (P : Item → Type 0) (items : List Item) → Every P items → Every P (going path below items)
  going_each path below P [] h = tt
  going_each path below P (x ∷ xs) h = by (goes_with path below x) (going_each path below P xs h.1)
    where
      by : (b : Bool) → Every P (going path below xs) → Every P (if b then x ∷ going path below xs else going path below xs)
      by true ih = (h.0, ih)
      by false ih = ih

  pub forget_begins : (path : PathParts) (locks below : Bool) → Begins (forget_effect t path locks below)
  forget_begins path locks below file there =
      files_begin (going path below t.index.entries) file (going_each path below (λ (x : Item). OfBody (λ (c : BodyId). 2 ≤ c.file) x.entry) t.index.entries begun.kept)
      (grounded_of t.job (files_of (going path below t.index.entries)) file there).0

  fate_begins : (flight : Flight) (done : Done) (fated : Fated) → 2 ≤ flight.body.file → Begins (settle_by_fate t flight done fated)
  fate_begins flight done fates.Clean is file there = absurd (omega (arith, there.1))
  fate_begins flight done (fates.Waits n due) is file there = absurd (omega (arith, there.1))
  fate_begins flight done (fates.Lost n) is file there = absurd (omega (arith, there.1))
  fate_begins flight done fates.Superseded is file (zero, lt, at) = subst (λ n. 2 ≤ n) at is
  fate_begins flight done fates.Superseded is file (suc k, lt, at) = absurd (omega arith)

  pub settle_begins : (job : Option Flight) (now : ℕ) (done : Done) → t.job ≡ job → Begins (settle_effect t job now done)
  settle_begins None now done same = none_begins (settle_effect t None now done) refl
  settle_begins (Some flight) now done same =
      let within : IsFlightWithin flight t.index = subst (λ (job : Option Flight). IsJobWithin job t.index) same s.job in
      fate_begins flight done (fated_of t.index flight now done) within.file_begins

  pub take_begins : (o : Option Flight) → Begins (take_effect t o)
  take_begins None = none_begins (take_effect t None) refl
  take_begins (Some flight) = none_begins (take_effect t (Some flight)) refl
