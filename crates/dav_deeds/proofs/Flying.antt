-- The job in flight stays within its bounds.
use Rattle.std.proofs.Common.{◌≡◌, ◌≢◌, ℕ, zero, suc, ◌+◌, ◌<◌, ◌≤◌, Bool, true, false, List, [], ◌∷◌, Option, Some, None, nat_eq, Contains, refl, sym, ◌∙◌, ap, subst, arith, sum_by}
use Rattle.std.specs.Prelude.{option_and_then}
use Rattle.std.proofs.lemmas.Bool.{false≢true, eq-eqb}
use Rattle.std.proofs.lemmas.List.Sums.{sum_by-cons}
use Rattle.dav_text.specs.Path.{PathParts}
use Rattle.dav_store.specs.declared.body_id.BodyId.{BodyId}
use Rattle.dav_index.specs.Item.{Item}
use Rattle.dav_index.specs.Items.{Every, has_path, same_path, comes_before, PathsDiffer, entry_at, with_changed, with_new, with_entry_for, with_entry}
use Rattle.dav_index.specs.Records.{IsBare}
use Rattle.dav_index.specs.Tables.{waiting_body, queued_body, queued_at, closed_entry, replay, waiting_so}
use Rattle.dav_index.specs.Bounds.{bodies_of, IsWithin}
use Rattle.dav_index.specs.declared.entry.Entry.{Entry}
use Rattle.dav_index.specs.declared.entry.Waiting.{Waiting}
use Rattle.dav_index.specs.declared.lost.LostItem.{LostItem}
use Rattle.dav_index.specs.declared.record.Record.TheVariants.{Forgot, Closed}
use Rattle.dav_index.specs.declared.table.Table.{Table}
use Rattle.dav_deeds.specs.declared.answer.Flight.{Flight}
use Rattle.dav_deeds.specs.Effects.{Wait, waited, bare}
use Rattle.dav_deeds.specs.Fate.{IsOfTable}
use Rattle.dav_deeds.specs.Refusals.{queued_with}
use Rattle.dav_deeds.specs.Sound.{IsOwn, IsFlightWithin}
use Rattle.dav_deeds.proofs.Paths.{by_test, same_self, same_back}
use Rattle.dav_deeds.proofs.Queued.{waited_queued, closed_here, closed_other, forgot_queued}
use Rattle.dav_index.proofs.HeadLemmas.{head_found, head_changed, head_new, none_changed, none_new}
use Rattle.dav_index.proofs.Weights.{weight, without_each}
use Rattle.dav_deeds.proofs.Bodies.{of_entry, of_body, in_file, bodies_weight, OfBody, EachBody, each_body, every_weaker}

pub every_at : {X : Type 0} (P : X → Type 0) (xs : List X) (x : X) → Every P xs → Contains xs x → P x
every_at P [] x h (k, lt, at) = absurd (omega arith)
every_at P (y ∷ ys) x h (zero, lt, at) = subst P at h.0
every_at P (y ∷ ys) x h (suc k, lt, at) = every_at P ys x h.1 (k, omega arith, at)

-- of each path there is one entry
pub at_found : (items : List Item) (x : Item) → PathsDiffer items → Contains items x → entry_at x.path items ≡ Some x.entry
at_found [] x d (k, lt, at) = absurd (omega arith)
at_found (y ∷ ys) x d (zero, lt, at) =
    head_found x.path y ys true (subst (λ (z : Item). same_path x.path z.path ≡ true) (sym at) (same_self x.path)) ∙ ap (λ (z : Item). Some z.entry) at
at_found (y ∷ ys) x d (suc k, lt, at) =
    let there : Contains ys x = (k, omega arith, at) in
    let off : same_path y.path x.path ≡ false = every_at (λ (z : Item). same_path y.path z.path ≡ false) ys x d.0 there in
    head_found x.path y ys false (by_test (same_path x.path y.path) (λ h. absurd (false≢true (sym off ∙ same_back x.path y.path h))) (λ h. h))
    ∙ at_found ys x d.1 there

changed_items : (q : PathParts) (f : Entry → Entry) (P : Item → Type 0) → ((x : Item) → P x → P (record { path = x.path; entry = f x.entry })) → (items : List Item) → Every P items → Every P (with_changed q f items)
changed_items q f P keeps [] h = subst (Every P) (sym (none_changed q f)) tt
changed_items q f P keeps (x ∷ xs) h = by (has_path q x) refl (changed_items q f P keeps xs h.1)
  where
    by : (b : Bool) → has_path q x ≡ b → Every P (with_changed q f xs) → Every P (with_changed q f (x ∷ xs))
    by true is ih = subst (Every P) (sym (head_changed q f x xs true is)) (keeps x h.0, h.1)
    by false is ih = subst (Every P) (sym (head_changed q f x xs false is)) (h.0, ih)

new_items : (q : PathParts) (e : Entry) (P : Item → Type 0) → P (record { path = q; entry = e }) → (items : List Item) → Every P items → Every P (with_new q e items)
new_items q e P new [] h = subst (Every P) (sym (none_new q e)) (new, tt)
new_items q e P new (x ∷ xs) h = by (comes_before q x.path) refl (new_items q e P new xs h.1)
  where
    by : (b : Bool) → comes_before q x.path ≡ b → Every P (with_new q e xs) → Every P (with_new q e (x ∷ xs))
    by true is ih = subst (Every P) (sym (head_new q e x xs true is)) (new, h)
    by false is ih = subst (Every P) (sym (head_new q e x xs false is)) (h.0, ih)

entry_items : (q : PathParts) (e : Entry) (P : Item → Type 0) → ((p : PathParts) → P (record { path = p; entry = e })) → (items : List Item) → Every P items → Every P (with_entry q e items)
entry_items q e P new items h = by (entry_at q items)
  where
    by : (o : Option Entry) → Every P (with_entry_for o q e items)
    by None = new_items q e P (new q) items h
    by (Some old) = changed_items q (λ _. e) P (λ x k. new x.path) items h

module _ (file : ℕ) where
  own_one : (b : BodyId) → b.file ≡ file → in_file file b ≡ 1
  own_one b same = let is : nat_eq b.file file ≡ true = eq-eqb b.file file same in rw is

  head_weight : (x : Item) (xs : List Item) → weight (of_entry (in_file file)) (x ∷ xs) ≡ of_body (in_file file) x.entry.body + weight (of_entry (in_file file)) xs
  head_weight x xs = sum_by-cons (λ (item : Item). of_entry (in_file file) item.entry) x xs

  -- an entry in the file weighs one
  weight_one : (items : List Item) (x : Item) (b : BodyId) → Contains items x → x.entry.body ≡ Some b → b.file ≡ file → 1 ≤ weight (of_entry (in_file file)) items
  weight_one [] x b (k, lt, at) is same = absurd (omega arith)
  weight_one (y ∷ ys) x b (zero, lt, at) is same =
      let own : of_body (in_file file) y.entry.body ≡ 1 = ap (λ (z : Item). of_body (in_file file) z.entry.body) at ∙ ap (of_body (in_file file)) is ∙ own_one b same in
      omega (arith, head_weight y ys)
  weight_one (y ∷ ys) x b (suc k, lt, at) is same =
      let ih : 1 ≤ weight (of_entry (in_file file)) ys = weight_one ys x b (k, omega arith, at) is same in
      omega (arith, head_weight y ys)

  abbrev NotIn : Item → Type 0
  NotIn y = (c : BodyId) → y.entry.body ≡ Some c → c.file ≢ file

  none_in : (items : List Item) → weight (of_entry (in_file file)) items ≡ 0 → Every NotIn items
  none_in [] nil = tt
  none_in (y ∷ ys) nil = (
    (λ c is same.
        let own : of_body (in_file file) y.entry.body ≡ 1 = ap (of_body (in_file file)) is ∙ own_one c same in
        absurd (omega (arith, head_weight y ys, nil, own))),
    none_in ys (omega (arith, head_weight y ys, nil)),
  )

  -- of entries with one body in the file at most all that have one are of one path
  pub one_path : (items : List Item) (x : Item) (b : BodyId) → Contains items x → x.entry.body ≡ Some b → b.file ≡ file → weight (of_entry (in_file file)) items ≤ 1
      → Every (λ (y : Item). (c : BodyId) → y.entry.body ≡ Some c → c.file ≡ file → same_path x.path y.path ≡ true) items
  one_path [] x b (k, lt, at) is same few = absurd (omega arith)
  one_path (y ∷ ys) x b (zero, lt, at) is same few =
      let own : of_body (in_file file) y.entry.body ≡ 1 = ap (λ (z : Item). of_body (in_file file) z.entry.body) at ∙ ap (of_body (in_file file)) is ∙ own_one b same in
      let rest : weight (of_entry (in_file file)) ys ≡ 0 = omega (arith, head_weight y ys, few, own) in (
        (λ c on in_it. subst (λ (z : Item). same_path x.path z.path ≡ true) (sym at) (same_self x.path)),
        every_weaker NotIn (λ (y : Item). (c : BodyId) → y.entry.body ≡ Some c → c.file ≡ file → same_path x.path y.path ≡ true) ys (λ z none c on in_it. absurd (none c on in_it)) (none_in ys rest),
      )
  one_path (y ∷ ys) x b (suc k, lt, at) is same few =
      let there : Contains ys x = (k, omega arith, at) in
      let one : 1 ≤ weight (of_entry (in_file file)) ys = weight_one ys x b there is same in (
        (λ c on in_it.
            let own : of_body (in_file file) y.entry.body ≡ 1 = ap (of_body (in_file file)) on ∙ own_one c in_it in
            absurd (omega (arith, head_weight y ys, few, own, one))),
        one_path ys x b there is same (omega (arith, head_weight y ys, few)),
      )

  none_lost : (ls : List LostItem) → sum_by (λ (l : LostItem). in_file file l.body) ls ≡ 0 → Every (λ (l : LostItem). l.body.file ≢ file) ls
  none_lost [] nil = tt
  none_lost (l ∷ ls) nil =
      let head : sum_by (λ (l : LostItem). in_file file l.body) (l ∷ ls) ≡ in_file file l.body + sum_by (λ (l : LostItem). in_file file l.body) ls = sum_by-cons (λ (l : LostItem). in_file file l.body) l ls in (
        (λ same. let own : in_file file l.body ≡ 1 = own_one l.body same in absurd (omega (arith, head, nil, own))),
        none_lost ls (omega (arith, head, nil)),
      )

not_none : {X : Type 0} (o : Option X) (x : X) → o ≡ Some x → o ≢ None
not_none o x is none = let no : Some x ≡ None = sym is ∙ none in cc

-- a job that is made of an entry
pub taken_within : (t : Table) (flight : Flight) → IsWithin t → IsOfTable flight t → IsFlightWithin flight t
taken_within t flight w of =
    let body_of : (of.item.entry.body ≡ Some flight.body) = queued_is_body of.item.entry.queued of.item.entry.body of.body_is in
    let one : 1 ≤ weight (of_entry (in_file flight.body.file)) t.entries = weight_one flight.body.file t.entries of.item flight.body of.among body_of refl in
    let both : sum_by (in_file flight.body.file) (bodies_of t) ≡ weight (of_entry (in_file flight.body.file)) t.entries + sum_by (λ (l : LostItem). in_file flight.body.file l.body) t.lost = bodies_weight (in_file flight.body.file) t in
    let few : sum_by (in_file flight.body.file) (bodies_of t) ≤ 1 = w.files_differ flight.body.file in
    let known : EachBody (λ (b : BodyId). b.file < t.next_file) t.entries t.lost = each_body (λ (b : BodyId). b.file < t.next_file) t w.files_known in
    let begun : EachBody (λ (b : BodyId). 2 ≤ b.file) t.entries t.lost = each_body (λ (b : BodyId). 2 ≤ b.file) t w.files_begin in
    record {
      bare = subst IsBare of.path_is (every_at (λ (x : Item). IsBare x.path) t.entries of.item w.in_order.paths of.among);
      queued = not_none (queued_at flight.path t.entries) flight.body
          (subst (λ (p : PathParts). queued_at p t.entries ≡ Some flight.body) of.path_is (ap (option_and_then queued_body) (at_found t.entries of.item w.in_order.differ of.among) ∙ of.body_is));
      file_begins = every_at (λ (x : Item). OfBody (λ (b : BodyId). 2 ≤ b.file) x.entry) t.entries of.item begun.kept of.among flight.body body_of;
      file_known = every_at (λ (x : Item). OfBody (λ (b : BodyId). b.file < t.next_file) x.entry) t.entries of.item known.kept of.among flight.body body_of;
      owned = every_weaker (λ (y : Item). (c : BodyId) → y.entry.body ≡ Some c → c.file ≡ flight.body.file → same_path of.item.path y.path ≡ true) (IsOwn flight) t.entries
          (λ y own. record { own = λ c on in_it. subst (λ (p : PathParts). same_path p y.path ≡ true) of.path_is (own c on in_it) })
          (one_path flight.body.file t.entries of.item flight.body of.among body_of refl (omega arith));
      not_lost = none_lost flight.body.file t.lost (omega arith);
    }
  where
    queued_is_body : (q : Option Waiting) (o : Option BodyId) → waiting_body q o ≡ Some flight.body → o ≡ Some flight.body
    queued_is_body None o is = cc
    queued_is_body (Some w) o is = is

-- the job stays where bytes wait otherwise
pub waited_flight : (t : Table) (w : Option Wait) (flight : Flight) → IsFlightWithin flight t → IsFlightWithin flight (waited t w)
waited_flight t None flight h = h
waited_flight t (Some w) flight h = record {
  bare = h.bare;
  queued = λ none. h.queued (sym (waited_queued flight.path t (Some w)) ∙ none);
  file_begins = h.file_begins;
  file_known = h.file_known;
  owned = changed_items w.path (waiting_so w.waiting) (IsOwn flight) (λ x own. record { own = own.own }) t.entries h.owned;
  not_lost = h.not_lost;
}

-- where a path is closed
pub closed_flight : (t : Table) (q : PathParts) (body : BodyId) (flight : Flight) → body.file ≡ t.next_file → IsFlightWithin flight t → IsFlightWithin flight (replay t (Closed (bare q) body))
closed_flight t q body flight file h = record {
  bare = h.bare;
  queued = by_test (same_path flight.path q)
      (λ is. not_none (queued_at flight.path (replay t (Closed (bare q) body)).entries) body (closed_here flight.path q body t is))
      (λ off none. h.queued (sym (closed_other flight.path q body t off) ∙ none));
  file_begins = h.file_begins;
  file_known = omega (arith, h.file_known);
  owned = entry_items (bare q) (closed_entry body (t.records + 1) (entry_at (bare q) t.entries)) (IsOwn flight)
      (λ p. record { own = λ c on in_it. let same : body ≡ c = same_some body c on in absurd (omega (arith, ap (λ (b : BodyId). b.file) same, in_it, file, h.file_known)) }) t.entries h.owned;
  not_lost = h.not_lost;
}
  where
    same_some : (a b : BodyId) → Some a ≡ Some b → a ≡ b
    same_some a b is = cc

-- and where others are forgotten
pub forgot_flight : (t : Table) (q : PathParts) (locks below : Bool) (flight : Flight) → queued_with q below t.entries ≡ None → IsFlightWithin flight t → IsFlightWithin flight (replay t (Forgot q locks below))
forgot_flight t q locks below flight none h = record {
  bare = h.bare;
  queued = λ gone. h.queued (sym (forgot_queued flight.path q locks below t none) ∙ gone);
  file_begins = h.file_begins;
  file_known = omega (arith, h.file_known);
  owned = without_each q below (IsOwn flight) t.entries h.owned;
  not_lost = h.not_lost;
}
