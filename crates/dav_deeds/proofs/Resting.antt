-- A start keeps the bounds of a table, and the bodies that it names.
use Rattle.std.proofs.Common.{◌≡◌, ◌≢◌, ℕ, ◌+◌, false, List, [], ◌∷◌, ◌++◌, length, map, Option, Some, None, is_some, refl, sym, ◌∙◌, ap, arith, if◌then◌else◌}
use Rattle.std.specs.List.{filter_map, cons_option}
use Rattle.std.proofs.lemmas.List.Sums.{sum_by-cons}
use Rattle.dav_store.specs.declared.body_id.BodyId.{BodyId}
use Rattle.dav_index.specs.Item.{Item}
use Rattle.dav_index.specs.Items.{Every, has_path, comes_before, IsOrdered, PathsDiffer}
use Rattle.dav_index.specs.Records.{IsBare}
use Rattle.dav_index.specs.Tables.{waiting_body, restarted_waiting, restarted_item, restarted}
use Rattle.dav_index.specs.Bounds.{bodies_of, len_of, IsWithin}
use Rattle.dav_index.specs.declared.entry.Entry.{Entry}
use Rattle.dav_index.specs.declared.entry.Waiting.{Waiting}
use Rattle.dav_index.specs.declared.lost.LostItem.{LostItem}
use Rattle.dav_index.specs.declared.table.Table.{Table}
use Rattle.dav_index.proofs.Weights.{weight}
use Rattle.dav_deeds.proofs.Bodies.{of_entry, OfBody}
use Rattle.dav_deeds.proofs.Within.{IsKnown, KeepsBody, queued_one, bytes_in, IsLess, less_within}

every_map : (P : Item → Type 0) → ((x : Item) → P x → P (restarted_item x)) → (items : List Item) → Every P items → Every P (map restarted_item items)
every_map P keeps [] h = tt
every_map P keeps (x ∷ xs) h = (keeps x h.0, every_map P keeps xs h.1)

ordered_again : (items : List Item) → IsOrdered items → IsOrdered (map restarted_item items)
ordered_again [] h = tt
ordered_again (x ∷ xs) h = (every_map (λ (y : Item). comes_before y.path x.path ≡ false) (λ y k. k) xs h.0, ordered_again xs h.1)

differ_again : (items : List Item) → PathsDiffer items → PathsDiffer (map restarted_item items)
differ_again [] h = tt
differ_again (x ∷ xs) h = (every_map (λ (y : Item). has_path x.path y ≡ false) (λ y k. k) xs h.0, differ_again xs h.1)

length_again : (items : List Item) → length (map restarted_item items) ≡ length items
length_again [] = refl
length_again (x ∷ xs) = let ih : length (map restarted_item xs) ≡ length xs = length_again xs in omega arith

weight_again : (g : Entry → ℕ) → ((x : Item) → g (restarted_item x).entry ≡ g x.entry) → (items : List Item) → weight g (map restarted_item items) ≡ weight g items
weight_again g same [] = refl
weight_again g same (x ∷ xs) =
    sum_by-cons (λ (item : Item). g item.entry) (restarted_item x) (map restarted_item xs)
    ∙ ap (λ n. n + weight g (map restarted_item xs)) (same x) ∙ ap (λ n. g x.entry + n) (weight_again g same xs)
    ∙ sym (sum_by-cons (λ (item : Item). g item.entry) x xs)

keeps_body : (q : Option Waiting) (b : Option BodyId) → (q ≢ None → b ≢ None) → restarted_waiting q ≢ None → b ≢ None
keeps_body None b h k = absurd (k refl)
keeps_body (Some w) b h k = h (λ e. cc)

one_again : (q : Option Waiting) → ◌≡◌ {A = ℕ} (if is_some (restarted_waiting q) then 1 else 0) (if is_some q then 1 else 0)
one_again None = refl
one_again (Some w) = refl

len_again : (q : Option Waiting) (b : Option BodyId) → len_of (waiting_body (restarted_waiting q) b) ≡ len_of (waiting_body q b)
len_again None b = refl
len_again (Some w) b = refl

rests : (items : List Item) → IsLess items (map restarted_item items)
rests items = record {
  in_order = λ m. record {
    ordered = ordered_again items m.ordered;
    differ = differ_again items m.differ;
    paths = every_map (λ (x : Item). IsBare x.path) (λ x k. k) items m.paths;
  };
  known = every_map (λ (x : Item). IsKnown x.entry) (λ x k. k) items;
  bodies = every_map (λ (x : Item). KeepsBody x.entry) (λ x k. keeps_body x.entry.queued x.entry.body k) items;
  each = λ Q. every_map (λ (x : Item). OfBody Q x.entry) (λ x k. k) items;
  count = omega (arith, length_again items);
  queued = omega (arith, weight_again queued_one (λ x. one_again x.entry.queued) items);
  bytes = omega (arith, weight_again bytes_in (λ x. len_again x.entry.queued x.entry.body) items);
  files = λ c. omega (arith, weight_again (of_entry c) (λ x. refl) items);
}

pub rest_within : (t : Table) → IsWithin t → IsWithin (restarted t)
rest_within t w = less_within t (map restarted_item t.entries) t.records (rests t.entries) w

bodies_again : (items : List Item) → filter_map (λ (item : Item). item.entry.body) (map restarted_item items) ≡ filter_map (λ (item : Item). item.entry.body) items
bodies_again [] = refl
bodies_again (x ∷ xs) = ap (cons_option x.entry.body) (bodies_again xs)

pub rest_bodies : (t : Table) → bodies_of (restarted t) ≡ bodies_of t
rest_bodies t = ap (λ (bs : List BodyId). bs ++ map (λ (item : LostItem). item.body) t.lost) (bodies_again t.entries)
