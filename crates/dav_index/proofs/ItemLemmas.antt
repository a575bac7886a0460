-- The entries of a table: what is at a path, and what stays a map.
use Rattle.std.proofs.Common.{◌≡◌, ℕ, suc, zero, ◌<◌, ◌≤◌, Bool, true, false, cond, List, [], ◌∷◌, get_or, set, Option, Some, None, refl, ap, arith}
use Rattle.std.specs.Prelude.{filter, insert}
use Rattle.dav_text.specs.Path.{PathParts}
use Rattle.dav_index.specs.Item.{Item}
use Rattle.dav_index.specs.Items.{Every, IsMap, IsOrdered, PathsDiffer, same_path, comes_before, has_path, entry_at, with_new, with_changed}
use Rattle.dav_index.specs.Places.{IsFirst, IsFirstOrEnd, NonePasses}
use Rattle.dav_index.specs.Records.{IsBare}
use Rattle.dav_index.specs.declared.entry.Entry.{Entry}
use Rattle.dav_index.proofs.PlaceLemmas.{head_fails, in_tail, none_in_tail, none_at_head, end_head_fails, end_in_tail}
use Rattle.dav_index.proofs.Segments.{stays_behind, not_both_ways, other_sym}

-- the entry, in place of another of the same path
abbrev pub in_place : Item → Entry → Item
in_place item entry = record { path = item.path; entry = entry }

pub found_at : (path : PathParts) (items : List Item) (i : ℕ) (d : Item) → IsFirst (has_path path) items i → entry_at path items ≡ Some (get_or items i d).entry
unfolding entry_at
found_at path [] i d h = absurd (let w : i < 0 = h.within in omega arith)
found_at path (x ∷ xs) zero d h = rw (h.passes x)
found_at path (x ∷ xs) (suc i) d h = rw (head_fails (has_path path) x xs i h) (found_at path xs i d (in_tail (has_path path) x xs i h))

pub nothing_at : (path : PathParts) (items : List Item) → NonePasses (has_path path) items → entry_at path items ≡ None
unfolding entry_at
nothing_at path [] h = refl
nothing_at path (x ∷ xs) h = rw (none_at_head (has_path path) x xs h) (nothing_at path xs (none_in_tail (has_path path) x xs h))

pub changed_at : (path : PathParts) (change : Entry → Entry) (items : List Item) (i : ℕ) (d : Item) → IsFirst (has_path path) items i
    → with_changed path change items ≡ set items i (in_place (get_or items i d) (change (get_or items i d).entry))
unfolding with_changed
changed_at path change [] i d h = absurd (let w : i < 0 = h.within in omega arith)
changed_at path change (x ∷ xs) zero d h = rw (h.passes x)
changed_at path change (x ∷ xs) (suc i) d h =
    rw (head_fails (has_path path) x xs i h) (ap (λ (ys : List Item). x ∷ ys) (changed_at path change xs i d (in_tail (has_path path) x xs i h)))

pub nothing_changed : (path : PathParts) (change : Entry → Entry) (items : List Item) → NonePasses (has_path path) items → with_changed path change items ≡ items
unfolding with_changed
nothing_changed path change [] h = refl
nothing_changed path change (x ∷ xs) h =
    rw (none_at_head (has_path path) x xs h) (ap (λ (ys : List Item). x ∷ ys) (nothing_changed path change xs (none_in_tail (has_path path) x xs h)))

pub inserted_at : (path : PathParts) (entry : Entry) (items : List Item) (i : ℕ) → IsFirstOrEnd (λ (item : Item). comes_before path item.path) items i
    → insert items i (record { path = path; entry = entry }) ≡ with_new path entry items
unfolding with_new
inserted_at path entry [] zero h = refl
inserted_at path entry [] (suc i) h = absurd (let w : suc i ≤ 0 = h.within in omega arith)
inserted_at path entry (x ∷ xs) zero h = rw (h.passes (omega arith) x)
inserted_at path entry (x ∷ xs) (suc i) h =
    rw (end_head_fails (λ (item : Item). comes_before path item.path) x xs i h)
    (ap (λ (ys : List Item). x ∷ ys) (inserted_at path entry xs i (end_in_tail (λ (item : Item). comes_before path item.path) x xs i h)))

some_is_not_none : (e : Entry) → ◌≡◌ {A = Option Entry} (Some e) None → ⊥
some_is_not_none e h = cc

-- a path without an entry is no path of the entries
pub all_others : (path : PathParts) (items : List Item) → entry_at path items ≡ None → Every (λ item. has_path path item ≡ false) items
unfolding entry_at
all_others path [] h = tt
all_others path (x ∷ xs) h = by (has_path path x) refl (λ e. all_others path xs (rw e at h))
  where
    by : (b : Bool) → has_path path x ≡ b → (has_path path x ≡ false → Every (λ item. has_path path item ≡ false) xs)
        → (has_path path x ≡ false) × Every (λ item. has_path path item ≡ false) xs
    by true e others = absurd (some_is_not_none x.entry (rw e at h))
    by false e others = (e, others e)

-- ---- a written entry

every_set : (P : PathParts → Type 0) (items : List Item) (i : ℕ) (d : Item) (entry : Entry) → Every (λ (item : Item). P item.path) items
    → Every (λ (item : Item). P item.path) (set items i (in_place (get_or items i d) entry))
every_set P [] i d entry h = h
every_set P (x ∷ xs) zero d entry h = h
every_set P (x ∷ xs) (suc i) d entry h = (h.0, every_set P xs i d entry h.1)

ordered_set : (items : List Item) (i : ℕ) (d : Item) (entry : Entry) → IsOrdered items → IsOrdered (set items i (in_place (get_or items i d) entry))
ordered_set [] i d entry h = h
ordered_set (x ∷ xs) zero d entry h = h
ordered_set (x ∷ xs) (suc i) d entry h = (every_set (λ p. comes_before p x.path ≡ false) xs i d entry h.0, ordered_set xs i d entry h.1)

differ_set : (items : List Item) (i : ℕ) (d : Item) (entry : Entry) → PathsDiffer items → PathsDiffer (set items i (in_place (get_or items i d) entry))
differ_set [] i d entry h = h
differ_set (x ∷ xs) zero d entry h = h
differ_set (x ∷ xs) (suc i) d entry h = (every_set (λ p. same_path x.path p ≡ false) xs i d entry h.0, differ_set xs i d entry h.1)

pub IsMap-set : (items : List Item) (i : ℕ) (d : Item) (entry : Entry) → IsMap items → IsMap (set items i (in_place (get_or items i d) entry))
IsMap-set items i d entry h = record {
  ordered = ordered_set items i d entry h.ordered;
  differ = differ_set items i d entry h.differ;
  paths = every_set IsBare items i d entry h.paths;
}

-- ---- entries that are left

pub every_filter : {X : Type 0} (P : X → Type 0) (test : X → Bool) (xs : List X) → Every P xs → Every P (filter test xs)
every_filter P test [] h = h
every_filter P test (x ∷ xs) h = by (test x) (every_filter P test xs h.1)
  where
    by : (b : Bool) → Every P (filter test xs) → Every P (cond b (x ∷ filter test xs) (filter test xs))
    by true rest = (h.0, rest)
    by false rest = rest

ordered_filter : (test : Item → Bool) (items : List Item) → IsOrdered items → IsOrdered (filter test items)
ordered_filter test [] h = h
ordered_filter test (x ∷ xs) h = by (test x) (ordered_filter test xs h.1)
  where
    by : (b : Bool) → IsOrdered (filter test xs) → IsOrdered (cond b (x ∷ filter test xs) (filter test xs))
    by true rest = (every_filter (λ (later : Item). comes_before later.path x.path ≡ false) test xs h.0, rest)
    by false rest = rest

differ_filter : (test : Item → Bool) (items : List Item) → PathsDiffer items → PathsDiffer (filter test items)
differ_filter test [] h = h
differ_filter test (x ∷ xs) h = by (test x) (differ_filter test xs h.1)
  where
    by : (b : Bool) → PathsDiffer (filter test xs) → PathsDiffer (cond b (x ∷ filter test xs) (filter test xs))
    by true rest = (every_filter (λ (later : Item). has_path x.path later ≡ false) test xs h.0, rest)
    by false rest = rest

pub IsMap-filter : (test : Item → Bool) (items : List Item) → IsMap items → IsMap (filter test items)
IsMap-filter test items h = record {
  ordered = ordered_filter test items h.ordered;
  differ = differ_filter test items h.differ;
  paths = every_filter (λ (item : Item). IsBare item.path) test items h.paths;
}

-- ---- a new entry

every_new : (P : PathParts → Type 0) (path : PathParts) (entry : Entry) (items : List Item) → P path → Every (λ (item : Item). P item.path) items
    → Every (λ (item : Item). P item.path) (with_new path entry items)
unfolding with_new
every_new P path entry [] here h = (here, tt)
every_new P path entry (x ∷ xs) here h = by (comes_before path x.path) (every_new P path entry xs here h.1)
  where
    by : (b : Bool) → Every (λ (item : Item). P item.path) (with_new path entry xs)
        → Every (λ (item : Item). P item.path) (cond b (record { path = path; entry = entry } ∷ x ∷ xs) (x ∷ with_new path entry xs))
    by true rest = (here, h)
    by false rest = (h.0, rest)

-- those behind a path stay behind an earlier one
all_behind : (path : PathParts) (x : Item) (items : List Item) → comes_before path x.path ≡ true → Every (λ (later : Item). comes_before later.path x.path ≡ false) items
    → Every (λ (later : Item). comes_before later.path path ≡ false) items
all_behind path x [] before h = h
all_behind path x (y ∷ ys) before h = (stays_behind path x.path y.path before h.0, all_behind path x ys before h.1)

ordered_new : (path : PathParts) (entry : Entry) (items : List Item) → IsOrdered items → IsOrdered (with_new path entry items)
unfolding with_new
ordered_new path entry [] h = (tt, tt)
ordered_new path entry (x ∷ xs) h = by (comes_before path x.path) refl (ordered_new path entry xs h.1)
  where
    by : (b : Bool) → comes_before path x.path ≡ b → IsOrdered (with_new path entry xs)
        → IsOrdered (cond b (record { path = path; entry = entry } ∷ x ∷ xs) (x ∷ with_new path entry xs))
    by true e rest = ((not_both_ways path x.path e, all_behind path x xs e h.0), h)
    by false e rest = (every_new (λ p. comes_before p x.path ≡ false) path entry xs e h.0, rest)

differ_new : (path : PathParts) (entry : Entry) (items : List Item) → PathsDiffer items → Every (λ item. has_path path item ≡ false) items → PathsDiffer (with_new path entry items)
unfolding with_new
differ_new path entry [] h others = (tt, tt)
differ_new path entry (x ∷ xs) h others = by (comes_before path x.path) (differ_new path entry xs h.1 others.1)
  where
    by : (b : Bool) → PathsDiffer (with_new path entry xs)
        → PathsDiffer (cond b (record { path = path; entry = entry } ∷ x ∷ xs) (x ∷ with_new path entry xs))
    by true rest = (others, h)
    by false rest = (every_new (λ p. same_path x.path p ≡ false) path entry xs (other_sym path x.path others.0) h.0, rest)

pub IsMap-with_new : (path : PathParts) (entry : Entry) (items : List Item) → IsBare path → entry_at path items ≡ None → IsMap items → IsMap (with_new path entry items)
IsMap-with_new path entry items bare absent h = record {
  ordered = ordered_new path entry items h.ordered;
  differ = differ_new path entry items h.differ (all_others path items absent);
  paths = every_new IsBare path entry items bare h.paths;
}
