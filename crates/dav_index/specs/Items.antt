-- The entries of a table: a finite map from the texts of paths, as the list in the order of these texts.
use Rattle.std.specs.Prelude.{◌≡◌, ℕ, Bool, false, not, ◌&&◌, ◌||◌, List, [], ◌∷◌, length, take, filter, Option, Some, None, if◌then◌else◌, nat_eq, nat_lt}
use Rattle.std.specs.List.{AllByRecursion}
use Rattle.std.specs.Ordering.{nat_cmp, is_lt}
use Rattle.std.specs.Cmp.Lexicographic.{pointwise, slice_cmp}
use Rattle.dav_text.specs.Path.{PathParts, escaped_parts}
use Rattle.dav_index.specs.Item.{Item}
use Rattle.dav_index.specs.Records.{IsBare}
use Rattle.dav_index.specs.declared.entry.Entry.{Entry}

-- each element has the fact
abbrev pub Every : {X : Type 0} → (X → Type 0) → List X → Type 0
Every P xs = AllByRecursion P xs

-- the text of a path without a slash at its end
unfoldable pub key_of : PathParts → List ℕ
key_of path = escaped_parts path.segments false

-- whether two lists of segments are the same
abbrev pub same_segments : List (List ℕ) → List (List ℕ) → Bool
same_segments a b = pointwise (pointwise nat_eq) a b

-- whether two paths are the same, a slash at their end aside
abbrev pub same_path : PathParts → PathParts → Bool
same_path a b = same_segments a.segments b.segments

-- whether the path stands strictly below the top
abbrev pub is_below : PathParts → PathParts → Bool
is_below top path =
    nat_lt (length top.segments) (length path.segments) && same_segments (take (length top.segments) path.segments) top.segments

-- whether the text of the one path comes before that of the other
abbrev pub comes_before : PathParts → PathParts → Bool
comes_before a b = is_lt (slice_cmp nat_cmp (key_of a) (key_of b))

abbrev pub has_path : PathParts → Item → Bool
has_path path item = same_path path item.path

abbrev pub is_item_below : PathParts → Item → Bool
is_item_below top item = is_below top item.path

-- no path comes before an earlier one
abbrev pub IsOrdered : List Item → Type 0
IsOrdered [] = Unit {0}
IsOrdered (item ∷ items) = Every (λ (later : Item). comes_before later.path item.path ≡ false) items × IsOrdered items

-- no two paths are the same
abbrev pub PathsDiffer : List Item → Type 0
PathsDiffer [] = Unit {0}
PathsDiffer (item ∷ items) = Every (λ (later : Item). has_path item.path later ≡ false) items × PathsDiffer items

-- what the entries of a table are: in order, one of a path, each of a path that an entry can have
pub record IsMap (items : List Item) : Type 0 where
  pub ordered : IsOrdered items
  pub differ : PathsDiffer items
  pub paths : Every (λ (item : Item). IsBare item.path) items

-- the entry of a path
unfoldable pub entry_at : PathParts → List Item → Option Entry
entry_at path [] = None
entry_at path (item ∷ items) = if has_path path item then Some item.entry else entry_at path items

-- the entries, that of the path being changed if there is one
unfoldable pub with_changed : PathParts → (Entry → Entry) → List Item → List Item
with_changed path change [] = []
with_changed path change (item ∷ items) =
    if has_path path item then record { path = item.path; entry = change item.entry } ∷ items
    else item ∷ with_changed path change items

-- the entries with one of a path that has none, before those of later paths
unfoldable pub with_new : PathParts → Entry → List Item → List Item
with_new path entry [] = record { path = path; entry = entry } ∷ []
with_new path entry (item ∷ items) =
    if comes_before path item.path then record { path = path; entry = entry } ∷ item ∷ items
    else item ∷ with_new path entry items

-- the entries, the path having this one in the place of the one that it has, if any
abbrev pub with_entry_for : Option Entry → PathParts → Entry → List Item → List Item
with_entry_for None path entry items = with_new path entry items
with_entry_for (Some old) path entry items = with_changed path (λ _. entry) items

abbrev pub with_entry : PathParts → Entry → List Item → List Item
with_entry path entry items = with_entry_for (entry_at path items) path entry items

-- whether the entry goes with the path, or also as one below it
abbrev pub goes_with : PathParts → Bool → Item → Bool
goes_with path below item = has_path path item || (below && is_item_below path item)

-- the entries but that of the path, and but those below it where that is asked
unfoldable pub without_entry : PathParts → Bool → List Item → List Item
without_entry path below items = filter (λ item. not (goes_with path below item)) items
