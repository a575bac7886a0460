-- What each change of the entries does at their head, and where there are none.
use Rattle.std.proofs.Common.{◌≡◌, Bool, true, false, List, [], ◌∷◌, Some, None, refl, if◌then◌else◌}
use Rattle.dav_text.specs.Path.{PathParts}
use Rattle.dav_index.specs.Item.{Item}
use Rattle.dav_index.specs.Items.{has_path, comes_before, entry_at, with_changed, with_new, goes_with, without_entry}
use Rattle.dav_index.specs.declared.entry.Entry.{Entry}

pub head_found : (q : PathParts) (x : Item) (xs : List Item) (b : Bool) → has_path q x ≡ b → entry_at q (x ∷ xs) ≡ (if b then Some x.entry else entry_at q xs)
unfolding entry_at
head_found q x xs b is = rw is

pub head_changed : (q : PathParts) (f : Entry → Entry) (x : Item) (xs : List Item) (b : Bool) → has_path q x ≡ b → with_changed q f (x ∷ xs) ≡ (if b then record { path = x.path; entry = f x.entry } ∷ xs else x ∷ with_changed q f xs)
unfolding with_changed
head_changed q f x xs b is = rw is

pub head_new : (q : PathParts) (e : Entry) (x : Item) (xs : List Item) (b : Bool) → comes_before q x.path ≡ b → with_new q e (x ∷ xs) ≡ (if b then record { path = q; entry = e } ∷ x ∷ xs else x ∷ with_new q e xs)
unfolding with_new
head_new q e x xs b is = rw is

pub head_without : (q : PathParts) (below : Bool) (x : Item) (xs : List Item) (b : Bool) → goes_with q below x ≡ b → without_entry q below (x ∷ xs) ≡ (if b then without_entry q below xs else x ∷ without_entry q below xs)
unfolding without_entry
head_without q below x xs true is = rw is
head_without q below x xs false is = rw is

pub none_found : (q : PathParts) → entry_at q [] ≡ None
unfolding entry_at
none_found q = refl

pub none_changed : (q : PathParts) (f : Entry → Entry) → with_changed q f [] ≡ []
unfolding with_changed
none_changed q f = refl

pub none_new : (q : PathParts) (e : Entry) → with_new q e [] ≡ record { path = q; entry = e } ∷ []
unfolding with_new
none_new q e = refl

pub none_without : (q : PathParts) (below : Bool) → without_entry q below [] ≡ []
unfolding without_entry
none_without q below = refl
