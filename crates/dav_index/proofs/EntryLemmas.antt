-- What the calls on entries leave.
use Rattle.std.proofs.Common.{◌≡◌, ℕ, Bool, true, false, List, [], ◌∷◌, get_or, set, Option, Some, None, refl, sym, ap, subst, ◌∙◌}
use Rattle.dav_text.specs.Path.{PathParts, escaped, escaped_parts}
use Rattle.dav_store.specs.declared.body_id.BodyId.{BodyId}
use Rattle.dav_index.specs.Item.{Item}
use Rattle.dav_index.specs.Items.{has_path, key_of, entry_at, with_entry, with_new, with_changed}
use Rattle.dav_index.specs.Places.{IsFirst, NonePasses}
use Rattle.dav_index.specs.Ready.{IsFresh, HasFresh, NeedsFresh}
use Rattle.dav_index.specs.Records.{IsBare}
use Rattle.dav_index.specs.Tables.{closed_entry}
use Rattle.dav_index.specs.declared.entry.Entry.{Entry}
use Rattle.dav_index.specs.declared.fresh.Fresh.{Fresh}
use Rattle.dav_index.proofs.ItemLemmas.{in_place, found_at, nothing_at, changed_at, nothing_changed}

-- the entry that was found
pub entry_read : (path : PathParts) (listed items whole : List Item) (place : ℕ) (item : Item) (old : Entry) → listed ≡ items → items ≡ whole
    → IsFirst (has_path path) listed place → item ≡ get_or items place item → old ≡ item.entry → entry_at path whole ≡ Some old
entry_read path listed items whole place item old l v first read o =
    let f : IsFirst (has_path path) whole place = subst (λ (xs : List Item). IsFirst (has_path path) xs place) (l ∙ v) first in
    let r : item ≡ get_or whole place item = read ∙ ap (λ (xs : List Item). get_or xs place item) v in
    found_at path whole place item f ∙ ap (λ (i : Item). Some i.entry) (sym r) ∙ ap (λ (e : Entry). Some e) (sym o)

pub none_read : (path : PathParts) (listed items whole : List Item) → listed ≡ items → items ≡ whole → NonePasses (has_path path) listed → entry_at path whole ≡ None
none_read path listed items whole l v none = nothing_at path whole (subst (λ (xs : List Item). NonePasses (has_path path) xs) (l ∙ v) none)

-- the entry that was found and written
pub entry_changed : (path : PathParts) (change : Entry → Entry) (listed items whole new : List Item) (place : ℕ) (item : Item) (old entry : Entry) → listed ≡ items → items ≡ whole
    → IsFirst (has_path path) listed place → item ≡ get_or items place item → old ≡ item.entry → entry ≡ change old
    → ((d : Item) → new ≡ set whole place (in_place (get_or whole place d) entry)) → new ≡ with_changed path change whole
entry_changed path change listed items whole new place item old entry l v first read o e written =
    let f : IsFirst (has_path path) whole place = subst (λ (xs : List Item). IsFirst (has_path path) xs place) (l ∙ v) first in
    let r : item ≡ get_or whole place item = read ∙ ap (λ (xs : List Item). get_or xs place item) v in
    written item ∙ ap (λ (en : Entry). set whole place (in_place (get_or whole place item) en)) (e ∙ ap change (o ∙ ap (λ (i : Item). i.entry) r))
    ∙ sym (changed_at path change whole place item f)

pub none_changed : (path : PathParts) (change : Entry → Entry) (listed items whole : List Item) → listed ≡ items → items ≡ whole → NonePasses (has_path path) listed
    → whole ≡ with_changed path change whole
none_changed path change listed items whole l v none =
    sym (nothing_changed path change whole (subst (λ (xs : List Item). NonePasses (has_path path) xs) (l ∙ v) none))

-- the entry of a path that was closed
pub closed_again : (path : PathParts) (body : BodyId) (row : ℕ) (whole new : List Item) (old entry : Entry) → entry_at path whole ≡ Some old → entry ≡ closed_entry body row (Some old)
    → new ≡ with_changed path (λ _. entry) whole → new ≡ with_entry path (closed_entry body row (entry_at path whole)) whole
closed_again path body row whole new old entry found is written =
    rw found (written ∙ ap (λ (en : Entry). with_changed path (λ _. en) whole) is)

pub closed_first : (path own : PathParts) (body : BodyId) (row : ℕ) (whole new : List Item) (entry : Entry) → entry_at path whole ≡ None → entry ≡ closed_entry body row None → own ≡ path
    → new ≡ with_new own entry whole → new ≡ with_entry path (closed_entry body row (entry_at path whole)) whole
closed_first path own body row whole new entry none is same written =
    rw none (written ∙ ap (λ (en : Entry). with_new own en whole) is ∙ ap (λ (p : PathParts). with_new p (closed_entry body row None) whole) same)

pub fresh_for : (path : PathParts) (count : ℕ) (entry : Option Entry) (given : Option Fresh) (fresh : Fresh) → NeedsFresh path count entry given → entry ≡ None → given ≡ Some fresh → IsFresh path count fresh
fresh_for path count entry given fresh needs none is =
    subst (λ (g : Option Fresh). HasFresh path count g) is (subst (λ (e : Option Entry). NeedsFresh path count e given) none needs)

pub not_given : (path : PathParts) (count : ℕ) (entry : Option Entry) (given : Option Fresh) → NeedsFresh path count entry given → entry ≡ None → given ≡ None → ⊥
not_given path count entry given needs none is =
    subst (λ (g : Option Fresh). HasFresh path count g) is (subst (λ (e : Option Entry). NeedsFresh path count e given) none needs)

pub own_fresh : (path : PathParts) (count : ℕ) (fresh : Fresh) → IsFresh path count fresh → IsFresh fresh.path count fresh
own_fresh path count fresh is = record { path_is = refl; key_is = is.key_is ∙ ap key_of (sym is.path_is); empty = is.empty; room = is.room }

pub fresh_made : (path : PathParts) (count : ℕ) (entry : Option Entry) (fresh : Fresh) → IsFresh path count fresh → NeedsFresh path count entry (Some fresh)
fresh_made path count None fresh is = is
fresh_made path count (Some entry) fresh is = tt

-- the text of a path that an entry can have is its key
pub key_of_bare : (path : PathParts) → IsBare path → escaped path ≡ key_of path
unfolding key_of
key_of_bare path bare = by path.segments path.slash bare.top_alone
  where
    by : (segments : List (List ℕ)) (slash : Bool) → (slash ≡ true → segments ≡ []) → escaped_parts segments slash ≡ escaped_parts segments false
    by [] slash alone = refl
    by (segment ∷ segments) false alone = refl
    by (segment ∷ segments) true alone = absurd (let no : segment ∷ segments ≡ [] = alone refl in cc)
