-- The entry of a path after each change of the entries.
use Rattle.std.proofs.Common.{◌≡◌, Bool, true, false, ◌&&◌, List, [], ◌∷◌, Option, Some, None, refl, sym, ◌∙◌, ap}
use Rattle.std.specs.Prelude.{option_map, option_and_then, is_some}
use Rattle.std.proofs.lemmas.Bool.{false≢true}
use Rattle.dav_text.specs.Path.{PathParts}
use Rattle.dav_store.specs.declared.body_id.BodyId.{BodyId}
use Rattle.dav_index.specs.Item.{Item}
use Rattle.dav_index.specs.Items.{same_path, has_path, comes_before, entry_at, with_changed, with_new, with_entry_for, with_entry, goes_with, without_entry}
use Rattle.dav_index.specs.Tables.{queued_body, queued_at, waiting_body, waiting_so}
use Rattle.dav_index.specs.Bounds.{is_queued}
use Rattle.dav_index.specs.declared.entry.Entry.{Entry}
use Rattle.dav_index.specs.declared.entry.Waiting.{Waiting}
use Rattle.dav_deeds.specs.Refusals.{queued_with}
use Rattle.dav_deeds.proofs.Paths.{by_test, same_of, same_to, goes_at, goes_like}

-- an entry at the head, by its test
at_head : (p : PathParts) (x : Item) (xs : List Item) → has_path p x ≡ true → entry_at p (x ∷ xs) ≡ Some x.entry
unfolding entry_at
at_head p x xs is = rw is

at_rest : (p : PathParts) (x : Item) (xs : List Item) → has_path p x ≡ false → entry_at p (x ∷ xs) ≡ entry_at p xs
unfolding entry_at
at_rest p x xs is = rw is

at_none : (p : PathParts) → entry_at p [] ≡ None
unfolding entry_at
at_none p = refl

changed_here : (q : PathParts) (f : Entry → Entry) (x : Item) (xs : List Item) → has_path q x ≡ true → with_changed q f (x ∷ xs) ≡ record { path = x.path; entry = f x.entry } ∷ xs
unfolding with_changed
changed_here q f x xs is = rw is

changed_later : (q : PathParts) (f : Entry → Entry) (x : Item) (xs : List Item) → has_path q x ≡ false → with_changed q f (x ∷ xs) ≡ x ∷ with_changed q f xs
unfolding with_changed
changed_later q f x xs is = rw is

changed_none : (q : PathParts) (f : Entry → Entry) → with_changed q f [] ≡ []
unfolding with_changed
changed_none q f = refl

-- the same path has the same entry
pub entry_same : (p q : PathParts) (items : List Item) → same_path p q ≡ true → entry_at p items ≡ entry_at q items
entry_same p q [] same = at_none p ∙ sym (at_none q)
entry_same p q (x ∷ xs) same =
    by_test (same_path q x.path)
    (λ h. at_head p x xs (same_of p q x.path same ∙ h) ∙ sym (at_head q x xs h))
    (λ h. at_rest p x xs (same_of p q x.path same ∙ h) ∙ entry_same p q xs same ∙ sym (at_rest q x xs h))

pub changed_at : (p q : PathParts) (f : Entry → Entry) (items : List Item) → same_path p q ≡ true → entry_at p (with_changed q f items) ≡ option_map f (entry_at p items)
changed_at p q f [] same = ap (entry_at p) (changed_none q f) ∙ at_none p ∙ sym (ap (option_map f) (at_none p))
changed_at p q f (x ∷ xs) same =
    by_test (same_path q x.path)
    (λ h. ap (entry_at p) (changed_here q f x xs h) ∙ at_head p (record { path = x.path; entry = f x.entry }) xs (same_of p q x.path same ∙ h) ∙ sym (ap (option_map f) (at_head p x xs (same_of p q x.path same ∙ h))))
    (λ h. ap (entry_at p) (changed_later q f x xs h) ∙ at_rest p x (with_changed q f xs) (same_of p q x.path same ∙ h) ∙ changed_at p q f xs same ∙ sym (ap (option_map f) (at_rest p x xs (same_of p q x.path same ∙ h))))

pub changed_other : (p q : PathParts) (f : Entry → Entry) (items : List Item) → same_path p q ≡ false → entry_at p (with_changed q f items) ≡ entry_at p items
changed_other p q f [] other = ap (entry_at p) (changed_none q f)
changed_other p q f (x ∷ xs) other =
    by_test (same_path q x.path)
    (λ h. let off : same_path p x.path ≡ false = sym (same_to q x.path p h) ∙ other in
    ap (entry_at p) (changed_here q f x xs h) ∙ at_rest p (record { path = x.path; entry = f x.entry }) xs off ∙ sym (at_rest p x xs off))
    (λ h. ap (entry_at p) (changed_later q f x xs h) ∙ by_test (same_path p x.path)
    (λ g. at_head p x (with_changed q f xs) g ∙ sym (at_head p x xs g))
    (λ g. at_rest p x (with_changed q f xs) g ∙ changed_other p q f xs other ∙ sym (at_rest p x xs g)))

new_here : (q : PathParts) (e : Entry) (x : Item) (xs : List Item) → comes_before q x.path ≡ true → with_new q e (x ∷ xs) ≡ record { path = q; entry = e } ∷ x ∷ xs
unfolding with_new
new_here q e x xs is = rw is

new_later : (q : PathParts) (e : Entry) (x : Item) (xs : List Item) → comes_before q x.path ≡ false → with_new q e (x ∷ xs) ≡ x ∷ with_new q e xs
unfolding with_new
new_later q e x xs is = rw is

new_none : (q : PathParts) (e : Entry) → with_new q e [] ≡ record { path = q; entry = e } ∷ []
unfolding with_new
new_none q e = refl

-- a path without an entry has none at the head and none in the rest
none_head : (p : PathParts) (x : Item) (xs : List Item) → entry_at p (x ∷ xs) ≡ None → has_path p x ≡ false
none_head p x xs none = by_test (same_path p x.path) (λ h. let no : Some x.entry ≡ None = sym (at_head p x xs h) ∙ none in cc) (λ h. h)

none_rest : (p : PathParts) (x : Item) (xs : List Item) → entry_at p (x ∷ xs) ≡ None → entry_at p xs ≡ None
none_rest p x xs none = sym (at_rest p x xs (none_head p x xs none)) ∙ none

pub new_at : (p q : PathParts) (e : Entry) (items : List Item) → same_path p q ≡ true → entry_at p items ≡ None → entry_at p (with_new q e items) ≡ Some e
new_at p q e [] same none = ap (entry_at p) (new_none q e) ∙ at_head p (record { path = q; entry = e }) [] same
new_at p q e (x ∷ xs) same none =
    by_test (comes_before q x.path)
    (λ h. ap (entry_at p) (new_here q e x xs h) ∙ at_head p (record { path = q; entry = e }) (x ∷ xs) same)
    (λ h. ap (entry_at p) (new_later q e x xs h) ∙ at_rest p x (with_new q e xs) (none_head p x xs none) ∙ new_at p q e xs same (none_rest p x xs none))

pub new_other : (p q : PathParts) (e : Entry) (items : List Item) → same_path p q ≡ false → entry_at p (with_new q e items) ≡ entry_at p items
new_other p q e [] other = ap (entry_at p) (new_none q e) ∙ at_rest p (record { path = q; entry = e }) [] other
new_other p q e (x ∷ xs) other =
    by_test (comes_before q x.path)
    (λ h. ap (entry_at p) (new_here q e x xs h) ∙ at_rest p (record { path = q; entry = e }) (x ∷ xs) other)
    (λ h. ap (entry_at p) (new_later q e x xs h) ∙ by_test (same_path p x.path)
    (λ g. at_head p x (with_new q e xs) g ∙ sym (at_head p x xs g))
    (λ g. at_rest p x (with_new q e xs) g ∙ new_other p q e xs other ∙ sym (at_rest p x xs g)))

pub entry_here : (p q : PathParts) (e : Entry) (items : List Item) → same_path p q ≡ true → entry_at p (with_entry q e items) ≡ Some e
entry_here p q e items same = by (entry_at q items) refl
  where
    by : (old : Option Entry) → entry_at q items ≡ old → entry_at p (with_entry_for old q e items) ≡ Some e
    by None is = new_at p q e items same (entry_same p q items same ∙ is)
    by (Some old) is = changed_at p q (λ _. e) items same ∙ ap (option_map (λ _. e)) (entry_same p q items same ∙ is)

pub entry_other : (p q : PathParts) (e : Entry) (items : List Item) → same_path p q ≡ false → entry_at p (with_entry q e items) ≡ entry_at p items
entry_other p q e items other = by (entry_at q items)
  where
    by : (old : Option Entry) → entry_at p (with_entry_for old q e items) ≡ entry_at p items
    by None = new_other p q e items other
    by (Some old) = changed_other p q (λ _. e) items other

-- the entry that a path has is of that path
pub found_item : (p : PathParts) (items : List Item) (e : Entry) → entry_at p items ≡ Some e → (x : Item) × (has_path p x ≡ true) × (x.entry ≡ e)
found_item p [] e is = let no : None ≡ Some e = sym (at_none p) ∙ is in cc
found_item p (x ∷ xs) e is =
    by_test (same_path p x.path)
    (λ h. let at : Some x.entry ≡ Some e = sym (at_head p x xs h) ∙ is in (x, h, cc))
    (λ h. found_item p xs e (sym (at_rest p x xs h) ∙ is))

module _ (top : PathParts) (below : Bool) where
  gone_head : (x : Item) (xs : List Item) → goes_with top below x ≡ true → without_entry top below (x ∷ xs) ≡ without_entry top below xs
  unfolding without_entry
  gone_head x xs is = rw is

  kept_head : (x : Item) (xs : List Item) → goes_with top below x ≡ false → without_entry top below (x ∷ xs) ≡ x ∷ without_entry top below xs
  unfolding without_entry
  kept_head x xs is = rw is

  gone_none : without_entry top below [] ≡ []
  unfolding without_entry
  gone_none = refl

  -- a path that goes has no entry afterwards
  pub gone_at : (p : PathParts) (items : List Item) → goes_at top below p ≡ true → entry_at p (without_entry top below items) ≡ None
  gone_at p [] goes = ap (entry_at p) gone_none ∙ at_none p
  gone_at p (x ∷ xs) goes =
      by_test (goes_with top below x)
      (λ h. ap (entry_at p) (gone_head x xs h) ∙ gone_at p xs goes)
      (λ h. let off : has_path p x ≡ false = by_test (same_path p x.path) (λ g. absurd (false≢true (sym h ∙ goes_like top below p x g ∙ goes))) (λ g. g) in
      ap (entry_at p) (kept_head x xs h) ∙ at_rest p x (without_entry top below xs) off ∙ gone_at p xs goes)

  -- a path that doesn't go keeps its entry
  pub kept_at : (p : PathParts) (items : List Item) → goes_at top below p ≡ false → entry_at p (without_entry top below items) ≡ entry_at p items
  kept_at p [] stays = ap (entry_at p) gone_none
  kept_at p (x ∷ xs) stays =
      by_test (goes_with top below x)
      (λ h. let off : has_path p x ≡ false = by_test (same_path p x.path) (λ g. absurd (false≢true (sym stays ∙ sym (goes_like top below p x g) ∙ h))) (λ g. g) in
      ap (entry_at p) (gone_head x xs h) ∙ kept_at p xs stays ∙ sym (at_rest p x xs off))
      (λ h. ap (entry_at p) (kept_head x xs h) ∙ by_test (same_path p x.path)
      (λ g. at_head p x (without_entry top below xs) g ∙ sym (at_head p x xs g))
      (λ g. at_rest p x (without_entry top below xs) g ∙ kept_at p xs stays ∙ sym (at_rest p x xs g)))

  -- where nothing that goes is queued, a path that goes isn't
  unqueued : (p : PathParts) (items : List Item) → goes_at top below p ≡ true → queued_with top below items ≡ None → queued_at p items ≡ None
  unqueued p [] goes none = ap (option_and_then queued_body) (at_none p)
  unqueued p (x ∷ xs) goes none =
      by_test (is_queued x && goes_with top below x)
      (λ h. let no : Some x ≡ None = sym (find_here x xs h) ∙ none in cc)
      (λ h. by_test (same_path p x.path)
      (λ g. ap (option_and_then queued_body) (at_head p x xs g) ∙ not_queued x (sym (and_true (is_queued x)) ∙ ap (λ (b : Bool). is_queued x && b) (sym (goes_like top below p x g ∙ goes)) ∙ h))
      (λ g. ap (option_and_then queued_body) (at_rest p x xs g) ∙ unqueued p xs goes (sym (find_later x xs h) ∙ none)))
    where
      find_here : (x : Item) (xs : List Item) → (is_queued x && goes_with top below x) ≡ true → queued_with top below (x ∷ xs) ≡ Some x
      find_here x xs is = rw is

      find_later : (x : Item) (xs : List Item) → (is_queued x && goes_with top below x) ≡ false → queued_with top below (x ∷ xs) ≡ queued_with top below xs
      find_later x xs is = rw is

      and_true : (b : Bool) → (b && true) ≡ b
      and_true true = refl
      and_true false = refl

      no_body : (q : Option Waiting) (b : Option BodyId) → is_some q ≡ false → waiting_body q b ≡ None
      no_body None b is = refl
      no_body (Some w) b is = absurd (false≢true (sym is))

      not_queued : (x : Item) → is_queued x ≡ false → queued_body x.entry ≡ None
      not_queued x is = no_body x.entry.queued x.entry.body is

  pub queued_kept : (p : PathParts) (items : List Item) → queued_with top below items ≡ None → queued_at p (without_entry top below items) ≡ queued_at p items
  queued_kept p items none =
      by_test (goes_at top below p)
      (λ h. ap (option_and_then queued_body) (gone_at p items h) ∙ sym (unqueued p items h none))
      (λ h. ap (option_and_then queued_body) (kept_at p items h))

-- what waits so is queued as before
waiting_same : (w : Waiting) (q : Option Waiting) (b : Option BodyId) → waiting_body (option_map (λ _. w) q) b ≡ waiting_body q b
waiting_same w None b = refl
waiting_same w (Some old) b = refl

body_so : (w : Waiting) (e : Option Entry) → option_and_then queued_body (option_map (waiting_so w) e) ≡ option_and_then queued_body e
body_so w None = refl
body_so w (Some e) = waiting_same w e.queued e.body

pub queued_so : (p q : PathParts) (w : Waiting) (items : List Item) → queued_at p (with_changed q (waiting_so w) items) ≡ queued_at p items
queued_so p q w items =
    by_test (same_path p q)
    (λ h. ap (option_and_then queued_body) (changed_at p q (waiting_so w) items h) ∙ body_so w (entry_at p items))
    (λ h. ap (option_and_then queued_body) (changed_other p q (waiting_so w) items h))
