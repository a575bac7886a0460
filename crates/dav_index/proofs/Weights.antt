-- Sums over entries, and facts of each entry, after each change of the entries.
use Rattle.std.proofs.Common.{◌≡◌, ℕ, ◌+◌, ◌≤◌, Bool, true, false, List, [], ◌∷◌, length, Some, None, filter, refl, sym, ◌∙◌, ap, subst, arith, sum_by, if◌then◌else◌}
use Rattle.std.proofs.lemmas.List.Sums.{sum_by-cons}
use Rattle.dav_text.specs.Path.{PathParts}
use Rattle.dav_index.specs.Item.{Item}
use Rattle.dav_index.specs.Items.{Every, has_path, comes_before, entry_at, with_changed, with_new, goes_with, without_entry}
use Rattle.dav_index.specs.declared.entry.Entry.{Entry}
use Rattle.dav_index.proofs.HeadLemmas.{head_found, head_changed, head_new, head_without, none_found, none_changed, none_new, none_without}

-- the sum of what the entries weigh
abbrev pub weight : (Entry → ℕ) → List Item → ℕ
weight g items = sum_by (λ (item : Item). g item.entry) items

weight_head : (g : Entry → ℕ) (x : Item) (xs : List Item) → weight g (x ∷ xs) ≡ g x.entry + weight g xs
weight_head g x xs = sum_by-cons (λ (item : Item). g item.entry) x xs

-- each entry has the fact
abbrev pub EachEntry : (Entry → Type 0) → List Item → Type 0
EachEntry P items = Every (λ (item : Item). P item.entry) items

module _ (q : PathParts) where
  pub changed_weight : (f : Entry → Entry) (g : Entry → ℕ) (old : Entry) (items : List Item) → entry_at q items ≡ Some old → weight g (with_changed q f items) + g old ≡ weight g items + g (f old)
  changed_weight f g old [] is = let no : None ≡ Some old = sym (none_found q) ∙ is in cc
  changed_weight f g old (x ∷ xs) is = by (has_path q x) refl (λ at. changed_weight f g old xs at)
    where
      here : has_path q x ≡ true → x.entry ≡ old → weight g (with_changed q f (x ∷ xs)) + g old ≡ weight g (x ∷ xs) + g (f old)
      here h same =
          let left : weight g (with_changed q f (x ∷ xs)) ≡ g (f x.entry) + weight g xs = ap (weight g) (head_changed q f x xs true h) ∙ weight_head g (record { path = x.path; entry = f x.entry }) xs in
          let right : weight g (x ∷ xs) ≡ g x.entry + weight g xs = weight_head g x xs in
          let new : g (f x.entry) ≡ g (f old) = ap (λ (e : Entry). g (f e)) same in
          let was : g x.entry ≡ g old = ap g same in
          omega arith

      later : has_path q x ≡ false → weight g (with_changed q f xs) + g old ≡ weight g xs + g (f old) → weight g (with_changed q f (x ∷ xs)) + g old ≡ weight g (x ∷ xs) + g (f old)
      later h ih =
          let left : weight g (with_changed q f (x ∷ xs)) ≡ g x.entry + weight g (with_changed q f xs) = ap (weight g) (head_changed q f x xs false h) ∙ weight_head g x (with_changed q f xs) in
          let right : weight g (x ∷ xs) ≡ g x.entry + weight g xs = weight_head g x xs in
          omega arith

      by : (b : Bool) → has_path q x ≡ b → (entry_at q xs ≡ Some old → weight g (with_changed q f xs) + g old ≡ weight g xs + g (f old)) → weight g (with_changed q f (x ∷ xs)) + g old ≡ weight g (x ∷ xs) + g (f old)
      by true h ih = here h (let at : Some x.entry ≡ Some old = sym (head_found q x xs true h) ∙ is in cc)
      by false h ih = later h (ih (sym (head_found q x xs false h) ∙ is))

  pub changed_less : (f : Entry → Entry) (g : Entry → ℕ) → ((e : Entry) → g (f e) ≤ g e) → (items : List Item) → weight g (with_changed q f items) ≤ weight g items
  changed_less f g less [] = let same : weight g (with_changed q f []) ≡ weight g [] = ap (weight g) (none_changed q f) in omega arith
  changed_less f g less (x ∷ xs) = by (has_path q x) refl (changed_less f g less xs)
    where
      by : (b : Bool) → has_path q x ≡ b → weight g (with_changed q f xs) ≤ weight g xs → weight g (with_changed q f (x ∷ xs)) ≤ weight g (x ∷ xs)
      by true h ih =
          let left : weight g (with_changed q f (x ∷ xs)) ≡ g (f x.entry) + weight g xs = ap (weight g) (head_changed q f x xs true h) ∙ weight_head g (record { path = x.path; entry = f x.entry }) xs in
          let right : weight g (x ∷ xs) ≡ g x.entry + weight g xs = weight_head g x xs in
          let l : g (f x.entry) ≤ g x.entry = less x.entry in
          omega arith
      by false h ih =
          let left : weight g (with_changed q f (x ∷ xs)) ≡ g x.entry + weight g (with_changed q f xs) = ap (weight g) (head_changed q f x xs false h) ∙ weight_head g x (with_changed q f xs) in
          let right : weight g (x ∷ xs) ≡ g x.entry + weight g xs = weight_head g x xs in
          omega arith

  pub new_weight : (e : Entry) (g : Entry → ℕ) (items : List Item) → weight g (with_new q e items) ≡ g e + weight g items
  new_weight e g [] = ap (weight g) (none_new q e) ∙ weight_head g (record { path = q; entry = e }) []
  new_weight e g (x ∷ xs) = by (comes_before q x.path) refl (new_weight e g xs)
    where
      by : (b : Bool) → comes_before q x.path ≡ b → weight g (with_new q e xs) ≡ g e + weight g xs → weight g (with_new q e (x ∷ xs)) ≡ g e + weight g (x ∷ xs)
      by true h ih = ap (weight g) (head_new q e x xs true h) ∙ weight_head g (record { path = q; entry = e }) (x ∷ xs)
      by false h ih =
          let left : weight g (with_new q e (x ∷ xs)) ≡ g x.entry + weight g (with_new q e xs) = ap (weight g) (head_new q e x xs false h) ∙ weight_head g x (with_new q e xs) in
          let right : weight g (x ∷ xs) ≡ g x.entry + weight g xs = weight_head g x xs in
          omega arith

  -- what goes and what stays weigh what was there
  pub without_weight : (below : Bool) (g : Entry → ℕ) (items : List Item) → weight g (without_entry q below items) + weight g (filter (goes_with q below) items) ≡ weight g items
  without_weight below g [] = ap (λ (l : List Item). weight g l + 0) (none_without q below)
  without_weight below g (x ∷ xs) = by (goes_with q below x) refl (without_weight below g xs)
    where
      kept : (b : Bool) → goes_with q below x ≡ b → filter (goes_with q below) (x ∷ xs) ≡ (if b then x ∷ filter (goes_with q below) xs else filter (goes_with q below) xs)
      kept b h = rw h

      by : (b : Bool) → goes_with q below x ≡ b → weight g (without_entry q below xs) + weight g (filter (goes_with q below) xs) ≡ weight g xs → weight g (without_entry q below (x ∷ xs)) + weight g (filter (goes_with q below) (x ∷ xs)) ≡ weight g (x ∷ xs)
      by true h ih =
          let left : weight g (without_entry q below (x ∷ xs)) ≡ weight g (without_entry q below xs) = ap (weight g) (head_without q below x xs true h) in
          let gone : weight g (filter (goes_with q below) (x ∷ xs)) ≡ g x.entry + weight g (filter (goes_with q below) xs) = ap (weight g) (kept true h) ∙ weight_head g x (filter (goes_with q below) xs) in
          let right : weight g (x ∷ xs) ≡ g x.entry + weight g xs = weight_head g x xs in
          omega arith
      by false h ih =
          let left : weight g (without_entry q below (x ∷ xs)) ≡ g x.entry + weight g (without_entry q below xs) = ap (weight g) (head_without q below x xs false h) ∙ weight_head g x (without_entry q below xs) in
          let gone : weight g (filter (goes_with q below) (x ∷ xs)) ≡ weight g (filter (goes_with q below) xs) = ap (weight g) (kept false h) in
          let right : weight g (x ∷ xs) ≡ g x.entry + weight g xs = weight_head g x xs in
          omega arith

  -- the entry of the path is one of those that go
  pub going_weight : (g : Entry → ℕ) (old : Entry) (items : List Item) → entry_at q items ≡ Some old → g old ≤ weight g (filter (goes_with q false) items)
  going_weight g old [] is = let no : None ≡ Some old = sym (none_found q) ∙ is in cc
  going_weight g old (x ∷ xs) is = by (has_path q x) refl (λ at. going_weight g old xs at)
    where
      goes : (b : Bool) → has_path q x ≡ b → filter (goes_with q false) (x ∷ xs) ≡ (if b then x ∷ filter (goes_with q false) xs else filter (goes_with q false) xs)
      goes true h = rw h
      goes false h = rw h

      by : (b : Bool) → has_path q x ≡ b → (entry_at q xs ≡ Some old → g old ≤ weight g (filter (goes_with q false) xs)) → g old ≤ weight g (filter (goes_with q false) (x ∷ xs))
      by true h ih' =
          let at : Some x.entry ≡ Some old = sym (head_found q x xs true h) ∙ is in
          let same : x.entry ≡ old = cc in
          let was : g x.entry ≡ g old = ap g same in
          let gone : weight g (filter (goes_with q false) (x ∷ xs)) ≡ g x.entry + weight g (filter (goes_with q false) xs) = ap (weight g) (goes true h) ∙ weight_head g x (filter (goes_with q false) xs) in
          omega arith
      by false h ih' =
          let ih : g old ≤ weight g (filter (goes_with q false) xs) = ih' (sym (head_found q x xs false h) ∙ is) in
          let gone : weight g (filter (goes_with q false) (x ∷ xs)) ≡ weight g (filter (goes_with q false) xs) = ap (weight g) (goes false h) in
          omega arith

  pub changed_each : (f : Entry → Entry) (P : Entry → Type 0) → ((e : Entry) → P e → P (f e)) → (items : List Item) → EachEntry P items → EachEntry P (with_changed q f items)
  changed_each f P keeps [] h = subst (EachEntry P) (sym (none_changed q f)) tt
  changed_each f P keeps (x ∷ xs) h = by (has_path q x) refl (changed_each f P keeps xs h.1)
    where
      by : (b : Bool) → has_path q x ≡ b → EachEntry P (with_changed q f xs) → EachEntry P (with_changed q f (x ∷ xs))
      by true is ih = subst (EachEntry P) (sym (head_changed q f x xs true is)) (keeps x.entry h.0, h.1)
      by false is ih = subst (EachEntry P) (sym (head_changed q f x xs false is)) (h.0, ih)

  pub new_each : (e : Entry) (P : Entry → Type 0) → P e → (items : List Item) → EachEntry P items → EachEntry P (with_new q e items)
  new_each e P new [] h = subst (EachEntry P) (sym (none_new q e)) (new, tt)
  new_each e P new (x ∷ xs) h = by (comes_before q x.path) refl (new_each e P new xs h.1)
    where
      by : (b : Bool) → comes_before q x.path ≡ b → EachEntry P (with_new q e xs) → EachEntry P (with_new q e (x ∷ xs))
      by true is ih = subst (EachEntry P) (sym (head_new q e x xs true is)) (new, h)
      by false is ih = subst (EachEntry P) (sym (head_new q e x xs false is)) (h.0, ih)

  -- a fact of each item stays where items go
  pub without_each : (below : Bool) (P : Item → Type 0) (items : List Item) → Every P items → Every P (without_entry q below items)
  without_each below P [] h = subst (Every P) (sym (none_without q below)) tt
  without_each below P (x ∷ xs) h = by (goes_with q below x) refl (without_each below P xs h.1)
    where
      by : (b : Bool) → goes_with q below x ≡ b → Every P (without_entry q below xs) → Every P (without_entry q below (x ∷ xs))
      by true is ih = subst (Every P) (sym (head_without q below x xs true is)) ih
      by false is ih = subst (Every P) (sym (head_without q below x xs false is)) (h.0, ih)

  -- and a fact of each path where an entry is changed
  pub changed_paths : (f : Entry → Entry) (R : PathParts → Type 0) (items : List Item) → Every (λ (item : Item). R item.path) items → Every (λ (item : Item). R item.path) (with_changed q f items)
  changed_paths f R [] h = subst (Every (λ (item : Item). R item.path)) (sym (none_changed q f)) tt
  changed_paths f R (x ∷ xs) h = by (has_path q x) refl (changed_paths f R xs h.1)
    where
      by : (b : Bool) → has_path q x ≡ b → Every (λ (item : Item). R item.path) (with_changed q f xs) → Every (λ (item : Item). R item.path) (with_changed q f (x ∷ xs))
      by true is ih = subst (Every (λ (item : Item). R item.path)) (sym (head_changed q f x xs true is)) h
      by false is ih = subst (Every (λ (item : Item). R item.path)) (sym (head_changed q f x xs false is)) (h.0, ih)

-- the entry of a path has what each has
pub each_found : (q : PathParts) (P : Entry → Type 0) (items : List Item) (old : Entry) → entry_at q items ≡ Some old → EachEntry P items → P old
each_found q P [] old is h = let no : None ≡ Some old = sym (none_found q) ∙ is in cc
each_found q P (x ∷ xs) old is h = by (has_path q x) refl (λ at. each_found q P xs old at h.1)
  where
    by : (b : Bool) → has_path q x ≡ b → (entry_at q xs ≡ Some old → P old) → P old
    by true on ih = let at : Some x.entry ≡ Some old = sym (head_found q x xs true on) ∙ is in let same : x.entry ≡ old = cc in subst P same h.0
    by false off ih = ih (sym (head_found q x xs false off) ∙ is)

pub length_weight : (items : List Item) → length items ≡ weight (λ e. 1) items
length_weight [] = refl
length_weight (x ∷ xs) =
    let ih : length xs ≡ weight (λ e. 1) xs = length_weight xs in
    let head : weight (λ e. 1) (x ∷ xs) ≡ 1 + weight (λ e. 1) xs = weight_head (λ e. 1) x xs in
    omega arith
