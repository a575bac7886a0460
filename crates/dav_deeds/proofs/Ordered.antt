-- A new entry is put in its order.
use Rattle.std.proofs.Common.{◌≡◌, Bool, true, false, List, [], ◌∷◌, Some, None, refl, sym, ◌∙◌, ap, subst}
use Rattle.std.specs.declared.cmp.Ordering.{Ordering}
use Rattle.std.specs.declared.cmp.Ordering.TheVariants.{Less, Equal, Greater}
use Rattle.std.specs.Ordering.{is_lt, nat_cmp, ordering_reverse}
use Rattle.std.specs.Cmp.Lexicographic.{slice_cmp}
use Rattle.std.proofs.lemmas.Bool.{false≢true}
use Rattle.std.proofs.lemmas.Cmp.{nat_list_cmp_total}
use Rattle.dav_text.specs.Path.{PathParts}
use Rattle.dav_index.specs.Item.{Item}
use Rattle.dav_index.specs.Items.{Every, key_of, has_path, same_path, comes_before, IsOrdered, PathsDiffer, IsMap, entry_at, with_new}
use Rattle.dav_index.specs.Records.{IsBare}
use Rattle.dav_index.specs.declared.entry.Entry.{Entry}
use Rattle.dav_deeds.proofs.Paths.{by_test, not_back}
use Rattle.dav_index.proofs.HeadLemmas.{head_found, head_new, none_new}
use Rattle.dav_deeds.proofs.Bodies.{every_weaker}

is_less : (o : Ordering) → is_lt o ≡ true → o ≡ Less
is_less Less h = refl
is_less Equal h = absurd (false≢true h)
is_less Greater h = absurd (false≢true h)

not_both : (o p : Ordering) → o ≡ ordering_reverse p → is_lt o ≡ true → is_lt p ≡ false
not_both o Less back h = absurd (false≢true (sym (ap is_lt back) ∙ h))
not_both o Equal back h = refl
not_both o Greater back h = refl

-- what comes before another doesn't come behind it
one_way : (p q : PathParts) → comes_before p q ≡ true → comes_before q p ≡ false
one_way p q h = not_both (slice_cmp nat_cmp (key_of p) (key_of q)) (slice_cmp nat_cmp (key_of q) (key_of p)) (nat_list_cmp_total.antisymm (key_of p) (key_of q)) h

through : (p q r : PathParts) → comes_before p q ≡ true → comes_before q r ≡ true → comes_before p r ≡ true
through p q r h k =
    ap is_lt (nat_list_cmp_total.trans (key_of p) (key_of q) (key_of r) (is_less (slice_cmp nat_cmp (key_of p) (key_of q)) h) (is_less (slice_cmp nat_cmp (key_of q) (key_of r)) k))

-- what doesn't come before one that the path comes before doesn't come before the path
stays_behind : (q p y : PathParts) → comes_before q p ≡ true → comes_before y p ≡ false → comes_before y q ≡ false
stays_behind q p y h k = by_test (comes_before y q) (λ g. absurd (false≢true (sym k ∙ through y q p g h))) (λ g. g)

new_paths : (q : PathParts) (e : Entry) (R : PathParts → Type 0) (items : List Item) → R q → Every (λ (item : Item). R item.path) items → Every (λ (item : Item). R item.path) (with_new q e items)
new_paths q e R [] new h = subst (Every (λ (item : Item). R item.path)) (sym (none_new q e)) (new, tt)
new_paths q e R (x ∷ xs) new h = by (comes_before q x.path) refl (new_paths q e R xs new h.1)
  where
    by : (b : Bool) → comes_before q x.path ≡ b → Every (λ (item : Item). R item.path) (with_new q e xs) → Every (λ (item : Item). R item.path) (with_new q e (x ∷ xs))
    by true is ih = subst (Every (λ (item : Item). R item.path)) (sym (head_new q e x xs true is)) (new, h)
    by false is ih = subst (Every (λ (item : Item). R item.path)) (sym (head_new q e x xs false is)) (h.0, ih)

-- a path without an entry is that of none
none_is : (q : PathParts) (items : List Item) → entry_at q items ≡ None → Every (λ (item : Item). same_path q item.path ≡ false) items
none_is q [] none = tt
none_is q (x ∷ xs) none = by (has_path q x) refl (λ k. none_is q xs k)
  where
    by : (b : Bool) → has_path q x ≡ b → (entry_at q xs ≡ None → Every (λ (item : Item). same_path q item.path ≡ false) xs) → Every (λ (item : Item). same_path q item.path ≡ false) (x ∷ xs)
    by true is ih = let no : Some x.entry ≡ None = sym (head_found q x xs true is) ∙ none in cc
    by false is ih = (is, ih (sym (head_found q x xs false is) ∙ none))

new_map : (q : PathParts) (e : Entry) (items : List Item) → Every (λ (item : Item). same_path q item.path ≡ false) items → IsOrdered items → PathsDiffer items → IsOrdered (with_new q e items) × PathsDiffer (with_new q e items)
new_map q e [] none o d = subst (λ (l : List Item). IsOrdered l × PathsDiffer l) (sym (none_new q e)) ((tt, tt), (tt, tt))
new_map q e (x ∷ xs) none o d = by (comes_before q x.path) refl (new_map q e xs none.1 o.1 d.1)
  where
    by : (b : Bool) → comes_before q x.path ≡ b → IsOrdered (with_new q e xs) × PathsDiffer (with_new q e xs) → IsOrdered (with_new q e (x ∷ xs)) × PathsDiffer (with_new q e (x ∷ xs))
    by true is ih = subst (λ (l : List Item). IsOrdered l × PathsDiffer l) (sym (head_new q e x xs true is))
        (((one_way q x.path is, every_weaker (λ (y : Item). comes_before y.path x.path ≡ false) (λ (y : Item). comes_before y.path q ≡ false) xs (λ y k. stays_behind q x.path y.path is k) o.0), o), (none, d))
    by false is ih = subst (λ (l : List Item). IsOrdered l × PathsDiffer l) (sym (head_new q e x xs false is))
        ((new_paths q e (λ p. comes_before p x.path ≡ false) xs is o.0, ih.0), (new_paths q e (λ p. same_path x.path p ≡ false) xs (not_back q x.path none.0) d.0, ih.1))

pub new_is_map : (q : PathParts) (e : Entry) (items : List Item) → IsBare q → entry_at q items ≡ None → IsMap items → IsMap (with_new q e items)
new_is_map q e items bare none m =
    let both : IsOrdered (with_new q e items) × PathsDiffer (with_new q e items) = new_map q e items (none_is q items none) m.ordered m.differ in
    record { ordered = both.0; differ = both.1; paths = new_paths q e IsBare items bare m.paths }
