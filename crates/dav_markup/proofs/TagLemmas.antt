-- One attribute more.
use Rattle.std.proofs.Common.{◌≡◌, ℕ, Bool, true, false, ◌&&◌, ◌||◌, List, [], ◌∷◌, ◌++◌, refl, ap, sym, ◌∙◌, ◌+◌, length, length-append, arith, append_assoc, Some, None}
use Rattle.std.specs.Prelude.{is_some}
use Rattle.std.specs.List.{list_all}
use Rattle.std.proofs.lemmas.List.Folds.{list_all-append}
use Rattle.dav_doc.specs.Names.{Attribute, Binding, prefix_of, lookup, declares, declare_by, declared, is_bound, value_of}
use Rattle.dav_doc.specs.Document as document
use Rattle.dav_doc.specs.Machine.{with_attribute}
use Rattle.dav_markup.specs.Name.{name_in}
use Rattle.dav_markup.specs.Scope.{binding_in, bindings_in, Fits}
use Rattle.dav_markup.specs.declared.scope.Binding.{Binding as CodeBinding}
use Rattle.dav_markup.specs.declared.scope.Tag.{Tag}

declared_append : (xs ys : List Attribute) (scope : List Binding) → declared (xs ++ ys) scope ≡ declared xs (declared ys scope)
declared_append [] ys scope = refl
declared_append (x ∷ xs) ys scope = ap (declare_by (declares x.name) (value_of x)) (declared_append xs ys scope)

bindings_append : (xs ys : List CodeBinding) → bindings_in (xs ++ ys) ≡ bindings_in xs ++ bindings_in ys
bindings_append [] ys = refl
bindings_append (x ∷ xs) ys = ap (λ z. binding_in x ∷ z) (bindings_append xs ys)

and_true : (x : Bool) → x && true ≡ x
and_true true = refl
and_true false = refl

one_declared : (old new : Tag) (t : document.Tag) (a : Attribute) (b : CodeBinding) → length old.bindings.items + length old.prefixes.items ≡ length t.attributes
    → length new.bindings.items ≡ length (old.bindings.items ++ (b ∷ [])) → length new.prefixes.items ≡ length old.prefixes.items
    → length new.bindings.items + length new.prefixes.items ≡ length (with_attribute t a).attributes
one_declared old new t a b h e p = omega (arith, length-append old.bindings.items (b ∷ []), length-append t.attributes (a ∷ []))

one_used : (old new : Tag) (t : document.Tag) (a : Attribute) (q : List ℕ) → length old.bindings.items + length old.prefixes.items ≡ length t.attributes
    → length new.bindings.items ≡ length old.bindings.items → length new.prefixes.items ≡ length (old.prefixes.items ++ (q ∷ []))
    → length new.bindings.items + length new.prefixes.items ≡ length (with_attribute t a).attributes
one_used old new t a q h e p = omega (arith, length-append old.prefixes.items (q ∷ []), length-append t.attributes (a ∷ []))

-- the attribute declares this prefix
pub declares_more : (old new : Tag) (t : document.Tag) (a : Attribute) (b : CodeBinding) → Fits old t → declares a.name ≡ Some b.prefix → b.ns ≡ value_of a
    → new.name ≡ old.name → new.bindings.items ≡ old.bindings.items ++ (b ∷ []) → new.prefixes.items ≡ old.prefixes.items → Fits new (with_attribute t a)
declares_more old new t a b fits d v n e p = record {
  name = ap name_in n ∙ fits.name;
  count = one_declared old new t a b fits.count (ap length e) (ap length p);
  declares = λ scope.
      ap (λ z. bindings_in z ++ scope) e ∙ ap (λ z. z ++ scope) (bindings_append old.bindings.items (b ∷ []))
      ∙ append_assoc (bindings_in old.bindings.items) (binding_in b ∷ []) scope ∙ fits.declares (binding_in b ∷ scope)
      ∙ ap (declared t.attributes) (ap (λ z. record { prefix = b.prefix; ns = z } ∷ scope) v ∙ ap (λ o. declare_by o (value_of a) scope) (sym d))
      ∙ sym (declared_append t.attributes (a ∷ []) scope);
  bound = λ scope.
      let one : list_all (is_bound scope) (a ∷ []) ≡ true = ap (λ o. (is_some o || is_some (lookup scope (prefix_of a.name))) && true) d in
      ap (list_all (λ q. is_some (lookup scope q))) p ∙ fits.bound scope
      ∙ sym (list_all-append (is_bound scope) t.attributes (a ∷ []) ∙ ap (λ z. list_all (is_bound scope) t.attributes && z) one ∙ and_true (list_all (is_bound scope) t.attributes));
}

-- the attribute has this prefix
pub uses_more : (old new : Tag) (t : document.Tag) (a : Attribute) (q : List ℕ) → Fits old t → declares a.name ≡ None → q ≡ prefix_of a.name
    → new.name ≡ old.name → new.bindings.items ≡ old.bindings.items → new.prefixes.items ≡ old.prefixes.items ++ (q ∷ []) → Fits new (with_attribute t a)
uses_more old new t a q fits d v n e p = record {
  name = ap name_in n ∙ fits.name;
  count = one_used old new t a q fits.count (ap length e) (ap length p);
  declares = λ scope.
      ap (λ z. bindings_in z ++ scope) e ∙ fits.declares scope ∙ ap (λ o. declared t.attributes (declare_by o (value_of a) scope)) (sym d)
      ∙ sym (declared_append t.attributes (a ∷ []) scope);
  bound = λ scope.
      let has : List ℕ → Bool = λ r. is_some (lookup scope r) in
      let one : list_all has (q ∷ []) ≡ list_all (is_bound scope) (a ∷ []) =
      ap (λ z. has z && true) v ∙ ap (λ o. (is_some o || has (prefix_of a.name)) && true) (sym d) in
      ap (list_all has) p ∙ list_all-append has old.prefixes.items (q ∷ []) ∙ ap (λ z. z && list_all has (q ∷ [])) (fits.bound scope)
      ∙ ap (λ z. list_all (is_bound scope) t.attributes && z) one ∙ sym (list_all-append (is_bound scope) t.attributes (a ∷ []));
}
