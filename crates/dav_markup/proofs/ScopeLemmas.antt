-- Look-ups from the innermost declarations on.
use Rattle.std.proofs.Common.{◌≡◌, ℕ, Bool, true, false, List, [], ◌∷◌, ◌++◌, refl, ap, sym, ◌∙◌, Option, Some, None}
use Rattle.std.specs.Prelude.{cond, bytes_eq, is_some}
use Rattle.std.specs.List.{list_all}
use Rattle.std.proofs.lemmas.List.Sums.{fold-append}
use Rattle.dav_doc.specs.Names.{Binding, prefix_of, lookup, base, declared, resolved, is_bound}
use Rattle.dav_doc.specs.Document as document
use Rattle.dav_markup.specs.Name.{name_in}
use Rattle.dav_markup.specs.Scope.{bindings_in, below, scope_in, Fits}
use Rattle.dav_markup.specs.declared.scope.Binding.{Binding as CodeBinding}
use Rattle.dav_markup.specs.declared.scope.Open.{Open}
use Rattle.dav_markup.specs.declared.scope.Tag.{Tag}

abbrev pub or_else : Option (List ℕ) → Option (List ℕ) → Option (List ℕ)
or_else (Some x) o = Some x
or_else None o = o

hit : (x : Bool) (n : List ℕ) (r f o : Option (List ℕ)) → r ≡ or_else f o → cond x (Some n) r ≡ or_else (cond x (Some n) f) o
hit true n r f o h = refl
hit false n r f o h = h

pub lookup_append : (xs scope : List Binding) (p : List ℕ) → lookup (xs ++ scope) p ≡ or_else (lookup xs p) (lookup scope p)
lookup_append [] scope p = refl
lookup_append (b ∷ xs) scope p = hit (bytes_eq b.prefix p) b.ns (lookup (xs ++ scope) p) (lookup xs p) (lookup scope p) (lookup_append xs scope p)

pub front_found : (xs scope : List Binding) (p n : List ℕ) → Some n ≡ lookup xs p → Some n ≡ lookup (xs ++ scope) p
front_found xs scope p n e = ap (λ z. or_else z (lookup scope p)) e ∙ sym (lookup_append xs scope p)

pub front_missed : (xs scope : List Binding) (p : List ℕ) (o : Option (List ℕ)) → None ≡ lookup xs p → o ≡ lookup scope p → o ≡ lookup (xs ++ scope) p
front_missed xs scope p o e f = f ∙ ap (λ z. or_else z (lookup scope p)) e ∙ sym (lookup_append xs scope p)

scope_more : (all opens : List Open) (o : Open) → all ≡ opens ++ (o ∷ []) → scope_in all ≡ bindings_in o.bindings.items ++ scope_in opens
scope_more all opens o e = ap scope_in e ∙ fold-append below base opens (o ∷ [])

pub last_found : (all opens : List Open) (o : Open) (bs : List CodeBinding) (p n : List ℕ) → all ≡ opens ++ (o ∷ []) → bs ≡ o.bindings.items → Some n ≡ lookup (bindings_in bs) p
    → Some n ≡ lookup (scope_in all) p
last_found all opens o bs p n e f g =
    front_found (bindings_in o.bindings.items) (scope_in opens) p n (g ∙ ap (λ z. lookup (bindings_in z) p) f) ∙ ap (λ z. lookup z p) (sym (scope_more all opens o e))

pub last_missed : (all opens : List Open) (o : Open) (bs : List CodeBinding) (p : List ℕ) → all ≡ opens ++ (o ∷ []) → bs ≡ o.bindings.items → None ≡ lookup (bindings_in bs) p
    → lookup (scope_in opens) p ≡ lookup (scope_in all) p
last_missed all opens o bs p e f g =
    front_missed (bindings_in o.bindings.items) (scope_in opens) p (lookup (scope_in opens) p) (g ∙ ap (λ z. lookup (bindings_in z) p) f) refl
    ∙ ap (λ z. lookup z p) (sym (scope_more all opens o e))

pub resolved_by : (scope : List Binding) (tag : Tag) (t : document.Tag) (x : Bool) (f : Option (List ℕ)) → Fits tag t
    → x ≡ list_all (λ p. is_some (lookup (bindings_in tag.bindings.items ++ scope) p)) tag.prefixes.items
    → f ≡ lookup (bindings_in tag.bindings.items ++ scope) (prefix_of (name_in tag.name))
    → cond x f None ≡ resolved scope t.name t.attributes
resolved_by scope tag t x f fits e g =
    let sc = declared t.attributes scope in
    let all : x ≡ list_all (is_bound sc) t.attributes =
    e ∙ fits.bound (bindings_in tag.bindings.items ++ scope) ∙ ap (λ z. list_all (is_bound z) t.attributes) (fits.declares scope) in
    let one : f ≡ lookup sc (prefix_of t.name) =
    g ∙ ap (λ z. lookup z (prefix_of (name_in tag.name))) (fits.declares scope) ∙ ap (λ z. lookup sc (prefix_of z)) fits.name in
    ap (λ z. cond z f None) all ∙ ap (λ z. cond (list_all (is_bound sc) t.attributes) z None) one
