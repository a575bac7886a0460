-- Folds over the elements of a field: the answer of the whole list, from one element at a time.
use Rattle.std.proofs.Common.{◌≡◌, ℕ, ◌==◌, ◌||◌, ◌&&◌, Bool, true, false, List, [], ◌∷◌, refl, ap, sym, ◌∙◌, Option, Some, None, if◌then◌else◌, codes}
use Rattle.std.specs.List.{fold, list_all, list_any, flat_map}
use Rattle.std.proofs.lemmas.List.Sums.{fold-append}
use Rattle.httparse.specs.Grammar.{trim_ows}
use Rattle.http_header.specs.FieldValue.{FieldValue}
use Rattle.dav_head.specs.Elements.{parts, is_token}
use Rattle.dav_head.specs.Lengths.{number_of, is_some_number, writes, stated_from, stated_in, with_number, with_element}
use Rattle.dav_head.specs.Codings.{transfer_in, with_coding}
use Rattle.dav_head.specs.declared.lengths.Length.{Length}
use Rattle.dav_head.specs.declared.codings.Transfer.{Transfer}

-- a fold over the values, each a fold over its parts, is one over all parts
pub fold-parts : {C : Type 0} (step : C → List ℕ → C) (from : C) (values : List FieldValue)
    → fold (λ now value. fold step now (parts value)) from values ≡ fold step from (flat_map parts values)
fold-parts step from [] = refl
fold-parts step from (v ∷ values) =
    fold-parts step (fold step from (parts v)) values ∙ sym (fold-append step from (parts v) (flat_map parts values))

fold-bad : (es : List (List ℕ)) → fold with_element Length.Bad es ≡ Length.Bad
fold-bad [] = refl
fold-bad (e ∷ es) = fold-bad es

-- after a first number, each other element must write it
same_number : (n : ℕ) (same : Bool) (es : List (List ℕ))
    → fold with_element (Length.Stated n) es ≡ (if list_all (writes n) es then Length.Stated n else Length.Bad)
    → fold with_element (if same then Length.Stated n else Length.Bad) es
    ≡ (if same && list_all (writes n) es then Length.Stated n else Length.Bad)
same_number n true es h = h
same_number n false es h = fold-bad es

one_more : (n : ℕ) (number : Option ℕ) (es : List (List ℕ))
    → fold with_element (Length.Stated n) es ≡ (if list_all (writes n) es then Length.Stated n else Length.Bad)
    → fold with_element (with_number (Length.Stated n) number) es
    ≡ (if is_some_number n number && list_all (writes n) es then Length.Stated n else Length.Bad)
one_more n None es h = fold-bad es
one_more n (Some m) es h = same_number n (n == m) es h

fold-stated : (n : ℕ) (es : List (List ℕ))
    → fold with_element (Length.Stated n) es ≡ (if list_all (writes n) es then Length.Stated n else Length.Bad)
fold-stated n [] = refl
fold-stated n (e ∷ es) = one_more n (number_of (trim_ows e)) es (fold-stated n es)

first_number : (number : Option ℕ) (es : List (List ℕ)) → fold with_element (with_number Length.Missing number) es ≡ stated_from number es
first_number None es = fold-bad es
first_number (Some n) es = fold-stated n es

pub fold-lengths : (es : List (List ℕ)) → fold with_element Length.Missing es ≡ stated_in es
fold-lengths [] = refl
fold-lengths (e ∷ es) = first_number (number_of (trim_ows e)) es

fold-other : (es : List (List ℕ)) → fold with_coding Transfer.Other es ≡ Transfer.Other
fold-other [] = refl
fold-other (e ∷ es) = fold-other es

second_coding : (first : Bool) (d : List ℕ) → with_coding (if first then Transfer.Chunked else Transfer.Other) d ≡ Transfer.Other
second_coding true d = refl
second_coding false d = refl

pub fold-codings : (es : List (List ℕ)) → fold with_coding Transfer.Missing es ≡ transfer_in es
fold-codings [] = refl
fold-codings (e ∷ []) = refl
fold-codings (e ∷ d ∷ es) =
    ap (λ t. fold with_coding t es) (second_coding (is_token (codes "chunked") e) d) ∙ fold-other es

either : (found here more : Bool) → ((found || here) || more) ≡ (found || (here || more))
either true here more = refl
either false here more = refl

none_more : (found : Bool) → found ≡ (found || false)
none_more true = refl
none_more false = refl

pub fold-any : (test : List ℕ → Bool) (found : Bool) (es : List (List ℕ))
    → fold (λ now e. now || test e) found es ≡ (found || list_any test es)
fold-any test found [] = none_more found
fold-any test found (e ∷ es) = fold-any test (found || test e) es ∙ either found (test e) (list_any test es)
