-- A tag that is kept can stand in a field.
use Rattle.std.proofs.Common.{◌≡◌, ℕ, ◌==◌, ◌&&◌, ◌||◌, not, Bool, true, false, List, [], ◌∷◌, ◌++◌, refl, ◌∙◌, ap, arith}
use Rattle.std.specs.List.{list_all}
use Rattle.std.specs.Cmp.Derive.{both_true}
use Rattle.std.proofs.lemmas.Bool.Decides.{nat_tests}
use Rattle.dav_text.specs.Tag.{is_tag_byte, IsKept}
use Rattle.dav_frame.specs.Fields.{is_clean}

abbrev is_clean_byte : ℕ → Bool
is_clean_byte b = not (b == 13 || b == 10 || b == 0)

byte_clean : (b : ℕ) → is_tag_byte b ≡ true → is_clean_byte b ≡ true
byte_clean b is = grind (arith, nat_tests)

first_of_both : (x y : Bool) → (x && y) ≡ true → (x ≡ true) × (y ≡ true)
first_of_both true y is = (refl, is)
first_of_both false y is = let no : false ≡ true = is in cc

quoted_clean : (inner : List ℕ) → list_all is_tag_byte inner ≡ true → list_all is_clean_byte (inner ++ 34 ∷ []) ≡ true
quoted_clean [] all = refl
quoted_clean (b ∷ inner) all =
    let both = first_of_both (is_tag_byte b) (list_all is_tag_byte inner) all in
    both_true (byte_clean b both.0) (quoted_clean inner both.1)

pub tag_is_clean : (tag : List ℕ) → IsKept tag → is_clean tag ≡ true
tag_is_clean tag kept =
    let quoted = kept.strong.opaque_is in
    ap (list_all is_clean_byte) quoted.quoted ∙ quoted_clean quoted.inner quoted.bytes
