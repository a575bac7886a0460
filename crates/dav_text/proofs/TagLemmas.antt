-- Quoted texts of entity tags.
use Rattle.std.proofs.Common.{◌≡◌, ℕ, ◌+◌, ◌<◌, Bool, true, List, [], ◌∷◌, ◌++◌, length, get_or, take, set, sym, ap, ◌∙◌, arith}
use Rattle.std.specs.List.{list_all}
use Rattle.std.proofs.lemmas.List.{same_from_push, take_more, take_more_set}
use Rattle.dav_text.specs.Tag.{IsOpaque, is_tag_byte}

pub opaque_from : (bytes rest inner : List ℕ) → bytes ≡ 34 ∷ rest → rest ≡ inner ++ 34 ∷ [] → list_all is_tag_byte inner ≡ true → IsOpaque bytes
opaque_from bytes rest inner first last all = record { inner = inner; quoted = first ∙ ap (λ (r : List ℕ). 34 ∷ r) last; bytes = all }

pub inner_of_opaque : (bytes rest inner : List ℕ) → bytes ≡ 34 ∷ rest → rest ≡ inner ++ 34 ∷ [] → IsOpaque bytes → list_all is_tag_byte inner ≡ true
inner_of_opaque bytes rest inner first last is =
    let whole : 34 ∷ (inner ++ 34 ∷ []) ≡ 34 ∷ (is.inner ++ 34 ∷ []) = sym (first ∙ ap (λ (r : List ℕ). 34 ∷ r) last) ∙ is.quoted in
    let tails : inner ++ 34 ∷ [] ≡ is.inner ++ 34 ∷ [] = cc in
    ap (list_all is_tag_byte) (same_from_push inner is.inner 34 34 tails).0 ∙ is.bytes

-- one more byte of a copy
pub copied_more : (bytes value : List ℕ) (i : ℕ) → i < length bytes → i < length value → take i bytes ≡ take i value
    → take (i + 1) (set bytes i (get_or value i 0)) ≡ take (i + 1) value
copied_more bytes value i within inside so_far =
    take_more_set bytes i (get_or value i 0) within ∙ ap (λ (l : List ℕ). l ++ get_or value i 0 ∷ []) so_far ∙ sym (take_more value i 0 inside)
