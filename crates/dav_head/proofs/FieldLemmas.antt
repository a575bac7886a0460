-- The tests of a name and of a value agree with what `http_header` refuses.
use Rattle.std.proofs.Common.{◌≡◌, ℕ, Bool, true, false, List, length, refl, IsTrue, arith}
use Rattle.std.specs.List.{list_all}
use Rattle.std.proofs.lemmas.Bool.{and_parts, ltb-true, leb-true}
use Rattle.std.proofs.lemmas.Bool.Decides.{Decides-by_and, nat_tests}
use Rattle.http_header.specs.Token.{AllPass, is_token_byte, is_value_byte}
use Rattle.http_header.specs.FieldName.{IsFieldName}
use Rattle.http_header.specs.FieldValue.{IsFieldValue}
use Rattle.http_header.proofs.TokenLemmas.{AllPass-from_test}
use Rattle.dav_head.specs.Fields.{is_name, is_value}

test-from_AllPass : (test : ℕ → Bool) (bytes : List ℕ) → AllPass test bytes → list_all test bytes ≡ true
test-from_AllPass test bytes =
    (Decides-by_and test (λ b. IsTrue (test b)) (list_all test) (λ b. (λ h. h, λ h. h)) refl (λ _ _. refl) bytes).1

false-unless : (b : Bool) → (b ≡ true → ⊥) → b ≡ false
false-unless true h = absurd (h refl)
false-unless false h = refl

pub is_value_no : (b : List ℕ) → (IsFieldValue b → ⊥) → is_value b ≡ false
is_value_no b h = false-unless (is_value b) (λ e. h (AllPass-from_test is_value_byte b e))

pub is_value_yes : (b : List ℕ) → ((IsFieldValue b → ⊥) → ⊥) → is_value b ≡ true
is_value_yes b h =
    elim (is_value b) as (λ v. is_value b ≡ v → is_value b ≡ true) [
      | true ↦ λ e. e
      | false ↦ λ e. absurd (h (λ p. let q = test-from_AllPass is_value_byte b p in cc))
    ] refl

IsFieldName-from_test : (b : List ℕ) → is_name b ≡ true → IsFieldName b
IsFieldName-from_test b e =
    let p = and_parts _ _ e in
    let q = and_parts _ _ p.0 in
    ((ltb-true 0 (length b) q.0, AllPass-from_test is_token_byte b q.1), leb-true (length b) 65535 p.1)

test-from_IsFieldName : (b : List ℕ) → IsFieldName b → is_name b ≡ true
test-from_IsFieldName b h = let e = test-from_AllPass is_token_byte b h.0.1 in grind (arith, nat_tests, e, h.0.0, h.1)

pub is_name_no : (b : List ℕ) → (IsFieldName b → ⊥) → is_name b ≡ false
is_name_no b h = false-unless (is_name b) (λ e. h (IsFieldName-from_test b e))

pub is_name_yes : (b : List ℕ) → ((IsFieldName b → ⊥) → ⊥) → is_name b ≡ true
is_name_yes b h =
    elim (is_name b) as (λ v. is_name b ≡ v → is_name b ≡ true) [
      | true ↦ λ e. e
      | false ↦ λ e. absurd (h (λ p. let q = test-from_IsFieldName b p in cc))
    ] refl
