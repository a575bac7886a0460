-- How the text of a path is written.
use Rattle.std.proofs.Common.{◌≡◌, ℕ, suc, zero, ◌+◌, ◌-◌, ◌/◌, ◌%◌, ◌<◌, List, [], ◌∷◌, ◌++◌, length, set, refl, sym, ap, ◌∙◌, arith, length-append, append_assoc}
use Rattle.std.proofs.lemmas.Nat.{be_bytes_2}
use Rattle.dav_index.specs.Records.{two_bytes}
use Rattle.dav_index.proofs.FieldLemmas.{AreBytes}

two_small : (a b : ℕ) → a < 256 → b < 256 → AreBytes (a ∷ b ∷ [])
two_small a b high low zero = high
two_small a b high low (suc zero) = low
two_small a b high low (suc (suc i)) = omega arith

pub two_written : (n : ℕ) → n < 65536 → two_bytes n ≡ n / 256 ∷ n % 256 ∷ []
unfolding two_bytes
two_written n fits = be_bytes_2 (n / 256 ∷ n % 256 ∷ []) n refl (two_small (n / 256) (n % 256) (omega arith) (omega arith)) (omega arith)

put_two : (old text : List ℕ) (x y a b : ℕ) → set (set (old ++ x ∷ y ∷ text) (length old) a) (suc (length old)) b ≡ old ++ a ∷ b ∷ text
put_two [] text x y a b = refl
put_two (o ∷ old) text x y a b = ap (λ (t : List ℕ). o ∷ t) (put_two old text x y a b)

-- two bytes behind the old ones, then the text, and then its length in place of the two
pub length_put : (old text one two three : List ℕ) (at len : ℕ) → at ≡ length old → one ≡ old ++ 0 ∷ [] → two ≡ one ++ 0 ∷ [] → three ≡ two ++ text → len ≡ length three
    → length text < 65536 → set (set three at ((len - (at + 2)) / 256)) (at + 1) ((len - (at + 2)) % 256) ≡ old ++ (two_bytes (length text) ++ text)
length_put old text one two three at len place first second third size fits =
    let whole : three ≡ old ++ 0 ∷ 0 ∷ text =
    third ∙ ap (λ t. t ++ text) (second ∙ ap (λ t. t ++ 0 ∷ []) first) ∙ ap (λ t. t ++ text) (append_assoc old (0 ∷ []) (0 ∷ [])) ∙ append_assoc old (0 ∷ 0 ∷ []) text in
    let long : len - (at + 2) ≡ length text = omega (arith, size, ap length whole, length-append old (0 ∷ 0 ∷ text), place) in
    let next : at + 1 ≡ suc (length old) = omega arith in
    ap (λ n. set (set three at (n / 256)) (at + 1) (n % 256)) long
    ∙ ap (λ t. set (set t at (length text / 256)) (at + 1) (length text % 256)) whole
    ∙ ap (λ i. set (set (old ++ 0 ∷ 0 ∷ text) i (length text / 256)) (at + 1) (length text % 256)) place
    ∙ ap (λ i. set (set (old ++ 0 ∷ 0 ∷ text) (length old) (length text / 256)) i (length text % 256)) next
    ∙ put_two old text 0 0 (length text / 256) (length text % 256)
    ∙ ap (λ t. old ++ (t ++ text)) (sym (two_written (length text) fits))
