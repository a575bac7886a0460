-- The kinds of bytes, and small facts on lists.
use Rattle.std.proofs.Common.{◌≡◌, ℕ, Bool, true, false, ◌&&◌, List, [], ◌∷◌, ◌++◌, refl, arith, subst, append_assoc}
use Rattle.std.specs.Prelude.{◌==◌, cond, bytes_eq}
use Rattle.std.specs.List.{list_all}
use Rattle.std.proofs.lemmas.Bool.{eqb-true}
use Rattle.std.proofs.lemmas.Bool.Decides.{nat_tests}
use Rattle.std.proofs.lemmas.Slice.Eq.{bytes_eq-Decides}
use Rattle.std.proofs.lemmas.List.Folds.{list_all-append}
use Rattle.dav_doc.specs.Bytes.{Kind, Less, Ampersand, Blank, Greater, DoubleQuote, SingleQuote, Equals, Slash, Colon, Exclamation, Letter, Digit, Other, kind, is_blank, is_letter, is_digit, Quote, Double, Single, quote_byte, Ends, Refers, sort}

-- the byte of a kind of one byte
abbrev pub Shows : ℕ → Kind → Type 0
Shows b Less = b ≡ 60
Shows b Ampersand = b ≡ 38
Shows b Blank = Unit {0}
Shows b Greater = b ≡ 62
Shows b DoubleQuote = b ≡ 34
Shows b SingleQuote = b ≡ 39
Shows b Equals = b ≡ 61
Shows b Slash = b ≡ 47
Shows b Colon = b ≡ 58
Shows b Exclamation = b ≡ 33
Shows b Letter = Unit {0}
Shows b Digit = Unit {0}
Shows b Other = Unit {0}

pub record IsKind (b : ℕ) (k : Kind) : Type 0 where
  pub is : kind b ≡ k
  pub shows : Shows b k

pick : (b : ℕ) (x : Bool) (n : ℕ) (k m : Kind) → (b == n) ≡ x → (b ≡ n → Shows b k) → Shows b m → Shows b (cond x k m)
pick b true n k m e f g = f (eqb-true b n e)
pick b false n k m e f g = g

free : (b : ℕ) (x : Bool) (k m : Kind) → Shows b k → Shows b m → Shows b (cond x k m)
free b true k m f g = f
free b false k m f g = g

pub shows : (b : ℕ) → Shows b (kind b)
shows b =
    pick b (b == 60) 60 Less _ refl (λ e. e) (
    pick b (b == 38) 38 Ampersand _ refl (λ e. e) (
    free b (is_blank b) Blank _ tt (
    pick b (b == 62) 62 Greater _ refl (λ e. e) (
    pick b (b == 34) 34 DoubleQuote _ refl (λ e. e) (
    pick b (b == 39) 39 SingleQuote _ refl (λ e. e) (
    pick b (b == 61) 61 Equals _ refl (λ e. e) (
    pick b (b == 47) 47 Slash _ refl (λ e. e) (
    pick b (b == 58) 58 Colon _ refl (λ e. e) (
    pick b (b == 33) 33 Exclamation _ refl (λ e. e) (
    free b (is_letter b) Letter _ tt (
    free b (is_digit b) Digit Other tt tt)))))))))))

pub is_kind : (b : ℕ) → IsKind b (kind b)
is_kind b = record { is = refl; shows = shows b }

-- the byte that ends a value
pub ends_by : (q : Quote) (b : ℕ) (k : Kind) → Shows b k → sort q k ≡ Ends → b ≡ quote_byte q
ends_by q b Less s h = cc
ends_by q b Ampersand s h = cc
ends_by Double b DoubleQuote s h = s
ends_by Single b SingleQuote s h = s
ends_by Double b k s h = cc
ends_by Single b k s h = cc

pub refers_by : (q : Quote) (b : ℕ) (k : Kind) → Shows b k → sort q k ≡ Refers → b ≡ 38
refers_by q b Less s h = cc
refers_by q b Ampersand s h = s
refers_by Double b DoubleQuote s h = cc
refers_by Single b SingleQuote s h = cc
refers_by Double b k s h = cc
refers_by Single b k s h = cc

pub all_more : (p : ℕ → Bool) (xs : List ℕ) (x : ℕ) → list_all p xs ≡ true → p x ≡ true → list_all p (xs ++ (x ∷ [])) ≡ true
all_more p xs x h g = simp (list_all-append, h, g)

pub put : (P : List ℕ → Type 0) (n : List ℕ) (b : ℕ) (s : List ℕ) → P ((n ++ (b ∷ [])) ++ s) → P (n ++ (b ∷ s))
put P n b s = subst P (append_assoc n (b ∷ []) s)

pub and_both : (x y : Bool) → (x && y) ≡ true → (x ≡ true) × (y ≡ true)
and_both true y h = (refl, h)
and_both false y h = cc

pub and_of : (x y : Bool) → x ≡ true → y ≡ true → (x && y) ≡ true
and_of x y h g = rw (h, g) refl

pub same : (r s : List ℕ) → bytes_eq r s ≡ true → r ≡ s
same r s h = (bytes_eq-Decides r s).0 h

pub eqb-same : (n : ℕ) → (n == n) ≡ true
eqb-same n = grind (arith, nat_tests)
