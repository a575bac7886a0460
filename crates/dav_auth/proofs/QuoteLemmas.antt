-- What is written between the quotes of a quoted string.
use Rattle.std.proofs.Common.{◌≡◌, ℕ, ◌+◌, ◌<◌, ◌==◌, ◌||◌, Bool, true, false, List, [], ◌∷◌, ◌++◌, length, get_or, take, inl, inr, refl, ap, sym, ◌∙◌, append_assoc}
use Rattle.std.proofs.lemmas.Bool.{cases_Bool}
use Rattle.std.proofs.lemmas.List.{take_more, append-nil}
use Rattle.dav_auth.specs.Quoted.{escape_byte, escape, unescape}

pub escape-append : (xs ys : List ℕ) → escape (xs ++ ys) ≡ escape xs ++ escape ys
escape-append [] ys = refl
escape-append (x ∷ xs) ys =
    ap (λ t. escape_byte x ++ t) (escape-append xs ys) ∙ sym (append_assoc (escape_byte x) (escape xs) (escape ys))

-- one more byte
pub escape_more : (bytes : List ℕ) (i : ℕ) → i < length bytes → escape (take (i + 1) bytes) ≡ escape (take i bytes) ++ escape_byte (get_or bytes i 0)
escape_more bytes i within =
    ap escape (take_more bytes i 0 within) ∙ escape-append (take i bytes) (get_or bytes i 0 ∷ [])
    ∙ ap (λ t. escape (take i bytes) ++ t) (append-nil (escape_byte (get_or bytes i 0)))

-- a piece more, where the list so far is what was there and a front
pub grown : (old front piece more mid new : List ℕ) → mid ≡ old ++ front → new ≡ mid ++ piece → more ≡ front ++ piece → new ≡ old ++ more
grown old front piece more mid new e f g = f ∙ ap (λ x. x ++ piece) e ∙ append_assoc old front piece ∙ ap (λ x. old ++ x) (sym g)

unescape_pair : (b : ℕ) (bytes : List ℕ) → unescape (92 ∷ b ∷ bytes) ≡ b ∷ unescape bytes
unescape_pair b bytes = refl

unescape_other : (b : ℕ) (bytes : List ℕ) → (b == 92) ≡ false → unescape (b ∷ bytes) ≡ b ∷ unescape bytes
unescape_other b [] other = refl
unescape_other b (c ∷ bytes) other = rw other refl

or_right : (a b : Bool) → (a || b) ≡ false → b ≡ false
or_right true b e = cc
or_right false b e = e

-- the bytes that were quoted are those that are read
pub unescape-escape : (bytes : List ℕ) → unescape (escape bytes) ≡ bytes
unescape-escape [] = refl
unescape-escape (b ∷ bytes) =
    elim (cases_Bool (b == 34 || b == 92)) [
      | inl quoted ↦ rw quoted (unescape_pair b (escape bytes) ∙ ap (λ t. b ∷ t) (unescape-escape bytes))
      | inr plain ↦ rw plain (unescape_other b (escape bytes) (or_right (b == 34) (b == 92) plain) ∙ ap (λ t. b ∷ t) (unescape-escape bytes))
    ]
