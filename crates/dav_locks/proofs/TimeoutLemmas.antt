-- The first element of a list, as a loop finds it.
use Rattle.std.proofs.Common.{◌≡◌, ℕ, ◌+◌, ◌<◌, true, false, eqb, List, [], ◌∷◌, ◌++◌, length, get_or, take, drop, sym, ap, ◌∙◌}
use Rattle.std.proofs.lemmas.Bool.{cond-true, cond-false}
use Rattle.std.proofs.lemmas.List.{take_more, drop_more, append-nil, append_assoc}
use Rattle.dav_locks.specs.Timeouts.{first_element}

pub passed : (text : List ℕ) (i : ℕ) → i < length text → eqb (get_or text i 0) 44 ≡ false
    → take i text ++ first_element (drop i text) ≡ take (i + 1) text ++ first_element (drop (i + 1) text)
passed text i within other =
    let b = get_or text i 0 in
    let rest = first_element (drop (i + 1) text) in
    ap (λ (t : List ℕ). take i text ++ first_element t) (drop_more text i 0 within)
    ∙ ap (λ (t : List ℕ). take i text ++ t) (cond-false _ _ _ other)
    ∙ sym (append_assoc (take i text) (b ∷ []) rest)
    ∙ ap (λ (t : List ℕ). t ++ rest) (sym (take_more text i 0 within))

pub found : (text : List ℕ) (i : ℕ) → i < length text → eqb (get_or text i 0) 44 ≡ true → take i text ++ first_element (drop i text) ≡ take i text
found text i within comma =
    ap (λ (t : List ℕ). take i text ++ first_element t) (drop_more text i 0 within)
    ∙ ap (λ (t : List ℕ). take i text ++ t) (cond-true _ _ _ comma)
    ∙ append-nil (take i text)
