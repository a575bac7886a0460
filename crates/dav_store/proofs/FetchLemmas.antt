-- Bytes that were read, and sums that differ.
use Rattle.std.proofs.Common.{◌≡◌, ◌≢◌, ◌-◌, inl, inr, ℕ, List, [], ◌∷◌, ◌++◌, min, length, take, drop, refl, sym, ◌∙◌, ap, subst, arith, Bool, true, false, not, eqb, eq-eqb, ◌&&◌}
use Rattle.std.proofs.lemmas.Bool.{cases_lt}
use Rattle.std.specs.Cmp.Lexicographic.{pointwise}
use Rattle.std.proofs.lemmas.List.{take_all, length-take, take_at}

same_tested : (xs : List ℕ) → pointwise eqb xs xs ≡ true
same_tested [] = refl
same_tested (x ∷ xs) = ap (λ (b : Bool). b && pointwise eqb xs xs) (eq-eqb x x refl) ∙ same_tested xs

pub differ : (found sum : List ℕ) → true ≡ not (pointwise eqb found sum) → found ≢ sum
differ found sum tested same =
    let t : pointwise eqb found sum ≡ true = subst (λ (l : List ℕ). pointwise eqb found l ≡ true) same (same_tested found) in
    let e : true ≡ false = tested ∙ ap not t in
    absurd (cc)

-- the first bytes of a buffer into which a file was read from its start
pub was_read : (seen old new : List ℕ) (n len : ℕ) → length old ≡ len → n ≡ min (length old) (length seen - 0) → new ≡ take n (drop 0 seen) ++ drop n old → take n new ≡ take len seen
was_read seen old new n len long count is =
    ap (λ (l : List ℕ). take n l) is ∙ take_at (take n seen) (drop n old) n (omega (arith, length-take n seen)) ∙ elim (cases_lt len (length seen)) [
      | inl longer ↦ ap (λ (k : ℕ). take k seen) (omega arith)
      | inr whole ↦ take_all n seen (omega arith) ∙ sym (take_all len seen whole)
    ]
