-- What a call that gives a number does to a machine, and to what a list's device tells.
use Rattle.std.proofs.Common.{◌≡◌, ℕ, suc, ◌+◌, List, [], ◌∷◌, Option, Some, None, Bool, true, false, cond, ltb, refl, subst, arith, inl, inr}
use Rattle.std.proofs.lemmas.Bool.{cases_lt, lt-ltb, le-ltb}
use Rattle.dav_machine.specs.Log.{TellsMore}
use Rattle.dav_machine.proofs.Reaching.{reaches_next_call}
use Rattle.dav_edge.specs.Numbers.{NumberGiven, number_given, NumberLog, NumbersGrew, NumberMachine, AsksNumber, ReachesByNumbers}
use Rattle.dav_edge.specs.Listed.{first_calls, listed_log, one_call_more}

-- a machine that asks for a number is led on by one call
pub number_leads : {R : Type 0} (a b : NumberLog) (next : ℕ → NumberMachine R) (n : ℕ) → NumbersGrew a b (number_given n ∷ [])
    → ReachesByNumbers a b (AsksNumber next) (next n)
number_leads a b next n grew = reaches_next_call (NumbersGrew a b) (AsksNumber next) (next n) (number_given n) grew (λ more run does. does)

-- whether it still tells is a test before the call, and one behind it
abbrev Tells : (ℕ → ℕ) → ℕ → Bool → Option (List NumberGiven)
Tells answer calls test = cond test (Some (first_calls answer calls)) None

tells_none : (old : Option (List NumberGiven)) (answer : ℕ → ℕ) (calls : ℕ) (now : Bool) (es : List NumberGiven) → now ≡ false
    → TellsMore old (Tells answer calls now) es
tells_none old answer calls true es is = absurd (cc)
tells_none old answer calls false es is = tt

tells_next : (answer : ℕ → ℕ) (calls : ℕ) (before now : Bool) → before ≡ true
    → TellsMore (Tells answer calls before) (Tells answer (suc calls) now) (number_given (answer calls) ∷ [])
tells_next answer calls true true is = refl
tells_next answer calls true false is = tt
tells_next answer calls false now is = absurd (cc)

told_next : (answer : ℕ → ℕ) (calls : ℕ)
    → TellsMore (listed_log answer calls).told (listed_log answer (one_call_more calls)).told (number_given (answer calls) ∷ [])
told_next answer calls =
    elim (cases_lt (calls + 1) 18446744073709551615) [
      | inl below ↦
          let same : suc calls ≡ one_call_more calls = omega arith in
          subst (λ (n : ℕ). TellsMore (listed_log answer calls).told (listed_log answer n).told (number_given (answer calls) ∷ [])) same
          (tells_next answer calls (ltb calls 18446744073709551615) (ltb (suc calls) 18446744073709551615) (lt-ltb calls 18446744073709551615 (omega arith)))
      | inr above ↦
          tells_none (listed_log answer calls).told answer (one_call_more calls) (ltb (one_call_more calls) 18446744073709551615) (number_given (answer calls) ∷ [])
          (le-ltb (one_call_more calls) 18446744073709551615 (omega arith))
    ]

-- the answer to the next call is told behind the others
pub listed_grew : (answer : ℕ → ℕ) (calls : ℕ) → NumbersGrew (listed_log answer calls) (listed_log answer (one_call_more calls)) (number_given (answer calls) ∷ [])
listed_grew answer calls = record {
  tells = told_next answer calls;
  no_fewer = omega arith;
  rose = λ h. let none : false ≡ true = h in absurd (cc);
}
