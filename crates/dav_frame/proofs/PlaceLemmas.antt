-- The shortest front that no continuation makes a head decides against the limit.
use Rattle.std.proofs.Common.{◌≡◌, ℕ, ◌≤◌, ◌↔◌, List, ◌++◌, length, take, drop, refl, ap, sym, ◌∙◌, arith, subst, inl, inr}
use Rattle.std.proofs.lemmas.Grind.{common_steps}
use Rattle.std.proofs.lemmas.Bool.{cases_lt}
use Rattle.std.proofs.lemmas.List.{take-append-le, take-append-drop}
use Rattle.dav_text.specs.declared.method.Method.{Method}
use Rattle.httparse.specs.Grammar.{ResponseHead, IsResponseHead, print_response, NeverHasResponse}
use Rattle.dav_head.specs.Limit.{feeds, IsReached}
use Rattle.dav_frame.specs.Front.{Verdict, Found, Refused, Overrun, Open, found, found_past, refused, overrun, opens}
use Rattle.dav_frame.specs.Framing.{Outcome, Faults, Short, FromHeads, FindsHead, FromVerdict, IsShortestDead, interim, other}
use Rattle.dav_frame.specs.declared.fault.FrameFault.TheVariants.{NotAReply, HeadLimit}

-- no byte before the last of a front is past the limit, so none of a shorter one is
shorter : (before : ℕ) (s f r : List ℕ) (n : ℕ) → s ≡ f ++ r → n ≤ length f → IsReached before f → IsReached before (take n s)
shorter before s f r n e h reached k less =
    let t : take n s ≡ take n f = ap (λ x. take n x) e ∙ take-append-le n f r h in
    let l : length (take n f) ≡ n = grind (arith, common_steps) in
    let m : length (take n s) ≡ n = ap length t ∙ l in
    let free = reached k (omega arith) in
    let same : take k (take n s) ≡ take k f = ap (λ x. take k x) t ∙ grind (arith, common_steps) in
    (free.0, omega (arith, ap feeds same, free.1))

from_front : (before : ℕ) (s f r : List ℕ) (n : ℕ) → s ≡ f ++ r → NeverHasResponse f → IsReached before f → IsShortestDead s n → IsReached before (take n s)
from_front before s f r n e dead reached shortest =
    elim (cases_lt (length f) n) [
      | inl lt ↦ let t : take (length f) s ≡ f = ap (λ x. take (length f) x) e ∙ grind (arith, common_steps) in
          let P : List ℕ → Type 0 = λ x. NeverHasResponse x in
          absurd (shortest.first (length f) lt (subst P (sym t) dead))
      | inr ge ↦ shorter before s f r n e ge reached
    ]

-- a dead front has no head behind it
no_head : (s : List ℕ) (n : ℕ) (h : ResponseHead) (rest : List ℕ) → IsShortestDead s n → IsResponseHead h → s ≡ print_response h ++ rest → ⊥
no_head s n h rest shortest valid e = shortest.dead (drop n s) h rest (valid, take-append-drop n s ∙ e)

of_refused : (method : Method) (before : ℕ) (s : List ℕ) (n : ℕ) (v : Verdict ResponseHead) → FindsHead before s v → IsShortestDead s n
    → FromVerdict method before v (Faults (NotAReply before)) → IsReached before (take n s)
of_refused method before s n v (found h r x i e) shortest from = absurd (no_head s n h r shortest x.0 x.1)
of_refused method before s n v (found_past h r x i e) shortest from = absurd (no_head s n h r shortest x.0 x.1)
of_refused method before s n v (refused f r e dead reached z) shortest from = from_front before s f r n e dead reached shortest
of_refused method before s n v (overrun f r e none alive past z) shortest from =
    let P : Verdict ResponseHead → Type 0 = λ x. FromVerdict method before x (Faults (NotAReply before)) in
    let q : Faults (NotAReply before) ≡ Faults HeadLimit = subst P z from in cc
of_refused method before s n v (opens none alive within z) shortest from =
    let P : Verdict ResponseHead → Type 0 = λ x. FromVerdict method before x (Faults (NotAReply before)) in
    let q : Faults (NotAReply before) ≡ Short = subst P z from in cc

interim_none : (before : ℕ) (s : List ℕ) (n : ℕ) (h : ResponseHead) (rest : List ℕ) (v : Verdict ResponseHead) → FindsHead before s v → IsShortestDead s n → v ≡ Found h rest → ⊥
interim_none before s n h rest v (found k r x i e) shortest is = no_head s n k r shortest x.0 x.1
interim_none before s n h rest v (found_past k r x i e) shortest is = no_head s n k r shortest x.0 x.1
interim_none before s n h rest v (refused f r e dead reached z) shortest is = let t : Refused ≡ Found h rest = sym z ∙ is in cc
interim_none before s n h rest v (overrun f r e none alive past z) shortest is = let t : Overrun ≡ Found h rest = sym z ∙ is in cc
interim_none before s n h rest v (opens none alive within z) shortest is = let t : Open ≡ Found h rest = sym z ∙ is in cc

of_fault : (method : Method) (before : ℕ) (s : List ℕ) (o : Outcome) (n : ℕ) → FromHeads method before s o → o ≡ Faults (NotAReply before) → IsShortestDead s n
    → IsReached before (take n s)
of_fault method before s o n (interim b t w h r finds inter from) is shortest = absurd (interim_none b t n h r (Found h r) finds shortest refl)
of_fault method before s o n (other b t w v finds from) is shortest =
    let P : Outcome → Type 0 = λ x. FromVerdict method b v x in
    of_refused method b t n v finds shortest (subst P is from)

pub place : (method : Method) (before : ℕ) (s : List ℕ) (n : ℕ) → IsShortestDead s n → FromHeads method before s (Faults (NotAReply before)) ↔ IsReached before (take n s)
place method before s n shortest = (
  λ g. of_fault method before s (Faults (NotAReply before)) n g refl shortest,
  λ reached. other before s (Faults (NotAReply before)) Refused
      (refused (take n s) (drop n s) (sym (take-append-drop n s)) shortest.dead reached refl) refl,
)
