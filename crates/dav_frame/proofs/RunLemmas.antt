-- A reader that is fed the pieces of a stream one after the other: what a caller's loop keeps, and
-- what follows of the whole stream at its end.
use Rattle.std.proofs.Common.{◌≡◌, ℕ, List, [], ◌++◌, length, drop, sym, arith, subst, append_assoc, append-nil}
use Rattle.std.proofs.lemmas.Grind.{common_steps}
use Rattle.dav_text.specs.declared.method.Method.{Method}
use Rattle.dav_frame.specs.Framing.{Message, Outcome, Gives, Faults, Framing}
use Rattle.dav_frame.specs.Reading.{FromPhase, Leads, Continues}
use Rattle.dav_frame.specs.declared.fault.FrameFault.{FrameFault}
use Rattle.dav_frame.specs.declared.phase.Phase.{Phase}

-- after a piece that was taken whole
pub continues_more : (method : Method) (got piece : List ℕ) (used : ℕ) (old new : Phase) → Continues method got old
    → Leads old piece new (drop used piece) → used ≡ length piece → Continues method (got ++ piece) new
continues_more method got piece used old new before leads all more outcome from =
    let none : drop used piece ≡ [] = grind (arith, common_steps) in
    let P : List ℕ → Type 0 = λ s. FromPhase new (s ++ more) outcome in
    let Q : List ℕ → Type 0 = λ s. Framing method s outcome in
    subst Q (sym (append_assoc got piece more)) (before (piece ++ more) outcome (leads more outcome (subst P (sym none) from)))

-- at the end of a whole reply: the bytes left of the last piece follow it
pub gives_reply : (method : Method) (got piece left : List ℕ) (old new : Phase) (reply : Message) → Continues method got old
    → Leads old piece new left → ((rest : List ℕ) → FromPhase new rest (Gives reply rest))
    → (more : List ℕ) → Framing method ((got ++ piece) ++ more) (Gives reply (left ++ more))
gives_reply method got piece left old new reply before leads whole more =
    let Q : List ℕ → Type 0 = λ s. Framing method s (Gives reply (left ++ more)) in
    subst Q (sym (append_assoc got piece more))
    (before (piece ++ more) (Gives reply (left ++ more)) (leads more (Gives reply (left ++ more)) (whole (left ++ more))))

-- at a fault, whatever follows
pub gives_fault : (method : Method) (got piece : List ℕ) (old : Phase) (fault : FrameFault) → Continues method got old
    → ((more : List ℕ) → FromPhase old (piece ++ more) (Faults fault))
    → (more : List ℕ) → Framing method ((got ++ piece) ++ more) (Faults fault)
gives_fault method got piece old fault before from more =
    let Q : List ℕ → Type 0 = λ s. Framing method s (Faults fault) in
    subst Q (sym (append_assoc got piece more)) (before (piece ++ more) (Faults fault) (from more))

-- where the stream ends
pub gives_end : (method : Method) (got : List ℕ) (phase : Phase) (outcome : Outcome) → Continues method got phase → FromPhase phase [] outcome
    → Framing method got outcome
gives_end method got phase outcome before from =
    let Q : List ℕ → Type 0 = λ s. Framing method s outcome in
    subst Q (append-nil got) (before [] outcome from)
