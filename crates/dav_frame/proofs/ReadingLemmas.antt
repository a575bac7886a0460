-- A phase that a front of a piece leads to, and what the bytes so far are in each phase that waits for more.
use Rattle.std.proofs.Common.{◌≡◌, ℕ, ◌+◌, ◌<◌, ◌≤◌, ◌⊎◌, inl, inr, List, [], ◌++◌, length, take, drop, true, false, refl, ap, sym, ◌∙◌, arith, subst, append_assoc, append-nil, Bool, ◌&&◌, Result, Err, nat_le, nat_lt}
use Rattle.std.proofs.lemmas.Bool.{cases_lt}
use Rattle.std.proofs.lemmas.Bool.Decides.{nat_tests}
use Rattle.std.proofs.lemmas.Grind.{common_steps}
use Rattle.std.proofs.lemmas.List.{take-append-drop, drop-append-le}
use Rattle.httparse.specs.Grammar.{HasNoResponse, NeverHasResponse, HasNoSection, NeverHasSection}
use Rattle.dav_text.specs.declared.method.Method.{Method}
use Rattle.dav_head.specs.Limit.{IsWithin}
use Rattle.dav_head.specs.Line.{HasNoLine, NeverHasLine}
use Rattle.dav_head.specs.declared.body.TheConstants.{BODY_LIMIT}
use Rattle.dav_frame.specs.Front.{Open, opens}
use Rattle.dav_frame.specs.Framing.{Short, Closes, message, sized_body, open_body, FromHeads, other, FromChunks, waits, FromTrailers}
use Rattle.dav_frame.specs.Reading.{FromPhase, Leads, FromData, part, FromEnd, open_cr, open_lf, IsSound, IsReading, IsToEnd, Waits, IsReadingEnd, bytes_read}
use Rattle.dav_frame.specs.declared.fault.FrameFault.{FrameFault}
use Rattle.dav_frame.specs.declared.fault.FrameFault.TheVariants.{Cut}
use Rattle.dav_frame.specs.declared.reader.Reply.{Reply}
use Rattle.dav_frame.specs.declared.phase.FinalHead.{FinalHead}
use Rattle.dav_frame.specs.declared.phase.Phase.{Phase}
use Rattle.dav_frame.specs.declared.phase.Phase.TheVariants.{AtHead, InBody, ToEnd, AtLine, InData, AfterData, AtTrailers, Whole, Failed}

drop_front : (n u : ℕ) (piece : List ℕ) → u ≤ n → drop u piece ≡ drop u (take n piece) ++ drop n piece
drop_front n u piece h =
    let inside : u ≤ length (take n piece) ⊎ (length piece ≤ n) = elim (cases_lt n (length piece)) [
      | inl lt ↦ inl (grind (arith, common_steps))
      | inr ge ↦ inr ge
    ] in
    elim inside [
      | inl le ↦ ap (λ s. drop u s) (sym (take-append-drop n piece)) ∙ drop-append-le u (take n piece) (drop n piece) le
      | inr all ↦ let whole : take n piece ≡ piece = grind (arith, common_steps) in
          let none : drop n piece ≡ [] = grind (arith, common_steps) in
          rw (whole, none) (sym (append-nil (drop u piece)))
    ]

-- what the front of a piece leads to, the piece leads to
pub leads_front : (old new : Phase) (piece front : List ℕ) (used : ℕ) → front ≡ take (length front) piece → used ≤ length front
    → Leads old front new (drop used front) → Leads old piece new (drop used piece)
leads_front old new piece front used is within leads more o from =
    let n = length front in
    let tail = drop n piece in
    let whole : piece ≡ front ++ tail = sym (take-append-drop n piece) ∙ ap (λ s. s ++ tail) (sym is) in
    let left : drop used piece ≡ drop used front ++ tail = drop_front n used piece within ∙ ap (λ s. drop used s ++ tail) (sym is) in
    let F : List ℕ → Type 0 = λ s. FromPhase new s o in
    let B : List ℕ → Type 0 = λ s. FromPhase old s o in
    let there : FromPhase new (drop used front ++ (tail ++ more)) o =
    subst F (ap (λ s. s ++ more) left ∙ append_assoc (drop used front) tail more) from in
    subst B (sym (ap (λ s. s ++ more) whole ∙ append_assoc front tail more)) (leads (tail ++ more) o there)

-- ---- the bytes so far

pub short_head : (method : Method) (before : ℕ) (kept : List ℕ) → HasNoResponse kept → (NeverHasResponse kept → ⊥) → IsWithin before kept
    → FromHeads method before (kept ++ []) Short
short_head method before kept none alive within =
    let P : List ℕ → Type 0 = λ s. FromHeads method before s Short in
    subst P (sym (append-nil kept)) (other before kept Short Open (opens none alive within refl) refl)

pub short_body : (head : FinalHead) (had : List ℕ) (need : ℕ) → 0 < need → Short ≡ sized_body head had need []
short_body head had need some = let t : nat_le need 0 ≡ false = grind (arith, nat_tests) in rw t refl

pub closes_body : (head : FinalHead) (had : List ℕ) → length had ≤ BODY_LIMIT → Closes (message head had) ≡ open_body head had []
closes_body head had fits =
    let t : nat_le (length had + 0) BODY_LIMIT ≡ true = grind (arith, nat_tests) in
    rw (t, append-nil had) refl

pub short_line : (head : FinalHead) (before at : ℕ) (had kept : List ℕ) → HasNoLine kept → (NeverHasLine kept → ⊥) → FromChunks head before at had (kept ++ []) Short
short_line head before at had kept none alive =
    let P : List ℕ → Type 0 = λ s. FromChunks head before at had s Short in
    subst P (sym (append-nil kept)) (waits at had kept Short none alive refl)

both_not : (a b : Bool) → b ≡ false → (a && b) ≡ false
both_not true b e = e
both_not false b e = refl

pub short_data : (head : FinalHead) (before at : ℕ) (had : List ℕ) (got need : ℕ) → 0 < need → length had ≤ BODY_LIMIT → FromData head before at had got need [] Short
short_data head before at had got need some fits =
    let p : nat_lt BODY_LIMIT (length had + 0) ≡ false = grind (arith, nat_tests) in
    let q : nat_lt 0 need ≡ true = grind (arith, nat_tests) in
    let both : (nat_lt BODY_LIMIT (length had + need) && nat_lt BODY_LIMIT (length had + 0)) ≡ false = both_not (nat_lt BODY_LIMIT (length had + need)) (nat_lt BODY_LIMIT (length had + 0)) p in
    part (rw (both, q) refl)

pub short_end : (head : FinalHead) (before at : ℕ) (had : List ℕ) (got : ℕ) (has_cr : Bool) → FromEnd head before at had got has_cr [] Short
short_end head before at had got false = open_cr [] Short refl
short_end head before at had got true = open_lf [] Short refl

pub short_trailers : (head : FinalHead) (before at : ℕ) (had kept : List ℕ) → HasNoSection kept → (NeverHasSection kept → ⊥) → IsWithin before kept
    → FromTrailers head before at had (kept ++ []) Short
short_trailers head before at had kept none alive within =
    let P : List ℕ → Type 0 = λ s. FromTrailers head before at had s Short in
    subst P (sym (append-nil kept)) (record {
      verdict = Open;
      finds = opens (λ t rest r. none t.fields t.last rest r) (λ dead. alive (λ more fields end rest r. dead more (record { fields = fields; last = end }) rest r)) within refl;
      is = refl;
    })

pub waits_here : (phase : Phase) → IsSound phase → IsReading phase → Waits phase
waits_here (AtHead method before kept) sound reading = inl (short_head method before kept.items sound.0 sound.1 sound.2)
waits_here (InBody head at body need) sound reading = inl (short_body head body.items need sound.0)
waits_here (ToEnd head at body) sound reading = inr (message head body.items, closes_body head body.items sound.1)
waits_here (AtLine c kept) sound reading = inl (short_line c.head c.before c.at c.body.items kept.items sound.0 sound.1)
waits_here (InData c got need) sound reading = inl (short_data c.head c.before c.at c.body.items got need sound.0 (omega (arith, sound.3)))
waits_here (AfterData c got has_cr) sound reading = inl (short_end c.head c.before c.at c.body.items got has_cr)
waits_here (AtTrailers c kept) sound reading = inl (short_trailers c.head c.before c.at c.body.items kept.items sound.0 sound.1 sound.2)
waits_here (Whole head body alone) sound reading = absurd reading
waits_here (Failed fault) sound reading = absurd reading

pub cut_here : (phase : Phase) (result : Result Reply FrameFault) → IsSound phase → IsReading phase → (IsToEnd phase → ⊥)
    → result ≡ Err (Cut (bytes_read phase)) → IsReadingEnd phase result
cut_here (AtHead method before kept) result sound reading other_ is = inr (is, short_head method before kept.items sound.0 sound.1 sound.2)
cut_here (InBody head at body need) result sound reading other_ is = inr (is, short_body head body.items need sound.0)
cut_here (ToEnd head at body) result sound reading other_ is = absurd (other_ tt)
cut_here (AtLine c kept) result sound reading other_ is = inr (is, short_line c.head c.before c.at c.body.items kept.items sound.0 sound.1)
cut_here (InData c got need) result sound reading other_ is = inr (is, short_data c.head c.before c.at c.body.items got need sound.0 (omega (arith, sound.3)))
cut_here (AfterData c got has_cr) result sound reading other_ is = inr (is, short_end c.head c.before c.at c.body.items got has_cr)
cut_here (AtTrailers c kept) result sound reading other_ is = inr (is, short_trailers c.head c.before c.at c.body.items kept.items sound.0 sound.1 sound.2)
cut_here (Whole head body alone) result sound reading other_ is = absurd reading
cut_here (Failed fault) result sound reading other_ is = absurd reading
