-- What each answer to a piece of a head says of the stream.
use Rattle.std.proofs.Common.{◌≡◌, ℕ, ◌+◌, ◌-◌, ◌≤◌, Bool, true, false, List, [], ◌++◌, length, drop, refl, ap, sym, ◌∙◌, arith, subst, inl, inr, ◌&&◌, ◌==◌}
use Rattle.std.proofs.Common.{codes, None}
use Rattle.std.specs.Char.{is_ascii_digit}
use Rattle.std.proofs.lemmas.List.Elements.{All-nil}
use Rattle.std.proofs.lemmas.List.Sums.{AllPass-from_list_all}
use Rattle.httparse.specs.Grammar.{lf, IsField, is_value_byte}
use Rattle.httparse.specs.Grammar.{ResponseHead, IsResponseHead, print_response, ReadsResponse, HasNoResponse, NeverHasResponse, MayBecomeResponse, status_code}
use Rattle.httparse.specs.declared.spans.HeaderSpan.{HeaderSpan}
use Rattle.httparse.specs.declared.spans.ResponseSpans.{ResponseSpans}
use Rattle.httparse.specs.Spans.{IsResponseAt}
use Rattle.dav_text.specs.declared.method.Method.{Method}
use Rattle.dav_head.specs.Body.{body_of, is_interim}
use Rattle.dav_head.specs.Fields.{head_map}
use Rattle.dav_head.specs.Limit.{feeds, Keeps}
use Rattle.dav_head.proofs.FeedLemmas.{feeds-append, feeds-response}
use Rattle.dav_head.proofs.KeepLemmas.{within_size}
use Rattle.std.proofs.lemmas.Bool.{cases_lt}
use Rattle.std.proofs.lemmas.Bool.Decides.{nat_tests}
use Rattle.dav_frame.specs.Framing.{Outcome, Faults, past_fault, FindsHead, FromHeads, interim, other}
use Rattle.dav_frame.specs.Reading.{AfterHead}
use Rattle.dav_frame.specs.declared.fault.FrameFault.TheVariants.{NotAReply, HeadLimit}
use Rattle.dav_frame.specs.Front.{Refused, Overrun}
use Rattle.dav_frame.proofs.FrontLemmas.{refused_at, overrun_at, kept_all, Ends, ends_in, found_at, verdict_of}

pub may_not_never : (s : List ℕ) → MayBecomeResponse s → NeverHasResponse s → ⊥
may_not_never s (more, h, reads) never_has = never_has more h [] reads

pub never_from : (method : Method) {before : ℕ} {old piece new : List ℕ} {flag : Bool} → Keeps before old piece new flag → NeverHasResponse new
    → (more : List ℕ) (o : Outcome) → o ≡ Faults (NotAReply before) → FromHeads method before (old ++ (piece ++ more)) o
never_from method {before} {old} {piece} {new} k dead more o e =
    other before _ o Refused (refused_at ResponseHead IsResponseHead print_response k dead more) e

pub limit_from : (method : Method) {before : ℕ} {old piece new : List ℕ} → Keeps before old piece new true → HasNoResponse new → MayBecomeResponse new
    → (more : List ℕ) (o : Outcome) → o ≡ Faults HeadLimit → FromHeads method before (old ++ (piece ++ more)) o
limit_from method {before} {old} {piece} {new} k none may more o e =
    other before _ o Overrun (overrun_at ResponseHead IsResponseHead print_response k none (may_not_never new may) more) e

pub open_from : (method : Method) {before : ℕ} {old piece new : List ℕ} → Keeps before old piece new false
    → (more : List ℕ) (o : Outcome) → FromHeads method before (new ++ (drop (length piece) piece ++ more)) o → FromHeads method before (old ++ (piece ++ more)) o
open_from method {before} k more o f =
    let P : List ℕ → Type 0 = λ s. FromHeads method before s o in subst P (sym (kept_all k more)) f

after_verdict : (method : Method) (before : ℕ) (s : List ℕ) (o : Outcome) (h : ResponseHead) (rest : List ℕ) (past inter : Bool)
    → FindsHead before s (verdict_of past h rest) → is_interim (status_code h) ≡ inter
    → AfterHead method before h past inter rest o → FromHeads method before s o
after_verdict method before s o h rest true inter finds is after =
    let P : Bool → Type 0 = λ b. o ≡ Faults (past_fault b (body_of method (status_code h) (head_map h))) in
    other before s o _ finds (subst P (sym is) after)
after_verdict method before s o h rest false true finds is after = interim before s o h rest finds is after
after_verdict method before s o h rest false false finds is after = other before s o _ finds (is, after)

pub whole_from : (method : Method) {before : ℕ} {old piece new : List ℕ} (passed : Bool) → Keeps before old piece new passed → HasNoResponse old
    → (h : ResponseHead) (len : ℕ) → ReadsResponse new h (drop len new) → len ≡ length (print_response h)
    → len ≤ length new → (flag : Bool) → flag ≡ (passed && (len == length new))
    → (more : List ℕ) (o : Outcome)
    → AfterHead method before h flag (is_interim (status_code h)) (drop (len - length old) piece ++ more) o
    → FromHeads method before (old ++ (piece ++ more)) o
whole_from method {before} {old} {piece} {new} passed k none h len reads is fits flag e more o after =
    after_verdict method before _ o h (drop (len - length old) piece ++ more) flag _
    (found_at ResponseHead IsResponseHead print_response passed k none h len reads is fits flag e more) refl after

pub ends_at : {before : ℕ} {old piece new buf : List ℕ} {flag : Bool} → Keeps before old piece new flag → HasNoResponse old → buf ≡ new
    → (h : ResponseHead) {headers : List HeaderSpan} {spans : ResponseSpans} → IsResponseAt buf headers spans h
    → Ends ResponseHead IsResponseHead print_response old piece h spans.len
ends_at {before} {old} {piece} {new} k none same h {headers} {spans} at =
    let R : List ℕ → Type 0 = λ s. ReadsResponse s h (drop spans.len s) in
    ends_in ResponseHead IsResponseHead print_response k.left k.split none h spans.len (subst R same at.reads) at.len

-- a head that ends within the limit
pub head_fits : {before : ℕ} {old piece new : List ℕ} (passed : Bool) → Keeps before old piece new passed → before ≤ 65536 → (len : ℕ) → len ≤ length new
    → (passed && (len == length new)) ≡ false → before + len ≤ 65536
head_fits {before} {old} {piece} {new} false k room len fits ends = omega (arith, within_size before new room (k.within refl).0)
head_fits {before} {old} {piece} {new} true k room len fits ends =
    elim (cases_lt len (length new)) [
      | inl lt ↦ omega (arith, k.size)
      | inr ge ↦ let yes : (len == length new) ≡ true = grind (arith, nat_tests) in
          let t : true ≡ false = sym yes ∙ ends in absurd (cc)
    ]

-- ---- no bytes

-- no head is empty
pub none_is_no_head : HasNoResponse []
none_is_no_head h rest reads = omega (arith, ap feeds reads.1, feeds-append (print_response h) rest, feeds-response h)

abbrev some_head : ResponseHead
some_head = record { blank = []; minor = 0; digits = codes "200"; reason = None; line_end = lf; fields = []; last = lf }

-- but the empty text is the front of one
pub none_is_alive : NeverHasResponse [] → ⊥
unfolding print_response
none_is_alive dead =
    dead (codes "HTTP/1.0 200\n\n") some_head [] (
      record {
        minor = omega arith;
        digits = (refl, AllPass-from_list_all is_ascii_digit (codes "200") refl);
        reason = AllPass-from_list_all is_value_byte [] refl;
        fields = All-nil IsField;
      },
      refl,
    )
