-- Counting the line feeds of a head: each field ends in one, as do its first line and the empty line.
use Rattle.std.proofs.Common.{◌≡◌, ℕ, zero, suc, ◌+◌, ◌≤◌, length, take, List, [], ◌∷◌, ◌++◌, arith, refl, ap}
use Rattle.std.specs.List.{flat_map}
use Rattle.std.proofs.lemmas.Grind.{common_steps}
use Rattle.httparse.specs.Grammar.{LineEnd, crlf, lf, print_end, Field, print_field, print_section, ResponseHead, print_response, print_blank, print_version, print_reason}
use Rattle.httparse.specs.Spans.{ResponseExceeds, SectionExceeds}
use Rattle.dav_head.specs.Limit.{feeds}

pub feeds-append : (a b : List ℕ) → feeds (a ++ b) ≡ feeds a + feeds b
feeds-append [] b = omega arith
feeds-append (x ∷ a) b = grind (arith, common_steps, feeds-append a b)

pub feeds-end : (e : LineEnd) → feeds (print_end e) ≡ 1
feeds-end crlf = refl
feeds-end lf = refl

pub feeds-field : (f : Field) → 1 ≤ feeds (print_field f)
feeds-field f =
    omega (arith, feeds-append (f.name ++ 58 ∷ f.raw) (print_end f.end), feeds-end f.end)

pub feeds-fields : (fs : List Field) → length fs ≤ feeds (flat_map print_field fs)
feeds-fields [] = omega arith
feeds-fields (f ∷ fs) = omega (arith, feeds-append (print_field f) (flat_map print_field fs), feeds-field f, feeds-fields fs)

pub feeds-response : (h : ResponseHead) → length h.fields + 2 ≤ feeds (print_response h)
unfolding print_response
feeds-response h =
    let front = print_blank h.blank ++ print_version h.minor ++ 32 ∷ h.digits ++ print_reason h.reason in
    omega (arith, feeds-append (front ++ print_end h.line_end) (print_section h.fields h.last), feeds-append front (print_end h.line_end), feeds-append (flat_map print_field h.fields) (print_end h.last), feeds-end h.line_end, feeds-end h.last, feeds-fields h.fields)

pub feeds-section : (fs : List Field) (last : LineEnd) → length fs + 1 ≤ feeds (print_section fs last)
feeds-section fs last = omega (arith, feeds-append (flat_map print_field fs) (print_end last), feeds-end last, feeds-fields fs)

-- so 131 line feeds leave no room for a 133rd field
pub not_over : (s : List ℕ) → feeds s ≤ 131 → ResponseExceeds 132 s → ⊥
not_over s few (front, rest, whole, h, reads, over) =
    omega (arith, ap feeds whole, feeds-append front rest, ap feeds reads.1, feeds-append front (print_end lf), feeds-append (print_response h) [], feeds-response h)

pub not_over-section : (s : List ℕ) → feeds s ≤ 131 → SectionExceeds 132 s → ⊥
not_over-section s few (front, rest, whole, fields, reads, over) =
    omega (arith, ap feeds whole, feeds-append front rest, ap feeds reads.1, feeds-append front (print_end lf), feeds-append (print_section fields lf) [], feeds-section fields lf)

-- a byte adds at most one
pub feeds_one : (s : List ℕ) (n : ℕ) → feeds (take (n + 1) s) ≤ feeds (take n s) + 1
feeds_one [] zero = omega arith
feeds_one [] (suc n) = grind (arith, common_steps)
feeds_one (x ∷ s) zero = grind (arith, common_steps)
feeds_one (x ∷ s) (suc n) = let h = feeds_one s n in grind (arith, common_steps, h)
