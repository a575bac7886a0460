-- Each event that is ready leaves less of a piece.
use Rattle.std.proofs.Common.{◌≡◌, ℕ, ◌+◌, ◌*◌, ◌-◌, ◌<◌, ◌≤◌, ◌⊎◌, inl, inr, Bool, true, false, List, length, length-drop, take, drop, take_all, refl, ap, sym, ◌∙◌, subst, arith}
use Rattle.std.specs.Prelude.{not}
use Rattle.dav_xml.specs.declared.event.Lent.{Lent}
use Rattle.dav_xml.specs.declared.event.Lent.TheVariants as lents
use Rattle.dav_xml.specs.declared.scan.Fed.{Fed}
use Rattle.dav_xml.specs.declared.scan.Scan.{Scan}
use Rattle.dav_xml.specs.Events.{later_in}
use Rattle.dav_xml.specs.Read.{waiting}

pub rest_of : (s : List ℕ) (n : ℕ) → take (length s - n) (drop n s) ≡ drop n s
rest_of s n = take_all (length s - n) (drop n s) (omega (arith, length-drop n s))

pub ready_true : (ready : Bool) → not ready ≡ false → ready ≡ true
ready_true true e = refl
ready_true false e = cc

one_waits : (lent : Lent) → length (later_in lent) ≤ 1
one_waits lents.Nothing = omega arith
one_waits (lents.Chars few) = omega arith
one_waits (lents.Run bytes) = omega arith
one_waits (lents.Start depth ns name true) = omega arith
one_waits (lents.Start depth ns name false) = omega arith
one_waits (lents.End depth) = omega arith

less_left : (old new used left : ℕ) → used ≤ left → new ≤ 1 → (0 < used) ⊎ ((old ≡ 1) × (new ≡ 0)) → 2 * (left - used) + new < 2 * left + old
less_left old new used left h n (inl m) = omega (arith, h, n, m)
less_left old new used left h n (inr m) = let a = m.0 in let b = m.1 in omega (arith, h, a, b)

-- each event that is ready leaves less of a piece
pub passes_on : (scan next : Scan) (rest : List ℕ) (fed : Fed) → fed.used ≤ length rest → (0 < fed.used) ⊎ ((waiting scan ≡ 1) × (waiting next ≡ 0))
    → 2 * length (take (length rest - fed.used) (drop fed.used rest)) + waiting next < 2 * length rest + waiting scan
passes_on scan next rest fed h m =
    let k = less_left (waiting scan) (waiting next) fed.used (length rest) h (one_waits next.lent) m in
    let l : length (take (length rest - fed.used) (drop fed.used rest)) ≡ length rest - fed.used = ap length (rest_of rest fed.used) ∙ length-drop fed.used rest in
    subst (λ (z : ℕ). 2 * z + waiting next < 2 * length rest + waiting scan) (sym l) k
