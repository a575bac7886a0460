-- The bytes of a head, or of trailers, that are kept after a piece.
use Rattle.std.proofs.Common.{◌≡◌, ℕ, ◌+◌, ◌-◌, ◌<◌, ◌≤◌, true, false, List, [], ◌++◌, length, take, drop, ap, sym, ◌∙◌, arith, subst, append_assoc, length-append, inl, inr}
use Rattle.std.proofs.lemmas.Grind.{common_steps}
use Rattle.std.proofs.lemmas.List.{take-append-drop}
use Rattle.std.proofs.lemmas.Bool.{false≢true, cases_lt}
use Rattle.dav_head.specs.Limit.{feeds, IsFree, IsWithin, IsReached, Keeps}
use Rattle.dav_head.proofs.FeedLemmas.{feeds_one}

-- bytes within the limit end at the 65,536th at the latest
pub within_size : (before : ℕ) (s : List ℕ) → before ≤ 65536 → IsWithin before s → before + length s ≤ 65536
within_size before s room within =
    elim (cases_lt 65536 (before + length s)) [
      | inl lt ↦ let f = within (65536 - before) (omega arith) in absurd (omega (arith, f.0))
      | inr ge ↦ ge
    ]

-- the part of a piece that counts, and the rest of it
pub record Parts (before : ℕ) (old piece whole : List ℕ) : Type 0 where
  pub behind : List ℕ
  pub split : old ++ piece ≡ whole ++ behind
  pub size : before + length whole ≤ 65537
  pub all : before + length whole ≤ 65536 → behind ≡ []
  pub room : before ≤ 65536

pub parts_of : (before : ℕ) (old piece whole : List ℕ) → before + length old ≤ 65536
    → whole ≡ old ++ take ((65537 - before) - length old) piece → Parts before old piece whole
parts_of before old piece whole short is =
    let room = (65537 - before) - length old in
    let size : length whole ≡ length old + length (take room piece) = ap length is ∙ length-append old (take room piece) in
    record {
      behind = drop room piece;
      split = ap (λ s. old ++ s) (sym (take-append-drop room piece)) ∙ sym (append_assoc old (take room piece) (drop room piece))
          ∙ ap (λ s. s ++ drop room piece) (sym is);
      size = grind (arith, common_steps);
      all = λ few. grind (arith, common_steps);
      room = omega arith;
    }

pub keeps_all : (before : ℕ) (old piece new : List ℕ) (end : ℕ) → Parts before old piece new → length new ≤ end
    → ((n : ℕ) → n < end → IsFree before new n) → feeds (take end new) ≤ 130 → Keeps before old piece new false
keeps_all before old piece new end parts all free few =
    let within : IsWithin before new = λ n h. free n (omega arith) in
    record {
      left = parts.behind;
      split = parts.split;
      reached = λ n h. free n (omega arith);
      few = let e : take end new ≡ new = grind (arith, common_steps) in omega (arith, ap feeds e);
      size = parts.size;
      passes = λ e. absurd (false≢true e);
      within = λ e. (within, parts.all (within_size before new parts.room within));
    }

same_front : (whole : List ℕ) (end n : ℕ) → n ≤ end → take n (take (end + 1) whole) ≡ take n whole
same_front whole end n h = grind (arith, common_steps)

free_front : (before : ℕ) (whole : List ℕ) (end n : ℕ) → n ≤ end → IsFree before whole n → IsFree before (take (end + 1) whole) n
free_front before whole end n h f = (f.0, omega (arith, ap feeds (same_front whole end n h), f.1))

free_back : (before : ℕ) (whole : List ℕ) (end n : ℕ) → n ≤ end → IsFree before (take (end + 1) whole) n → IsFree before whole n
free_back before whole end n h f = (f.0, omega (arith, ap feeds (same_front whole end n h), f.1))

keeps_take : (before : ℕ) (old piece whole : List ℕ) (end : ℕ) → Parts before old piece whole → end < length whole
    → ((n : ℕ) → n < end → IsFree before whole n) → (IsFree before whole end → ⊥) → feeds (take end whole) ≤ 130
    → Keeps before old piece (take (end + 1) whole) true
keeps_take before old piece whole end parts more free full few =
    let len : length (take (end + 1) whole) ≡ end + 1 = grind (arith, common_steps) in
    let reached : IsReached before (take (end + 1) whole) = λ n h. free_front before whole end n (omega arith) (free n (omega arith)) in
    record {
      left = drop (end + 1) whole ++ parts.behind;
      split = parts.split ∙ ap (λ s. s ++ parts.behind) (sym (take-append-drop (end + 1) whole))
          ∙ append_assoc (take (end + 1) whole) (drop (end + 1) whole) parts.behind;
      reached = reached;
      few = omega (arith, feeds_one whole end);
      size = omega (arith, len, parts.size);
      passes = λ e. record { place = end; last = len; full = λ f. full (free_back before whole end end (omega arith) f); first = reached };
      within = λ e. absurd (false≢true (sym e));
    }

pub keeps_cut : (before : ℕ) (old piece whole new : List ℕ) (end : ℕ) → Parts before old piece whole → new ≡ take (end + 1) whole → end < length whole
    → ((n : ℕ) → n < end → IsFree before whole n) → (IsFree before whole end → ⊥) → feeds (take end whole) ≤ 130
    → Keeps before old piece new true
keeps_cut before old piece whole new end parts cut more free full few =
    let P : List ℕ → Type 0 = λ s. Keeps before old piece s true in
    subst P (sym cut) (keeps_take before old piece whole end parts more free full few)
