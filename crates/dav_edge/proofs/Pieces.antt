-- How long the next piece of a stream is, after one more cut.
use Rattle.std.proofs.Common.{◌≡◌, ◌<◌, ◌≤◌, ℕ, ◌+◌, ◌-◌, List, length, min, slice_index, inl, inr, below_more, subst, arith}
use Rattle.std.proofs.lemmas.Bool.{cases_lt}
use Rattle.dav_edge.specs.Stream.{CrossesNone, HasEnd}

pub crosses_more : (cuts : List ℕ) (upto at n : ℕ) → CrossesNone cuts upto at n
    → (at < slice_index cuts upto → at + n ≤ slice_index cuts upto) → CrossesNone cuts (upto + 1) at n
crosses_more cuts upto at n before here = below_more (λ k. at < slice_index cuts k → at + n ≤ slice_index cuts k) upto before here

pub crosses_shorter : (cuts : List ℕ) (upto at n m : ℕ) → m ≤ n → CrossesNone cuts upto at n → CrossesNone cuts upto at m
crosses_shorter cuts upto at n m le before = λ k within behind. let longer : at + n ≤ slice_index cuts k = before k within behind in omega arith

pub end_at_cut : (cuts : List ℕ) (len room at n i : ℕ) → i < length cuts → at < slice_index cuts i
    → HasEnd cuts len room at n → HasEnd cuts len room at (min n (slice_index cuts i - at))
end_at_cut cuts len room at n i within behind before =
    elim (cases_lt (slice_index cuts i - at) n) [
      | inl shorter ↦ inr (inr (i, within, omega arith))
      | inr longer ↦ subst (HasEnd cuts len room at) (let same : n ≡ min n (slice_index cuts i - at) = omega arith in same) before
    ]
