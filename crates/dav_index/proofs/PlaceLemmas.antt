-- First places.
use Rattle.std.proofs.Common.{◌≡◌, ℕ, suc, zero, ◌<◌, ◌≤◌, Bool, false, List, ◌∷◌, length, arith}
use Rattle.dav_index.specs.Places.{IsFirst, IsFirstOrEnd, NonePasses}

-- the head fails where the place is behind it
pub head_fails : {X : Type 0} (test : X → Bool) (x : X) (xs : List X) (i : ℕ) → IsFirst test (x ∷ xs) (suc i) → test x ≡ false
head_fails test x xs i h = h.before zero x (omega arith) (omega arith)

pub in_tail : {X : Type 0} (test : X → Bool) (x : X) (xs : List X) (i : ℕ) → IsFirst test (x ∷ xs) (suc i) → IsFirst test xs i
in_tail test x xs i h = record {
  within = let w : suc i < suc (length xs) = h.within in omega arith;
  passes = λ d. h.passes d;
  before = λ k d l u. h.before (suc k) d (omega arith) (omega arith);
}

pub none_in_tail : {X : Type 0} (test : X → Bool) (x : X) (xs : List X) → NonePasses test (x ∷ xs) → NonePasses test xs
none_in_tail test x xs h = λ k d l u. h (suc k) d (omega arith) (omega arith)

pub none_at_head : {X : Type 0} (test : X → Bool) (x : X) (xs : List X) → NonePasses test (x ∷ xs) → test x ≡ false
none_at_head test x xs h = h zero x (omega arith) (omega arith)

pub end_head_fails : {X : Type 0} (test : X → Bool) (x : X) (xs : List X) (i : ℕ) → IsFirstOrEnd test (x ∷ xs) (suc i) → test x ≡ false
end_head_fails test x xs i h = h.before zero x (omega arith) (omega arith)

pub end_in_tail : {X : Type 0} (test : X → Bool) (x : X) (xs : List X) (i : ℕ) → IsFirstOrEnd test (x ∷ xs) (suc i) → IsFirstOrEnd test xs i
end_in_tail test x xs i h = record {
  within = let w : suc i ≤ suc (length xs) = h.within in omega arith;
  passes = λ lt d. h.passes (omega arith) d;
  before = λ k d l u. h.before (suc k) d (omega arith) (omega arith);
}
