-- Places in a list.
use Rattle.std.specs.Prelude.{◌≡◌, ℕ, ◌<◌, Bool, true, false, List, length}
use Rattle.std.specs.List.{HoldsAt, AllWithin}

-- no element passes the test
abbrev pub NonePasses : {X : Type 0} → (X → Bool) → List X → Type 0
NonePasses test xs = AllWithin (λ x. test x ≡ false) xs 0 (length xs)

-- the first place at which the test holds
pub record IsFirst {X : Type 0} (test : X → Bool) (xs : List X) (place : ℕ) : Type 0 where
  pub within : place < length xs
  pub passes : HoldsAt (λ x. test x ≡ true) xs place
  pub before : AllWithin (λ x. test x ≡ false) xs 0 place
