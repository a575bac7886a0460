-- What a handler is lent, one after another.
use Rattle.std.specs.Prelude.{◌≡◌, ℕ, List, [], ◌∷◌}
use Rattle.dav_walk.specs.Tree.{Item}
use Rattle.dav_walk.specs.declared.handler.Next.{Next}
use Rattle.dav_walk.specs.declared.handler.Next.TheVariants.{Go, Stop}

-- a response as a handler sees it: its elements, and how many responses came before it
pub record Response : Type 0 where
  pub items : List Item
  pub index : ℕ

-- the handler is lent each of these, in order, and goes on after each
abbrev pub LentAll : {S : Type 0} → (S → Response → Next → S → Type 0) → S → List Response → S → Type 0
LentAll lends old [] new = new ≡ old
LentAll {S} lends old (x ∷ xs) new = (mid : S) × lends old x Go mid × LentAll lends mid xs new

-- the handler is lent these, goes on after each but the last, and stops there
abbrev pub LentToStop : {S : Type 0} → (S → Response → Next → S → Type 0) → S → List Response → S → Type 0
LentToStop lends old [] new = ⊥
LentToStop lends old (x ∷ []) new = lends old x Stop new
LentToStop {S} lends old (x ∷ y ∷ ys) new = (mid : S) × lends old x Go mid × LentToStop lends mid (y ∷ ys) new
