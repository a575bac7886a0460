-- How far the heads and the trailers of one reply may go: 65,536 bytes of them together, and nothing
-- of a head or of the trailers after its 130th line feed.
use Rattle.std.specs.Prelude.{◌≡◌, ℕ, ◌+◌, ◌<◌, ◌≤◌, ◌==◌, Bool, true, false, List, [], ◌++◌, length, take, count_by}

-- how many line feeds there are
abbrev pub feeds : List ℕ → ℕ
feeds bytes = count_by (λ b. b == 10) bytes

-- the byte at this place of a head, or of trailers, is within the limit, where so many bytes of heads
-- and trailers came before
abbrev pub IsFree : ℕ → List ℕ → ℕ → Type 0
IsFree before bytes place = (before + place < 65536) × (feeds (take place bytes) < 130)

-- each of these bytes is within the limit
abbrev pub IsWithin : ℕ → List ℕ → Type 0
IsWithin before bytes = (place : ℕ) → place < length bytes → IsFree before bytes place

-- each of them is, but perhaps the last
abbrev pub IsReached : ℕ → List ℕ → Type 0
IsReached before bytes = (place : ℕ) → place + 1 < length bytes → IsFree before bytes place

-- the last of them is the first past the limit
pub record IsPast (before : ℕ) (bytes : List ℕ) : Type 0 where
  pub place : ℕ
  pub last : length bytes ≡ place + 1
  pub full : ¬ (IsFree before bytes place)
  pub first : IsReached before bytes

-- the new bytes are the old ones and those of the piece, up to the first past the limit
pub record Keeps (before : ℕ) (old piece new : List ℕ) (past : Bool) : Type 0 where
  pub left : List ℕ
  pub split : old ++ piece ≡ new ++ left
  pub reached : IsReached before new
  pub few : feeds new ≤ 131
  pub size : before + length new ≤ 65537
  pub passes : past ≡ true → IsPast before new
  pub within : past ≡ false → IsWithin before new × (left ≡ [])
