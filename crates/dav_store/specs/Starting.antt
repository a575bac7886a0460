-- What the first bytes from a gate on say.
use Rattle.std.specs.Prelude.{◌≡◌, ◌≢◌, ℕ, ◌+◌, ◌*◌, ◌<◌, List, [], ◌∷◌}
use Rattle.dav_store.specs.declared.row.Start.{Start}
use Rattle.dav_store.specs.declared.row.Start.TheVariants.{Closed, Broken, Long}

-- no byte, or an open gate with a length that is cut off or 0
abbrev pub LacksLength : List ℕ → Type 0
LacksLength [] = Unit {0}
LacksLength (gate ∷ []) = gate ≢ 0
LacksLength (gate ∷ high ∷ []) = gate ≢ 0
LacksLength (gate ∷ high ∷ low ∷ more) = (gate ≢ 0) × (high ≡ 0) × (low ≡ 0)

abbrev pub IsJudged : List ℕ → Start → Type 0
IsJudged bytes Closed = (more : List ℕ) × (bytes ≡ 0 ∷ more)
IsJudged bytes Broken = LacksLength bytes
IsJudged bytes (Long n) = (gate : ℕ) × (high : ℕ) × (low : ℕ) × (more : List ℕ) × (gate ≢ 0) × (high < 256) × (low < 256) × (n ≡ high * 256 + low) × (0 < n) × (bytes ≡ gate ∷ high ∷ low ∷ more)
