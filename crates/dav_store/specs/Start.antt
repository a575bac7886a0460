-- What a start finds in the index file.
use Rattle.std.specs.Prelude.{◌≡◌, ◌⊎◌, ℕ, ◌/◌, ◌%◌, ◌<◌, ◌≤◌, List, ◌∷◌, length}
use Rattle.dav_store.specs.Rows.{HasRow}

-- the head's payload: DAVC, the version 1, the length of the base URL's text in two bytes, and the text
abbrev pub head_of : List ℕ → List ℕ
head_of text = 68 ∷ 65 ∷ 86 ∷ 67 ∷ 1 ∷ length text / 256 ∷ length text % 256 ∷ text

abbrev pub IsHead : List ℕ → Type 0
IsHead payload = (text : List ℕ) × (length text < 65536) × (payload ≡ head_of text)

-- nothing stands: there is at most one byte, or the first gate is closed
abbrev pub IsNothing : List ℕ → Type 0
IsNothing file = (length file ≤ 1) ⊎ ((more : List ℕ) × (file ≡ 0 ∷ more))

-- there is something, and it does not begin with a whole head
abbrev pub LacksHead : List ℕ → Type 0
LacksHead file = (IsNothing file → ⊥) × ((row : List ℕ) → HasRow row file → IsHead row → ⊥)

-- why a start refuses the file, and the offset that it tells: one of 2^40 bytes or more is no index at 2^40, one without
-- a head at 0
abbrev pub IsRefused : ℕ → List ℕ → Type 0
IsRefused at file = ((at ≡ 1099511627776) × (1099511627776 ≤ length file)) ⊎ ((at ≡ 0) × (length file < 1099511627776) × LacksHead file)
