-- What an index file spells: rows, each behind an open gate, and then a closed gate.
use Rattle.std.specs.Prelude.{◌≡◌, ◌≢◌, ◌⊎◌, ℕ, ◌/◌, ◌%◌, ◌<◌, List, [], ◌∷◌, ◌++◌, length}
use Rattle.dav_disk.specs.Disk.{Doubt, settled}

-- a row's payload has 1 to 65,535 bytes
abbrev pub IsPayload : List ℕ → Type 0
IsPayload row = (0 < length row) × (length row < 65536)

-- a gate, the payload's length in two bytes, the high one first, and the payload
abbrev pub row_text : ℕ → List ℕ → List ℕ
row_text gate row = gate ∷ length row / 256 ∷ length row % 256 ∷ row

-- the text is these rows; a gate is closed where it is 0, and open at every other value
abbrev pub Rows : List (List ℕ) → List ℕ → Type 0
Rows [] text = text ≡ []
Rows (row ∷ rows) text = (gate : ℕ) × (rest : List ℕ) × (gate ≢ 0) × IsPayload row × (text ≡ row_text gate row ++ rest) × Rows rows rest

-- these rows stand in the file; what follows the closed gate is not read
pub record Spells (rows : List (List ℕ)) (file : List ℕ) : Type 0 where
  pub front : List ℕ
  pub rest : List ℕ
  pub open_rows : Rows rows front
  pub split : file ≡ front ++ 0 ∷ rest

-- what is behind some rows begins with a closed gate
abbrev pub IsClosed : List ℕ → Type 0
IsClosed rest = (more : List ℕ) × (rest ≡ 0 ∷ more)

-- it begins with this row behind an open gate
abbrev pub HasRow : List ℕ → List ℕ → Type 0
HasRow row rest = (gate : ℕ) × (more : List ℕ) × (gate ≢ 0) × IsPayload row × (rest ≡ row_text gate row ++ more)

-- it does neither: the gate is missing, or the row is cut off or has the length 0
abbrev pub IsBroken : List ℕ → Type 0
IsBroken rest = (IsClosed rest → ⊥) × ((row : List ℕ) → HasRow row rest → ⊥)

-- the file begins with these rows, which end at this offset, and all of it is on the disk
pub record IsReading (rows : List (List ℕ)) (end : ℕ) (seen : List ℕ) (doubt : Doubt) : Type 0 where
  pub front : List ℕ
  pub rest : List ℕ
  pub open_rows : Rows rows front
  pub split : seen ≡ front ++ rest
  pub size : length front ≡ end
  pub durable : doubt ≡ settled seen

-- these rows stand in the file, the closed gate behind them is at this offset, and all of it is on the disk
pub record IsAtRest (rows : List (List ℕ)) (end : ℕ) (seen : List ℕ) (doubt : Doubt) : Type 0 where
  pub front : List ℕ
  pub rest : List ℕ
  pub open_rows : Rows rows front
  pub split : seen ≡ front ++ 0 ∷ rest
  pub size : length front ≡ end
  pub durable : doubt ≡ settled seen

-- some rows stand in the file, and the closed gate behind them is at this offset
abbrev pub IsReady : ℕ → List ℕ → Doubt → Type 0
IsReady end seen doubt = (rows : List (List ℕ)) × IsAtRest rows end seen doubt

-- these rows stand in the file, or these and one more
abbrev pub IsBeforeOrAfter : List (List ℕ) → List ℕ → List ℕ → Type 0
IsBeforeOrAfter rows row file = Spells rows file ⊎ Spells (rows ++ row ∷ []) file

-- what is written behind a closed gate to add a row: the row but for its gate, and the closed gate of the next one
abbrev pub staged : List ℕ → List ℕ
staged row = length row / 256 ∷ length row % 256 ∷ row ++ 0 ∷ []
