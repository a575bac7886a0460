-- How one field of a record is read.
use Rattle.std.specs.Prelude.{◌≡◌, ◌≢◌, ◌⊎◌, ◌+◌, ◌^◌, ◌<◌, ℕ, List, ◌++◌, length, Result, MatchResult}
use Rattle.dav_store.specs.declared.body_id.BodyId.{BodyId}
use Rattle.dav_index.specs.Left.{Left}
use Rattle.dav_index.specs.Records.{two_bytes}
use Rattle.dav_index.specs.Faults.{Shape, IsCutOff, IsWrong}
use Rattle.dav_index.specs.declared.fault.RecordFault.{RecordFault}
use Rattle.dav_index.specs.declared.fault.RecordFault.TheVariants.{Short, Field, Memory}

-- this text was taken from the front of what was left
pub record IsTaken (text : List ℕ) (old new : Left) : Type 0 where
  pub split : old.rest ≡ text ++ new.rest
  pub at : new.at ≡ old.at + length text

-- the first field of what is left isn't whole, or has a value that it can't have
abbrev pub IsFieldFault : Shape → Left → RecordFault → Type 0
IsFieldFault shape left fault =
    (IsCutOff shape left.rest × (fault ≡ Short)) ⊎ (IsWrong shape left.rest × (fault ≡ Field left.at))

-- the field was read: its value is one that it can have, and its text was taken; or why not
abbrev pub Reads : {T : Type 0} → Shape → (T → Type 0) → (T → List ℕ) → Left → Left → Result T RecordFault → Type 0
Reads shape IsValid text old new result =
    MatchResult result (λ value. IsValid value × IsTaken (text value) old new) (λ fault. fault ≢ Memory → IsFieldFault shape old fault)

-- a length in two bytes and this text
abbrev pub sized : List ℕ → List ℕ
sized text = two_bytes (length text) ++ text

-- the text stands in front
abbrev pub Begins : List ℕ → List ℕ → Type 0
Begins text bytes = (more : List ℕ) × (bytes ≡ text ++ more)

-- the numbers of a body fit, and its sum has its size
pub record IsNumbered (body : BodyId) : Type 0 where
  pub file_fits : body.file < 2 ^ 32
  pub len_fits : body.len < 2 ^ 64
  pub sum_size : length body.sum ≡ 32
