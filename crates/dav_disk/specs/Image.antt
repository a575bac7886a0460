-- What is shown of a file's state, and how an image is chosen.
use Rattle.std.specs.Prelude.{◌≡◌, ◌⊎◌, ℕ, List, slice_index}
use Rattle.dav_disk.specs.Disk.{IsOutside}
use Rattle.dav_disk.specs.Record.{FileState}

-- these are the parts of the state, but for what was touched
pub record Shows (seen synced : List ℕ) (least greatest : ℕ) (s : FileState) : Type 0 where
  pub read : seen ≡ s.seen
  pub settled : synced ≡ s.doubt.synced
  pub shortest : least ≡ s.doubt.least
  pub longest : greatest ≡ s.doubt.greatest

-- the byte at a place is the synced one where nothing touched it, and the wished one elsewhere
abbrev pub IsPicked : FileState → List ℕ → List ℕ → List ℕ → ℕ → Type 0
IsPicked s synced wish bytes i =
    (IsOutside i s.doubt.changes × (slice_index bytes i ≡ slice_index synced i))
    ⊎ ((IsOutside i s.doubt.changes → ⊥) × (slice_index bytes i ≡ slice_index wish i))
