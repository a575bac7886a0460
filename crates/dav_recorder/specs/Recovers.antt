-- The images that recover to a table.
use Rattle.std.specs.Prelude.{◌≡◌, ◌⊎◌, ℕ, List, [], ◌∷◌, map}
use Rattle.dav_disk.specs.Disk.{Doubt, IsImage}
use Rattle.dav_store.specs.Start.{IsNothing, head_of}
use Rattle.dav_index.specs.Records.{text_of, IsRecord}
use Rattle.dav_index.specs.Tables.{replay, fresh_table}
use Rattle.dav_index.specs.Bounds.{bodies_of, IsWithin}
use Rattle.dav_index.specs.declared.table.Table.{Table}
use Rattle.dav_index.specs.declared.record.Record.{Record}
use Rattle.dav_recorder.specs.Stands.{Stands, IsSafe}

-- these records lead from one table to another, each of them to one within bounds
abbrev pub Replays : Table → List Record → Table → Type 0
Replays before [] after = after ≡ before
Replays before (r ∷ records) after = IsRecord r × IsWithin (replay before r) × Replays (replay before r) records after

-- the rows of an index: a head with this URL, and records
abbrev pub rows_of : List ℕ → List Record → List (List ℕ)
rows_of url records = head_of url ∷ map text_of records

-- the image has an index of this URL whose records lead to the table, and each body that the table names
pub record IsRecorded (url : List ℕ) (table : Table) (bodies : ℕ → List ℕ) (image : ℕ → List ℕ) : Type 0 where
  pub records : List Record
  pub replays : Replays fresh_table records table
  pub stands : Stands (rows_of url records) (bodies_of table) bodies image

-- it has such an index, or nothing stands in it and the table is a fresh one
abbrev pub Recovers : List ℕ → Table → (ℕ → List ℕ) → (ℕ → List ℕ) → Type 0
Recovers url table bodies image = (IsNothing (image 0) × (table ≡ fresh_table)) ⊎ IsRecorded url table bodies image

-- each image that a stop may leave recovers to the table
abbrev pub AllRecover : List ℕ → Table → (ℕ → List ℕ) → (ℕ → Doubt) → Type 0
AllRecover url table bodies doubts = (image : ℕ → List ℕ) → IsImage doubts image → Recovers url table bodies image

-- the whole table is on the disk, and its index can be added to
pub record IsConsistent (url : List ℕ) (table : Table) (bodies : ℕ → List ℕ) (end : ℕ) (seen : ℕ → List ℕ) (doubts : ℕ → Doubt) : Type 0 where
  pub records : List Record
  pub replays : Replays fresh_table records table
  pub safe : IsSafe (rows_of url records) (bodies_of table) bodies end seen doubts

-- the image recovers to the table from before, or to the one from after
abbrev pub RecoversEither : List ℕ → Table → Table → (ℕ → List ℕ) → (ℕ → List ℕ) → Type 0
RecoversEither url before after bodies image = Recovers url before bodies image ⊎ Recovers url after bodies image
