-- What a step puts on the disk.
use Rattle.std.specs.Prelude.{◌≡◌, ℕ, List, Option}
use Rattle.dav_index.specs.Records.{text_of, IsRecord}
use Rattle.dav_index.specs.Tables.{replay}
use Rattle.dav_index.specs.Bounds.{bodies_of, IsWithin}
use Rattle.dav_index.specs.declared.record.Record.{Record}
use Rattle.dav_index.specs.declared.table.Table.{Table}
use Rattle.dav_recorder.specs.Stands.{IsCommit}

-- The row is the text of a record, which leads from the one table to the other, and that one is within bounds. What the table
-- from after names are bodies from before, and the new one; the files that are emptied are of none of them.
pub record IsDue (before after : Table) (r : Record) (bodies : ℕ → List ℕ) (fresh : Option ℕ) (bytes row freed : List ℕ) : Type 0 where
  pub row_is : row ≡ text_of r
  pub is_record : IsRecord r
  pub after_is : after ≡ replay before r
  pub within : IsWithin after
  pub bodies_are : IsCommit (bodies_of before) (bodies_of after) bodies fresh bytes freed
