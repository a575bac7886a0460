-- What a step puts on the disk, by its table.
use Rattle.std.specs.Prelude.{◌≡◌, ℕ, List, Option, Some, None}
use Rattle.dav_store.specs.Body.{id_of}
use Rattle.dav_store.specs.declared.body_id.BodyId.{BodyId}
use Rattle.dav_index.specs.Bounds.{bodies_of}
use Rattle.dav_index.specs.Tables.{replay}
use Rattle.dav_index.specs.declared.record.Record.{Record}
use Rattle.dav_index.specs.declared.table.Table.{Table}
use Rattle.dav_deeds.specs.DeskTable.{DeskTable, reopened}
use Rattle.dav_deeds.specs.Effects.{record_of}
use Rattle.dav_deeds.specs.declared.deed.Step.{Step}
use Rattle.dav_recorder.specs.Stands.{Spares}
use Rattle.dav_recorder.specs.Due.{IsDue}

-- the table that a start finds again
abbrev pub kept_table : DeskTable → Table
kept_table t = (reopened t).index

-- the step of a desk with this table has a record, and these are its text, the new body and the files that it frees
pub record IsPlanned (t : DeskTable) (s : Step) (bodies : ℕ → List ℕ) (fresh : Option ℕ) (bytes row freed : List ℕ) : Type 0 where
  pub r : Record
  pub record_is : record_of t s.now s.deed ≡ Some r
  pub due : IsDue (kept_table t) (replay (kept_table t) r) r bodies fresh bytes row freed

-- the step has no record, and these are the files that it frees
pub record IsQuiet (t : DeskTable) (s : Step) (freed : List ℕ) : Type 0 where
  pub record_is : record_of t s.now s.deed ≡ None
  pub spared : Spares freed (bodies_of (kept_table t))

-- the file of the new body, if there is one, and these are its bytes, which are given for that file
abbrev pub HasNew : Option BodyId → (ℕ → List ℕ) → Option ℕ → List ℕ → Type 0
HasNew None bodies fresh bytes = fresh ≡ None
HasNew (Some id) bodies fresh bytes = (fresh ≡ Some id.file) × (id ≡ id_of id.file bytes) × (bodies id.file ≡ bytes)
