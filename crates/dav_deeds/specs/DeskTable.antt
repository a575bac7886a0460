-- The whole table of a desk: that of its index, and what a start doesn't keep.
use Rattle.std.specs.Prelude.{ℕ, Bool, false, Option, None}
use Rattle.dav_index.specs.Tables.{restarted}
use Rattle.dav_index.specs.declared.table.Table.{Table}
use Rattle.dav_deeds.specs.declared.answer.Flight.{Flight}

-- the table of the index, the job in flight, the number of jobs so far, and whether the desk is about
-- to end
pub record DeskTable : Type 0 where
  pub index : Table
  pub job : Option Flight
  pub jobs : ℕ
  pub stopping : Bool

-- a desk that starts with this table
abbrev pub started : Table → DeskTable
started index = record { index = index; job = None; jobs = 0; stopping = false }

-- the table that a start finds again
abbrev pub reopened : DeskTable → DeskTable
reopened t = started (restarted t.index)
