-- What contracts see of the table of a desk, and what is true of its parts.
use Rattle.dav_deeds.specs.declared.desk_table.DeskTable.TheInside.{Inside}
use Rattle.dav_deeds.specs.DeskTable.{DeskTable}
use Rattle.dav_deeds.specs.Sound.{IsSound}

abbrev pub table_of : Inside → DeskTable
table_of d = record { index = d.index; job = d.job; jobs = d.jobs; stopping = d.stopping }

abbrev pub IsHeld : Inside → Type 0
IsHeld d = IsSound (table_of d)
