-- A desk between turns.
use Rattle.std.specs.Prelude.{◌≡◌, None}
use Rattle.dav_deeds.specs.DeskTable.{DeskTable}
use Rattle.dav_deeds.specs.Sound.{IsSound}

-- the table is within its bounds, and no job is in flight
pub record IsResting (t : DeskTable) : Type 0 where
  pub sound : IsSound t
  pub free : t.job ≡ None
