-- A walker's parts.
use Rattle.std.specs.Prelude.{◌≡◌}
use Rattle.dav_walk.specs.declared.walker.State.TheVariants.{Going}
use Rattle.dav_walk.specs.declared.walker.Walker.TheInside.{Inside}
use Rattle.dav_walk.specs.Collecting.{gathering_of}
use Rattle.dav_walk.specs.Walking.{IsReading}
use Rattle.dav_walk.specs.WalkerView.{Walking}

abbrev pub walking_in : Inside → Walking
walking_in w = record { root = w.root; scan = w.scan; gathered = gathering_of w.collector; state = w.state }

abbrev pub IsSound : Inside → Type 0
IsSound w = w.state ≡ Going → IsReading w.scan
