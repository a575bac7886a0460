-- What contracts see of a disk over recorded calls.
use Rattle.dav_disk.specs.declared.modelled.Modelled.{Modelled}
use Rattle.dav_disk.specs.declared.calls.Calls as calls
use Rattle.dav_disk.specs.declared.start.Start.{Ghosts}

module _ {C S : Type 0} {g : calls.Ghosts C} where
  abbrev pub calls_of : {start : Ghosts S} → Modelled C S g start → C
  calls_of it = it.calls
