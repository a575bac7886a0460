-- The log of a device in memory, and how its calls change it.
use Rattle.std.specs.Prelude.{◌≡◌, ◌≤◌, ◌⊎◌, ◌++◌, List, [], ◌∷◌, map, Option, Some, None, option_map, cond}
use Rattle.dav_machine.specs.Log.{Rose}
use Rattle.dav_edge.specs.Device.{Happened, DeviceLog}
use Rattle.dav_edge.specs.Note.{event_of}
use Rattle.dav_edge.specs.declared.history.History.{History}

-- it tells what is written down, unless it stopped telling
abbrev pub log_of : History → DeviceLog
log_of r = record { told = cond r.tells (Some (map event_of r.notes.items)) None; faults = r.faults }

-- what was told, and one event more
abbrev pub told_and : Option (List Happened) → Happened → Option (List Happened)
told_and told e = option_map (λ (es : List Happened). es ++ e ∷ []) told

-- the call is told after the others, and no fault was counted
pub record Wrote (old new : DeviceLog) (e : Happened) : Type 0 where
  pub told : new.told ≡ told_and old.told e
  pub faults : new.faults ≡ old.faults

-- nothing is told any more, and a fault was counted
pub record Stopped (old new : DeviceLog) : Type 0 where
  pub told : new.told ≡ None
  pub no_fewer : old.faults ≤ new.faults
  pub rose : Rose old.faults new.faults

-- a fault was counted, and the call is told after the others, or nothing is told any more
pub record Faulted (old new : DeviceLog) (e : Happened) : Type 0 where
  pub told : (new.told ≡ None) ⊎ (new.told ≡ told_and old.told e)
  pub no_fewer : old.faults ≤ new.faults
  pub rose : Rose old.faults new.faults

-- no fault was counted, and the call is told after the others, or nothing is told any more
pub record Passed (old new : DeviceLog) (e : Happened) : Type 0 where
  pub told : (new.told ≡ None) ⊎ (new.told ≡ told_and old.told e)
  pub faults : new.faults ≡ old.faults
