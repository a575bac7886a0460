-- The faults by which a desk may be dead.
use Rattle.std.specs.Prelude.{Option, Some, None}
use Rattle.dav_deeds.specs.declared.fault.DeskFault.{DeskFault}
use Rattle.dav_deeds.specs.declared.fault.DeskFault.TheVariants.{Disk, NotACache, Damaged, OtherServer, Queued, NoSuchJob, Crowded, Limit, Memory}

-- a fault by which a desk may be dead
abbrev pub IsEnd : DeskFault → Type 0
IsEnd Disk = Unit {0}
IsEnd (NotACache at) = Unit {0}
IsEnd (Damaged file stored found) = Unit {0}
IsEnd (OtherServer kept asked) = ⊥
IsEnd (Queued path) = ⊥
IsEnd (NoSuchJob number) = ⊥
IsEnd (Crowded oldest) = ⊥
IsEnd (Limit which) = ⊥
IsEnd Memory = ⊥

-- what a desk died of, if it is dead
abbrev pub IsEndIfAny : Option DeskFault → Type 0
IsEndIfAny None = Unit {0}
IsEndIfAny (Some fault) = IsEnd fault
