-- What a fault of the desk means to the program.
use Rattle.dav_deeds.specs.declared.fault.DeskFault.{DeskFault}
use Rattle.dav_deeds.specs.declared.fault.DeskFault.TheVariants as faults
use Rattle.dav_run.specs.declared.cause.Cause.{Cause}
use Rattle.dav_run.specs.declared.cause.Cause.TheVariants.{Crowded, Limit, Memory, Disk, Cache}

abbrev pub cause_of : DeskFault → Cause
cause_of (faults.Crowded oldest) = Crowded oldest
cause_of (faults.Limit which) = Limit which
cause_of faults.Memory = Memory
cause_of faults.Disk = Disk
cause_of (faults.NotACache at) = Cache (faults.NotACache at)
cause_of (faults.Damaged file kept found) = Cache (faults.Damaged file kept found)
cause_of (faults.OtherServer kept asked) = Cache (faults.OtherServer kept asked)
cause_of (faults.Queued path) = Cache (faults.Queued path)
cause_of (faults.NoSuchJob number) = Cache (faults.NoSuchJob number)

-- the fault that means this
abbrev pub fault_of : Cause → DeskFault
fault_of (Crowded oldest) = faults.Crowded oldest
fault_of (Limit which) = faults.Limit which
fault_of Memory = faults.Memory
fault_of Disk = faults.Disk
fault_of (Cache fault) = fault
