-- The numbers that a process ends with, and at which statuses the input may not be at its end.
use Rattle.std.specs.Prelude.{ℕ}
use Rattle.dav_run.specs.declared.ended.Status.{Status}
use Rattle.dav_run.specs.declared.ended.Status.TheVariants.{Done, Faults, Words, Disk, Input, Output, Cache, Memory}

abbrev pub code_of : Status → ℕ
code_of Done = 0
code_of Faults = 1
code_of Words = 2
code_of Disk = 3
code_of Input = 4
code_of Output = 5
code_of (Cache fault) = 6
code_of Memory = 8

-- a status of a run that a fault of the desk or want of memory ended
abbrev pub IsCutShort : Status → Type 0
IsCutShort Done = ⊥
IsCutShort Faults = ⊥
IsCutShort Words = ⊥
IsCutShort Disk = Unit {0}
IsCutShort Input = ⊥
IsCutShort Output = ⊥
IsCutShort (Cache fault) = Unit {0}
IsCutShort Memory = Unit {0}

-- a status of a run that read its input to its end
abbrev pub IsBehind : Status → Type 0
IsBehind Done = Unit {0}
IsBehind Faults = Unit {0}
IsBehind Words = ⊥
IsBehind Disk = Unit {0}
IsBehind Input = ⊥
IsBehind Output = Unit {0}
IsBehind (Cache fault) = Unit {0}
IsBehind Memory = Unit {0}
