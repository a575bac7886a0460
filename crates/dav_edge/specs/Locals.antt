-- The calls of a device that has local files, and what is said of the files.
use Rattle.std.specs.Prelude.{◌≡◌, ◌≢◌, ℕ, ◌<◌, List, length, Option, Some, None, Result, Ok, Err, Bool, true, false}
use Rattle.dav_machine.specs.Log.{Event, event, Log, Grows}
use Rattle.dav_machine.specs.Machine.{Machine}
use Rattle.dav_edge.specs.declared.local_fault.LocalFault.{LocalFault}
use Rattle.dav_edge.specs.declared.local_fault.LocalFault.TheVariants.{NoFile, TooLong, Failed, Memory}

pub data LocalCall : Type 0 where
  Load : (name : List ℕ) (limit : ℕ) → LocalCall
  Store : (name bytes : List ℕ) → LocalCall

pub data LocalAnswer : Type 0 where
  Loads : (bytes : List ℕ) → LocalAnswer
  Stores : LocalAnswer
  Refuses : (fault : LocalFault) → LocalAnswer

abbrev pub LocalEvent : Type 0
LocalEvent = Event LocalCall LocalAnswer

abbrev pub LocalLog : Type 0
LocalLog = Log LocalEvent

-- the device failed, which it counts
abbrev pub is_counted : LocalFault → Bool
is_counted Failed = true
is_counted NoFile = false
is_counted TooLong = false
is_counted Memory = false

abbrev pub is_local_failure : LocalAnswer → Bool
is_local_failure (Loads bytes) = false
is_local_failure Stores = false
is_local_failure (Refuses fault) = is_counted fault

-- these calls came on top of the old log
abbrev pub LocalsGrew : LocalLog → LocalLog → List LocalEvent → Type 0
LocalsGrew old new events = Grows is_local_failure old new events

abbrev pub loaded : List ℕ → ℕ → Result (List ℕ) LocalFault → LocalEvent
loaded name limit (Ok bytes) = event (Load name limit) (Loads bytes)
loaded name limit (Err fault) = event (Load name limit) (Refuses fault)

abbrev pub stored : List ℕ → List ℕ → Result (Unit {0}) LocalFault → LocalEvent
stored name bytes (Ok _) = event (Store name bytes) Stores
stored name bytes (Err fault) = event (Store name bytes) (Refuses fault)

-- a machine that is driven by the answers of one such device
abbrev pub LocalMachine : Type 0 → Type 1
LocalMachine R = Machine (List LocalEvent) (List LocalAnswer) R

-- the bytes of the file of each name; none where there is no such file
abbrev pub LocalFiles : Type 0
LocalFiles = List ℕ → Option (List ℕ)

-- there is a file, and it is longer
abbrev pub IsLonger : ℕ → Option (List ℕ) → Type 0
IsLonger limit None = ⊥
IsLonger limit (Some bytes) = limit < length bytes

-- All files are as they were. A device may stop telling them, and tells nothing from then on.
abbrev pub FilesStay : Option LocalFiles → Option LocalFiles → Type 0
FilesStay old None = Unit {0}
FilesStay None (Some new) = ⊥
FilesStay (Some old) (Some new) = (name : List ℕ) → new name ≡ old name

-- the same of all files but one
abbrev pub OtherFilesStay : List ℕ → Option LocalFiles → Option LocalFiles → Type 0
OtherFilesStay name old None = Unit {0}
OtherFilesStay name None (Some new) = ⊥
OtherFilesStay name (Some old) (Some new) = (other : List ℕ) → other ≢ name → new other ≡ old other
