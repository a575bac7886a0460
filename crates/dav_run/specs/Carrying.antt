-- How far the shell has come in the input.
use Rattle.std.specs.Prelude.{◌≡◌, ◌<◌, ℕ, List, [], ◌∷◌, ◌++◌, Bool, true, false, Result, Ok, Err}
use Rattle.dav_machine.specs.Log.{any_failed}
use Rattle.dav_machine.specs.Machine.{Reaches, Does}
use Rattle.dav_edge.specs.Device.{Happened, happened, Receive, Fails, Gives, DeviceLog, Grew, given, is_failure}
use Rattle.dav_desk.specs.declared.desk.Desk.{Desk}
use Rattle.dav_upload.specs.Desks.{DiskView}
use Rattle.dav_run.specs.declared.pending.Pending.{Pending}
use Rattle.dav_run.specs.declared.stop.Halt.{Halt}
use Rattle.dav_run.specs.declared.stop.Stop.{Stop}
use Rattle.dav_run.specs.Stops.{stop_of}
use Rattle.dav_run.specs.declared.stop.Stop.TheVariants as stops
use Rattle.dav_run.specs.Devices.{all, AllGrew, RunMachine}
use Rattle.dav_run.specs.Line.{without_return}
use Rattle.dav_run.specs.Pending.{Holds}
use Rattle.dav_run.specs.Shell.{State, Carries, AtEnd, Shell}

-- calls on the sink and asks of the desk led from one machine to another; the wire was not called
abbrev pub ReachesHere : {D R : Type 0} → DiskView D → DeviceLog → DeviceLog → Desk D → Desk D → RunMachine R → RunMachine R → Type 0
ReachesHere view old new desk_old desk_new before after = (wire : DeviceLog) → Reaches all (AllGrew view old new wire wire desk_old desk_new) before after

-- the machine was run to its end by them
abbrev pub DoesHere : {D R : Type 0} → DiskView D → DeviceLog → DeviceLog → Desk D → Desk D → RunMachine R → R → Type 0
DoesHere view old new desk_old desk_new machine r = (wire : DeviceLog) → Does all (AllGrew view old new wire wire desk_old desk_new) machine r

-- the line, whether a line feed ends it or the input's end
abbrev pub line_at : Bool → List ℕ → List ℕ
line_at true begun = without_return begun
line_at false begun = begun

abbrev pub CarriesOn : {D : Type 0} → DiskView D → DeviceLog → DeviceLog → Desk D → Desk D → List ℕ → State → State → Result (Unit {0}) Halt → Type 0
CarriesOn view old new desk_old desk_new line before now went = DoesHere view old new desk_old desk_new (Carries line before) (went, now)

-- the piece was read, and what follows it is still to be read; or the shell stopped in it
abbrev pub ReadsPiece : {D : Type 0} → DiskView D → DeviceLog → DeviceLog → Desk D → Desk D → List ℕ → List ℕ → Pending → State → State → Result (Unit {0}) Halt → Type 0
ReadsPiece view old new desk_old desk_new piece begun pending before now (Ok done) =
    (line : List ℕ) × Holds pending line
    × ((more : List ℕ) (failed : Bool) → ReachesHere view old new desk_old desk_new (Shell (piece ++ more) failed begun before) (Shell more failed line now))
ReadsPiece view old new desk_old desk_new piece begun pending before now (Err halt) =
    (more : List ℕ) (failed : Bool) → DoesHere view old new desk_old desk_new (Shell (piece ++ more) failed begun before) (stop_of halt, now)

-- the last of these calls had room for a byte, and was answered with none: the source's end; none failed
pub record HeardEnd (heard : List Happened) : Type 0 where
  pub earlier : List Happened
  pub room : ℕ
  pub some_room : 0 < room
  pub fine : any_failed is_failure earlier ≡ false
  pub last : heard ≡ earlier ++ happened (Receive room) (Gives []) ∷ []

-- the last of these calls failed, and no other
pub record HeardFailure (heard : List Happened) : Type 0 where
  pub earlier : List Happened
  pub room : ℕ
  pub fine : any_failed is_failure earlier ≡ false
  pub last : heard ≡ earlier ++ happened (Receive room) Fails ∷ []

-- how the source went, where the shell came to this stop
abbrev pub IsHeard : Stop → List Happened → Type 0
IsHeard stops.End heard = HeardEnd heard
IsHeard stops.Input heard = HeardFailure heard
IsHeard stops.Output heard = any_failed is_failure heard ≡ false
IsHeard (stops.Desk fault) heard = any_failed is_failure heard ≡ false

-- The source gave these bytes, and the shell came to this stop over them. It comes to the stop of the input's end
-- only where the source said that it is there, and goes on no further where a call failed.
pub record ReadsAll {D : Type 0} (view : DiskView D) (source_old source_new old new : DeviceLog) (desk_old desk_new : Desk D) (before now : State) (stop : Stop) : Type 0 where
  pub heard : List Happened
  pub gave : Grew source_old source_new heard
  pub does : DoesHere view old new desk_old desk_new (Shell (given heard) (any_failed is_failure heard) [] before) (stop, now)
  pub ended : IsHeard stop heard

abbrev pub EndsOn : {D : Type 0} → DiskView D → DeviceLog → DeviceLog → Desk D → Desk D → List ℕ → State → State → Stop → Type 0
EndsOn view old new desk_old desk_new begun before now stop = DoesHere view old new desk_old desk_new (AtEnd false begun before) (stop, now)
