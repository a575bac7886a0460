-- The room that a desk has for the end of its job in flight.
use Rattle.std.specs.Prelude.{ℕ, ◌<◌, Bool, true, false, length, Option, Some, None, if◌then◌else◌}
use Rattle.std.specs.Vec.{vec_capacity}
use Rattle.dav_deeds.specs.Answers.{kind_told, is_end}
use Rattle.dav_deeds.specs.Spare.{HasSpare}
use Rattle.dav_deeds.specs.declared.answer.Flight.{Flight}
use Rattle.dav_deeds.specs.declared.answer.Told.{Told}
use Rattle.dav_desk.specs.declared.desk.Desk.{Desk}

-- for how many steps more there has to be room before this one
abbrev pub slots : Option Told → ℕ
slots told = if is_end (kind_told told) then 1 else 2

-- there is room for a step more where a job is in flight
abbrev pub HasSlotOf : Option Flight → ℕ → ℕ → Type 0
HasSlotOf None count room = Unit {0}
HasSlotOf (Some flight) count room = count < room

-- where a job is in flight there is all that its end needs
pub record HasRoom {D : Type 0} (desk : Desk D) : Type 0 where
  pub spare : HasSpare desk.table desk.spare
  pub slot : HasSlotOf desk.table.job (length desk.recorder.trace.steps.items) (vec_capacity desk.recorder.trace.steps)

-- the same before a step with this answer, where the memory is in use already if the step is that end
abbrev pub IsHeldBy : {D : Type 0} → Bool → Desk D → Type 0
IsHeldBy false desk = HasRoom desk
IsHeldBy true desk = length desk.recorder.trace.steps.items < vec_capacity desk.recorder.trace.steps

abbrev pub IsHeldFor : {D : Type 0} → Option Told → Desk D → Type 0
IsHeldFor told desk = IsHeldBy (is_end (kind_told told)) desk
