-- The room that a desk has for the end of its job in flight.
use Rattle.std.proofs.Common.{◌≡◌, Bool, true, false, if◌then◌else◌, ℕ, ◌+◌, ◌<◌, ◌≤◌, List, ◌∷◌, [], ◌++◌, length, Option, Some, None, refl, sym, ◌∙◌, ap, subst, arith, length-append}
use Rattle.std.specs.Vec.{vec_capacity}
use Rattle.dav_deeds.specs.Answers.{Kind, Tells, Gives, Idles, Ends, kind_told, is_end, job_by}
use Rattle.dav_deeds.specs.DeskTable.{DeskTable}
use Rattle.dav_deeds.specs.Effects.{after, told_of}
use Rattle.dav_deeds.specs.Legal.{deed_of}
use Rattle.dav_deeds.specs.Spare.{HasSpare, HasSpareOf, ends_job}
use Rattle.dav_deeds.specs.declared.ask.Ask.{Ask}
use Rattle.dav_deeds.specs.declared.spare.Spare.{Spare}
use Rattle.dav_deeds.specs.declared.answer.Flight.{Flight}
use Rattle.dav_deeds.specs.declared.answer.Told.{Told}
use Rattle.dav_deeds.specs.declared.deed.Deed.{Deed}
use Rattle.dav_deeds.specs.declared.deed.Step.{Step}
use Rattle.dav_deeds.proofs.AllRows.{end_flies, end_told, job_after}
use Rattle.dav_recorder.specs.declared.recorder.Recorder.{Recorder}
use Rattle.dav_desk.specs.declared.desk.Desk.{Desk}
use Rattle.dav_desk.specs.Room.{slots, HasSlotOf, HasRoom, IsHeldBy, IsHeldFor}

-- as many steps, and no less room
slot_like : (job : Option Flight) (count count' room room' : ℕ) → count' ≡ count → room ≤ room' → HasSlotOf job count room → HasSlotOf job count' room'
slot_like None count count' room room' same more is = tt
slot_like (Some flight) count count' room room' same more is = omega (arith, same, more, is)

slot_free : (job : Option Flight) (count room : ℕ) → count < room → HasSlotOf job count room
slot_free None count room is = tt
slot_free (Some flight) count room is = is

module _ {D : Type 0} where
  -- the table is the same, and nothing was added to the trace
  pub room_like : (old : Desk D) (r : Recorder D) → r.trace.steps.items ≡ old.recorder.trace.steps.items → vec_capacity old.recorder.trace.steps ≤ vec_capacity r.trace.steps → HasRoom old → HasRoom (record old { recorder = r })
  room_like old r items more is = record {
    spare = is.spare;
    slot = slot_like old.table.job (length old.recorder.trace.steps.items) (length r.trace.steps.items) (vec_capacity old.recorder.trace.steps) (vec_capacity r.trace.steps) (ap length items) more is.slot;
  }

  -- before a step that isn't the end of a job there is all that the end needs
  pub held_room : (desk : Desk D) (told : Option Told) → (kind_told told ≡ Ends → ⊥) → IsHeldFor told desk → HasRoom desk
  held_room desk told other held = by (kind_told told) refl held
    where
      by : (k : Kind) → kind_told told ≡ k → IsHeldBy (is_end k) desk → HasRoom desk
      by Tells is h = h
      by (Gives flight) is h = h
      by Idles is h = h
      by Ends is h = absurd (other is)

  pub room_held : (desk : Desk D) (told : Option Told) → (kind_told told ≡ Ends → ⊥) → HasRoom desk → IsHeldFor told desk
  room_held desk told other room = by (kind_told told) refl
    where
      by : (k : Kind) → kind_told told ≡ k → IsHeldBy (is_end k) desk
      by Tells is = room
      by (Gives flight) is = room
      by Idles is = room
      by Ends is = absurd (other is)

  -- the memory for the end of the job is in use then
  pub end_held : (desk : Desk D) (o : Option Spare) (ask : Ask) (told : Option Told) → ends_job desk.table.job ask ≡ true → kind_told told ≡ Ends → HasRoom desk → IsHeldFor told (record desk { spare = o })
  end_held desk o ask told ends same is =
      let flies = end_flies desk.table.job ask ends in
      let room : length desk.recorder.trace.steps.items < vec_capacity desk.recorder.trace.steps =
      subst (λ (job : Option Flight). HasSlotOf job (length desk.recorder.trace.steps.items) (vec_capacity desk.recorder.trace.steps)) flies.1 is.slot in
      subst (λ (k : Kind). IsHeldBy (is_end k) (record desk { spare = o })) (sym same) room

  -- and before such an end there is room for it
  pub held_slot : (desk : Desk D) (told : Option Told) → kind_told told ≡ Ends → IsHeldFor told desk → length desk.recorder.trace.steps.items + slots told ≤ vec_capacity desk.recorder.trace.steps
  held_slot desk told same is =
      let room : length desk.recorder.trace.steps.items < vec_capacity desk.recorder.trace.steps = subst (λ (k : Kind). IsHeldBy (is_end k) desk) same is in
      subst (λ (k : Kind). length desk.recorder.trace.steps.items + (if is_end k then 1 else 2) ≤ vec_capacity desk.recorder.trace.steps) (sym same) (omega (arith, room))

-- before each step there is room for it
pub one_slot : (told : Option Told) → 1 ≤ slots told
one_slot told = by (is_end (kind_told told))
  where
    by : (b : Bool) → 1 ≤ (if b then 1 else 2)
    by true = omega arith
    by false = omega arith

-- after a step there is room for the end of the job in flight
leaves : (t : DeskTable) (now : ℕ) (deed : Deed) (count room : ℕ) → count + slots (told_of t now deed) ≤ room → HasSlotOf (after t now deed).job (count + 1) room
leaves t now deed count room two = by (kind_told (told_of t now deed)) refl two
  where
    some : count + 2 ≤ room → HasSlotOf (after t now deed).job (count + 1) room
    some more = slot_free (after t now deed).job (count + 1) room (omega (arith, more))

    by : (k : Kind) → kind_told (told_of t now deed) ≡ k → count + (if is_end k then 1 else 2) ≤ room → HasSlotOf (after t now deed).job (count + 1) room
    by Tells is more = some more
    by (Gives flight) is more = some more
    by Idles is more = some more
    by Ends is more = subst (λ (job : Option Flight). HasSlotOf job (count + 1) room) (sym (job_after t now deed ∙ ap (job_by t.job) is)) tt

pub slot_after : (t : DeskTable) (now : ℕ) (deed : Deed) (before steps : List Step) (s : Step) (room room' : ℕ) → steps ≡ before ++ s ∷ [] → length before + slots (told_of t now deed) ≤ room → room ≤ room' → HasSlotOf (after t now deed).job (length steps) room'
slot_after t now deed before steps s room room' grown two more =
    let count : length steps ≡ length before + 1 = ap length grown ∙ length-append before (s ∷ []) in
    slot_like (after t now deed).job (length before + 1) (length steps) room room' count more (leaves t now deed (length before) room two)

-- no job is in flight after its end
pub end_frees : (t : DeskTable) (now : ℕ) (ask : Ask) (o : Option Spare) → ends_job t.job ask ≡ true → HasSpare (after t now (deed_of t ask)) o
end_frees t now ask o ends =
    subst (λ (job : Option Flight). HasSpareOf (after t now (deed_of t ask)).index job o) (sym (job_after t now (deed_of t ask) ∙ ap (job_by t.job) (end_told t now ask ends))) tt
