-- Sending the whole of some bytes.
use Rattle.std.specs.Prelude.{ℕ, List, [], ◌∷◌, drop, Bool, true, false}
use Rattle.dav_machine.specs.Devices.{one_device}
use Rattle.dav_machine.specs.Machine.{give, Calls, Reaches, Does}
use Rattle.dav_edge.specs.Device.{Send, Fails, Takes, happened, DeviceLog, Grew, ByteMachine}

-- on one device, these calls lead from the first machine to the second
abbrev pub ReachesOn : {R : Type 0} → DeviceLog → DeviceLog → ByteMachine R → ByteMachine R → Type 0
ReachesOn old new before after = Reaches one_device (Grew old new) before after

-- the machine was run to its end on one device
abbrev pub DoesOn : {R : Type 0} → DeviceLog → DeviceLog → ByteMachine R → R → Type 0
DoesOn old new machine r = Does one_device (Grew old new) machine r

-- whether all the bytes were sent, or put into a sink, in as many calls as it takes
unfoldable pub Sends : List ℕ → ByteMachine Bool
Sends [] answers run = give one_device true answers run
Sends (b ∷ bs) (Takes n ∷ more) run = Calls (happened (Send (b ∷ bs)) (Takes n)) (Sends (drop n (b ∷ bs)) more) run
Sends (b ∷ bs) (Fails ∷ more) run = Calls (happened (Send (b ∷ bs)) Fails) (give one_device false more) run
Sends (b ∷ bs) _ run = ⊥
