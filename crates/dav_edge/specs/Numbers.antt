-- The calls of the devices that give a number each time: noise, a clock, a pace.
use Rattle.std.specs.Prelude.{ℕ, List, [], ◌∷◌, Bool, false}
use Rattle.dav_machine.specs.Log.{Event, event, Log, Grows}
use Rattle.dav_machine.specs.Devices.{one_device}
use Rattle.dav_machine.specs.Machine.{Machine, Calls, Reaches, Does}

-- one call, which asks for nothing but the number
abbrev pub NumberGiven : Type 0
NumberGiven = Event (Unit {0}) ℕ

abbrev pub number_given : ℕ → NumberGiven
number_given n = event tt n

abbrev pub NumberLog : Type 0
NumberLog = Log NumberGiven

-- none of these calls fails
abbrev pub never_fails : ℕ → Bool
never_fails n = false

-- these calls came on top of the old log
abbrev pub NumbersGrew : NumberLog → NumberLog → List NumberGiven → Type 0
NumbersGrew old new events = Grows never_fails old new events

-- a machine that is driven by the numbers of one such device
abbrev pub NumberMachine : Type 0 → Type 1
NumberMachine R = Machine (List NumberGiven) (List ℕ) R

-- it asks for a number, and goes on with that
abbrev pub AsksNumber : {R : Type 0} → (ℕ → NumberMachine R) → NumberMachine R
AsksNumber next [] run = ⊥
AsksNumber next (n ∷ more) run = Calls (number_given n) (next n more) run

-- by these calls of one device the first machine comes to the second
abbrev pub ReachesByNumbers : {R : Type 0} → NumberLog → NumberLog → NumberMachine R → NumberMachine R → Type 0
ReachesByNumbers old new before after = Reaches one_device (NumbersGrew old new) before after

-- the machine was run to its end on one device
abbrev pub DoesByNumbers : {R : Type 0} → NumberLog → NumberLog → NumberMachine R → R → Type 0
DoesByNumbers old new machine r = Does one_device (NumbersGrew old new) machine r
