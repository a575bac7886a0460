-- The calls and answers of the devices that give or take bytes.
use Rattle.std.specs.Prelude.{ℕ, List, [], ◌∷◌, ◌++◌, take, Result, Ok, Err, Bool, true, false}
use Rattle.dav_machine.specs.Log.{Event, event, Log, Grows}
use Rattle.dav_machine.specs.Machine.{Machine}
use Rattle.dav_edge.specs.declared.failed.Failed.{Failed}

pub data Call : Type 0 where
  Connect : (host : List ℕ) (port : ℕ) → Call
  Send : (bytes : List ℕ) → Call
  Receive : (room : ℕ) → Call
  Shut : Call

pub data Answer : Type 0 where
  Fails : Answer
  Goes : Answer
  Takes : (count : ℕ) → Answer
  Gives : (piece : List ℕ) → Answer

abbrev pub Happened : Type 0
Happened = Event Call Answer

abbrev pub DeviceLog : Type 0
DeviceLog = Log Happened

abbrev pub is_failure : Answer → Bool
is_failure Fails = true
is_failure _ = false

-- these calls came on top of the old log
abbrev pub Grew : DeviceLog → DeviceLog → List Happened → Type 0
Grew old new events = Grows is_failure old new events

abbrev pub happened : Call → Answer → Happened
happened asked answer = event asked answer

abbrev pub connected : List ℕ → ℕ → Result (Unit {0}) Failed → Happened
connected host port (Ok _) = happened (Connect host port) Goes
connected host port (Err _) = happened (Connect host port) Fails

-- bytes that were sent, or put into a sink
abbrev pub sent : List ℕ → Result ℕ Failed → Happened
sent bytes (Ok n) = happened (Send bytes) (Takes n)
sent bytes (Err _) = happened (Send bytes) Fails

-- bytes that came into a buffer of that length, from a wire or a source
abbrev pub received : ℕ → List ℕ → Result ℕ Failed → Happened
received room buf (Ok n) = happened (Receive room) (Gives (take n buf))
received room buf (Err _) = happened (Receive room) Fails

abbrev pub shut_down : Happened
shut_down = happened Shut Goes

-- the bytes that one call gave
abbrev pub bytes_given : Happened → List ℕ
bytes_given e = elim e.answer [ Gives piece ↦ piece | _ ↦ [] ]

-- the bytes that some calls gave, in any pieces
abbrev pub given : List Happened → List ℕ
given [] = []
given (e ∷ es) = bytes_given e ++ given es

-- the bytes that one call took
abbrev pub bytes_taken : Happened → List ℕ
bytes_taken e = elim e.asked [ Send bytes ↦ elim e.answer [ Takes n ↦ take n bytes | _ ↦ [] ] | _ ↦ [] ]

-- the bytes that some calls took, in any pieces
abbrev pub taken : List Happened → List ℕ
taken [] = []
taken (e ∷ es) = bytes_taken e ++ taken es

-- a machine that is driven by the answers of one such device
abbrev pub ByteMachine : Type 0 → Type 1
ByteMachine R = Machine (List Happened) (List Answer) R
