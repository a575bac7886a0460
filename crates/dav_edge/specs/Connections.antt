-- The connections of a wire, as its calls made them.
use Rattle.std.specs.Prelude.{ℕ, List, [], ◌∷◌, ◌++◌, take, fold, Option, Some, None, option_map}
use Rattle.dav_edge.specs.Device.{Call, Connect, Send, Receive, Shut, Answer, Goes, Takes, Gives, Happened, DeviceLog}

pub record Connection : Type 0 where
  pub host : List ℕ
  pub port : ℕ
  pub sent : List ℕ
  pub received : List ℕ

abbrev pub connection : List ℕ → ℕ → List ℕ → List ℕ → Connection
connection host port sent received = record { host = host; port = port; sent = sent; received = received }

-- the connections that ended, and the one that stands
pub record Connections : Type 0 where
  pub ended : List Connection
  pub standing : Option Connection

abbrev pub with_standing : List Connection → Option Connection → Connections
with_standing ended standing = record { ended = ended; standing = standing }

abbrev pub none_yet : Connections
none_yet = with_standing [] None

-- a connection, if there is one, at the end of a list
abbrev pub and_last : List Connection → Option Connection → List Connection
and_last ended None = ended
and_last ended (Some c) = ended ++ c ∷ []

-- all of them, in the order in which they began
abbrev pub all_of : Connections → List Connection
all_of cs = and_last cs.ended cs.standing

-- the connection that stands sent more, or received more
abbrev pub sending : List ℕ → Connection → Connection
sending bytes c = connection c.host c.port (c.sent ++ bytes) c.received

abbrev pub receiving : List ℕ → Connection → Connection
receiving bytes c = connection c.host c.port c.sent (c.received ++ bytes)

-- A connect that goes ends an earlier connection and begins one. One that fails, and a shut, end it. Bytes
-- that are sent or received belong to the connection that stands.
abbrev pub after_call : Connections → Call → Answer → Connections
after_call cs (Connect host port) Goes = with_standing (all_of cs) (Some (connection host port [] []))
after_call cs (Connect host port) _ = with_standing (all_of cs) None
after_call cs (Send bytes) (Takes n) = with_standing cs.ended (option_map (sending (take n bytes)) cs.standing)
after_call cs (Send bytes) _ = cs
after_call cs (Receive room) (Gives piece) = with_standing cs.ended (option_map (receiving piece) cs.standing)
after_call cs (Receive room) _ = cs
after_call cs Shut _ = with_standing (all_of cs) None

abbrev pub after_calls : Connections → List Happened → Connections
after_calls cs events = fold (λ cs e. after_call cs e.asked e.answer) cs events

-- the connections that some calls made
abbrev pub connections_of : List Happened → List Connection
connections_of events = all_of (after_calls none_yet events)

-- the connections of a wire, where it tells its calls
abbrev pub connections : DeviceLog → Option (List Connection)
connections log = option_map connections_of log.told
