-- What further calls make of the connections.
use Rattle.std.proofs.Common.{◌≡◌, List, [], ◌∷◌, ◌++◌, ℕ, Option, Some, None, refl, sym, ap, ◌∙◌, subst, append_assoc, append-nil}
use Rattle.std.proofs.lemmas.List.Elements.{Contains-append_left}
use Rattle.std.specs.Prelude.{Contains}
use Rattle.dav_edge.specs.Device.{Call, Connect, Send, Receive, Shut, Answer, Fails, Goes, Takes, Gives, Happened}
use Rattle.dav_edge.specs.Connections.{Connection, connection, Connections, and_last, all_of, sending, after_call, after_calls}

pub after_calls-append : (cs : Connections) (es fs : List Happened) → after_calls cs (es ++ fs) ≡ after_calls (after_calls cs es) fs
after_calls-append cs [] fs = refl
after_calls-append cs (e ∷ es) fs = after_calls-append (after_call cs e.asked e.answer) es fs

-- the later list begins with the earlier one
abbrev pub Begins : List Connection → List Connection → Type 0
Begins earlier later = (tail : List Connection) × (later ≡ earlier ++ tail)

begins_same : (l : List Connection) → Begins l l
begins_same l = ([], sym (append-nil l))

begins_then : (a b c : List Connection) → Begins a b → Begins b c → Begins a c
begins_then a b c one two = (one.0 ++ two.0, two.1 ∙ ap (λ (l : List Connection). l ++ two.0) one.1 ∙ append_assoc a one.0 two.0)

pub begins_and_last : (ended : List Connection) (standing : Option Connection) → Begins ended (and_last ended standing)
begins_and_last ended None = begins_same ended
begins_and_last ended (Some c) = (c ∷ [], refl)

ended_after_call : (cs : Connections) (asked : Call) (answer : Answer) → Begins cs.ended (after_call cs asked answer).ended
ended_after_call cs (Connect host port) Fails = begins_and_last cs.ended cs.standing
ended_after_call cs (Connect host port) Goes = begins_and_last cs.ended cs.standing
ended_after_call cs (Connect host port) (Takes n) = begins_and_last cs.ended cs.standing
ended_after_call cs (Connect host port) (Gives piece) = begins_and_last cs.ended cs.standing
ended_after_call cs (Send bytes) Fails = begins_same cs.ended
ended_after_call cs (Send bytes) Goes = begins_same cs.ended
ended_after_call cs (Send bytes) (Takes n) = begins_same cs.ended
ended_after_call cs (Send bytes) (Gives piece) = begins_same cs.ended
ended_after_call cs (Receive room) Fails = begins_same cs.ended
ended_after_call cs (Receive room) Goes = begins_same cs.ended
ended_after_call cs (Receive room) (Takes n) = begins_same cs.ended
ended_after_call cs (Receive room) (Gives piece) = begins_same cs.ended
ended_after_call cs Shut answer = begins_and_last cs.ended cs.standing

-- a connection that ended stays as it is
pub ended_after_calls : (cs : Connections) (es : List Happened) → Begins cs.ended (after_calls cs es).ended
ended_after_calls cs [] = begins_same cs.ended
ended_after_calls cs (e ∷ es) =
    begins_then cs.ended (after_call cs e.asked e.answer).ended (after_calls cs (e ∷ es)).ended
    (ended_after_call cs e.asked e.answer) (ended_after_calls (after_call cs e.asked e.answer) es)

contains_begins : (earlier later : List Connection) (c : Connection) → Begins earlier later → Contains earlier c → Contains later c
contains_begins earlier later c begins holds =
    subst (λ (l : List Connection). Contains l c) (sym begins.1) (Contains-append_left earlier begins.0 c holds)

pub ended_stays : (cs : Connections) (es : List Happened) (c : Connection) → Contains cs.ended c → Contains (all_of (after_calls cs es)) c
ended_stays cs es c holds =
    contains_begins cs.ended (all_of (after_calls cs es)) c
    (begins_then cs.ended (after_calls cs es).ended (all_of (after_calls cs es))
    (ended_after_calls cs es) (begins_and_last (after_calls cs es).ended (after_calls cs es).standing)) holds

pub sending-nil : (c : Connection) → sending [] c ≡ c
sending-nil c = ap (λ (sent : List ℕ). connection c.host c.port sent c.received) (append-nil c.sent)

pub sending-append : (first second : List ℕ) (c : Connection) → sending second (sending first c) ≡ sending (first ++ second) c
sending-append first second c = ap (λ (sent : List ℕ). connection c.host c.port sent c.received) (append_assoc c.sent first second)
