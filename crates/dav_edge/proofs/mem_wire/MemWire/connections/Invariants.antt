use Rattle.std.proofs.Common.{◌≡◌, map, take}
use Rattle.dav_edge.specs.Connections.{after_calls, none_yet}
use Rattle.dav_edge.specs.MemConnection.{seen}
use Rattle.dav_edge.specs.Note.{event_of}
use Rattle.dav_edge.proofs.mem_wire.MemWire.connections.Given as goal

abbrev pub invariant-loop-note : goal.invariant-loop-note
invariant-loop-note l = seen l.made ≡ after_calls none_yet (map event_of (take l.note-index l.notes))
