-- What a note of a device in memory says.
use Rattle.std.specs.Prelude.{string_bytes}
use Rattle.dav_edge.specs.Device.{Connect, Send, Receive, Shut, Goes, Fails, Takes, Gives, Happened, happened}
use Rattle.dav_edge.specs.declared.note.Note.{Note}
use Rattle.dav_edge.specs.declared.note.Note.TheVariants.{Connected, NotConnected, Sent, NotSent, Received, NotReceived, ShutDown}

abbrev pub event_of : Note → Happened
event_of (Connected host port) = happened (Connect (string_bytes host) port) Goes
event_of (NotConnected host port) = happened (Connect (string_bytes host) port) Fails
event_of (Sent bytes count) = happened (Send bytes.items) (Takes count)
event_of (NotSent bytes) = happened (Send bytes.items) Fails
event_of (Received room piece) = happened (Receive room) (Gives piece.items)
event_of (NotReceived room) = happened (Receive room) Fails
event_of ShutDown = happened Shut Goes
