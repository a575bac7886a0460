-- What a note of local files in memory says.
use Rattle.std.specs.Prelude.{Ok, Err, string_bytes}
use Rattle.dav_edge.specs.Locals.{LocalEvent, loaded, stored}
use Rattle.dav_edge.specs.declared.local_note.LocalNote.{LocalNote}
use Rattle.dav_edge.specs.declared.local_note.LocalNote.TheVariants.{Loaded, NotLoaded, Stored, NotStored}

abbrev pub local_event_of : LocalNote → LocalEvent
local_event_of (Loaded name limit bytes) = loaded (string_bytes name) limit (Ok bytes.items)
local_event_of (NotLoaded name limit fault) = loaded (string_bytes name) limit (Err fault)
local_event_of (Stored name bytes) = stored (string_bytes name) bytes.items (Ok tt)
local_event_of (NotStored name bytes fault) = stored (string_bytes name) bytes.items (Err fault)
