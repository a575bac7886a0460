-- A call as code notes it, with the bytes beside it.
use Rattle.std.specs.Prelude.{ℕ, List}
use Rattle.dav_disk.specs.Events.{Event, measured, gave, wrote, shortened, flushed}
use Rattle.dav_disk.specs.declared.note.Note.{Note}
use Rattle.dav_disk.specs.declared.note.Note.TheVariants.{Size, Read, Write, Cut, Sync}

abbrev pub event_of : Note → List ℕ → Event
event_of (Size file went size) bytes = measured file went size
event_of (Read file at room went) bytes = gave file at room went bytes
event_of (Write file at went) bytes = wrote file at went bytes
event_of (Cut file len went) bytes = shortened file len went
event_of (Sync file went) bytes = flushed file went
