-- The log of local files in memory.
use Rattle.std.specs.Prelude.{map, Some, None, cond}
use Rattle.dav_edge.specs.Locals.{LocalLog}
use Rattle.dav_edge.specs.LocalNote.{local_event_of}
use Rattle.dav_edge.specs.declared.local_history.LocalHistory.{LocalHistory}

-- it tells what is written down, unless it stopped telling
abbrev pub local_log_of : LocalHistory → LocalLog
local_log_of h = record { told = cond h.tells (Some (map local_event_of h.notes.items)) None; faults = h.faults }
