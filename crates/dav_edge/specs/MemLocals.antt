-- What contracts see of local files in memory.
use Rattle.std.specs.Prelude.{Option, Some}
use Rattle.dav_edge.specs.LocalFile.{content_of}
use Rattle.dav_edge.specs.LocalHistory.{local_log_of}
use Rattle.dav_edge.specs.Locals.{LocalLog, LocalFiles}
use Rattle.dav_edge.specs.declared.schedule.Schedule.{Schedule}
use Rattle.dav_edge.specs.declared.mem_locals.MemLocals.{MemLocals}

abbrev pub locals_log : MemLocals → LocalLog
locals_log l = local_log_of l.history

abbrev pub locals_schedule : MemLocals → Schedule
locals_schedule l = l.schedule

-- it always tells its files
abbrev pub files_of : MemLocals → LocalFiles
files_of l = content_of l.files.items

abbrev pub files_told : MemLocals → Option LocalFiles
files_told l = Some (files_of l)
