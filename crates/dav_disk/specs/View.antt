-- What contracts see of a disk in memory.
use Rattle.std.specs.Prelude.{ℕ, ◌+◌, ◌==◌, List, length, Bool}
use Rattle.std.specs.List.{list_any}
use Rattle.dav_disk.specs.Disk.{Doubt}
use Rattle.dav_disk.specs.Record.{seen_of, past_of}
use Rattle.dav_disk.specs.declared.call.Call.{Call}
use Rattle.dav_disk.specs.declared.mem_disk.MemDisk.{MemDisk}

abbrev pub calls_of : MemDisk → List Call
calls_of d = d.calls.items

abbrev pub disk_seen : MemDisk → ℕ → List ℕ
disk_seen d = seen_of d.calls.items

abbrev pub disk_moment : MemDisk → ℕ
disk_moment d = d.first + length d.calls.items

abbrev pub disk_past : MemDisk → ℕ → ℕ → Doubt
disk_past d = past_of d.first d.calls.items

-- the number of the next call is one of those that are to fail
abbrev pub fails_next : MemDisk → Bool
fails_next d = list_any (λ n. n == length d.calls.items) d.fails.items
