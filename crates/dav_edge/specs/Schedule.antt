-- Which calls of a device in memory are to fail.
use Rattle.std.specs.Prelude.{◌==◌, ◌+◌, min, Bool}
use Rattle.std.specs.List.{list_any}
use Rattle.dav_edge.specs.declared.schedule.Schedule.{Schedule}

-- the next call is one of those that are to fail
abbrev pub fails_now : Schedule → Bool
fails_now s = list_any (λ n. n == s.calls) s.fails.items

-- one call more was counted
abbrev pub next_call : Schedule → Schedule
next_call s = record s { calls = min (s.calls + 1) 18446744073709551615 }
