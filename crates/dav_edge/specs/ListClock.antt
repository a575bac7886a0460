-- What contracts see of a clock from a list.
use Rattle.std.specs.Prelude.{ℕ, List}
use Rattle.dav_edge.specs.Numbers.{NumberLog}
use Rattle.dav_edge.specs.Listed.{number_or_last, listed_log}
use Rattle.dav_edge.specs.declared.list_clock.ListClock.{ListClock}

-- its list
abbrev pub moments_of : ListClock → List ℕ
moments_of c = c.moments.items

-- how many calls it had
abbrev pub clock_calls : ListClock → ℕ
clock_calls c = c.calls

abbrev pub clock_log : ListClock → NumberLog
clock_log c = listed_log (number_or_last c.moments.items) c.calls
