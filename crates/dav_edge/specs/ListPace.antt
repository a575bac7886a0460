-- What contracts see of a pace from a list.
use Rattle.std.specs.Prelude.{ℕ, List}
use Rattle.dav_edge.specs.Numbers.{NumberLog}
use Rattle.dav_edge.specs.Listed.{number_or_zero, listed_log}
use Rattle.dav_edge.specs.declared.list_pace.ListPace.{ListPace}

-- its list
abbrev pub turns_of : ListPace → List ℕ
turns_of p = p.turns.items

-- how many calls it had
abbrev pub pace_calls : ListPace → ℕ
pace_calls p = p.calls

abbrev pub pace_log : ListPace → NumberLog
pace_log p = listed_log (number_or_zero p.turns.items) p.calls
