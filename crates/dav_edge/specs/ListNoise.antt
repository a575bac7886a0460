-- What contracts see of noise from a list.
use Rattle.std.specs.Prelude.{ℕ, List}
use Rattle.dav_edge.specs.Numbers.{NumberLog}
use Rattle.dav_edge.specs.Listed.{number_or_zero, listed_log}
use Rattle.dav_edge.specs.declared.list_noise.ListNoise.{ListNoise}

-- its list
abbrev pub words_of : ListNoise → List ℕ
words_of n = n.words.items

-- how many calls it had
abbrev pub noise_calls : ListNoise → ℕ
noise_calls n = n.calls

abbrev pub noise_log : ListNoise → NumberLog
noise_log n = listed_log (number_or_zero n.words.items) n.calls
