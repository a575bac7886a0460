-- Values that a header field can carry: RFC 9110 section 5.5.
use Rattle.std.specs.Prelude.{ℕ, Bool, true, not, ◌==◌, ◌||◌, List, Option, Some, None}
use Rattle.std.specs.List.{list_all}

-- no CR, LF or NUL is among the bytes
abbrev pub is_clean : List ℕ → Bool
is_clean bytes = list_all (λ b. not (b == 13 || b == 10 || b == 0)) bytes

-- nor among those that are there, if any are
abbrev pub is_clean_if_some : Option (List ℕ) → Bool
is_clean_if_some None = true
is_clean_if_some (Some bytes) = is_clean bytes
