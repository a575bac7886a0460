-- Timeouts of locks: RFC 4918 section 10.7.
use Rattle.std.specs.Prelude.{ℕ, ◌&&◌, ◌==◌, nat_le, List, [], ◌∷◌, length, take, drop, codes, Option, Some, None, if◌then◌else◌}
use Rattle.std.specs.Str.{str_eq_ignore_ascii_case}
use Rattle.dav_text.specs.Blanks.{trimmed}
use Rattle.dav_text.specs.Digits.{number_of}
use Rattle.dav_text.specs.declared.blanks.Blanks.TheVariants.{Document}

-- the text up to its first comma
abbrev pub first_element : List ℕ → List ℕ
first_element [] = []
first_element (b ∷ text) = if b == 44 then [] else b ∷ first_element text

-- the number, where it has 32 bits at most
abbrev pub within_bits : Option ℕ → Option ℕ
within_bits None = None
within_bits (Some n) = if nat_le n 4294967295 then Some n else None

-- the seconds of a `Second-` with 1 to 10 digits
abbrev pub seconds_of : List ℕ → Option ℕ
seconds_of text =
    if nat_le 7 (length text) && str_eq_ignore_ascii_case (take 7 text) (codes "Second-")
    then within_bits (number_of 10 (drop 7 text))
    else None

abbrev pub granted : Option ℕ → Option (Option ℕ)
granted None = None
granted (Some seconds) = Some (Some seconds)

-- what one element of a list of timeouts grants: Some None is without end
abbrev pub timeout_in : List ℕ → Option (Option ℕ)
timeout_in element =
    if str_eq_ignore_ascii_case element (codes "Infinite") then Some None else granted (seconds_of element)

-- what the first element grants
abbrev pub timeout_of : List ℕ → Option (Option ℕ)
timeout_of text = timeout_in (trimmed Document (first_element text))
