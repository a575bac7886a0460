-- Hexadecimal digits in either case.
use Rattle.std.specs.Prelude.{ℕ, ◌+◌, ◌&&◌, nat_le, List, map, if◌then◌else◌}

-- a letter from A to F is that from a to f
abbrev pub lower_digit : ℕ → ℕ
lower_digit b = if nat_le 65 b && nat_le b 70 then b + 32 else b

-- the digits with lower letters
abbrev pub lower_digits : List ℕ → List ℕ
lower_digits bytes = map lower_digit bytes
