-- Texts within other texts: in XML, between quotes in a printed line, and numbers in hexadecimal digits.
use Rattle.std.specs.Prelude.{ℕ, ◌/◌, ◌%◌, ◌||◌, ◌==◌, nat_lt, false, List, [], ◌∷◌, ◌++◌, codes, flat_map, if◌then◌else◌}
use Rattle.std.specs.Fmt.{digit_glyph}

-- A byte of text or of a value between double quotes: XML 1.0 section 2.4.
abbrev pub xml_byte : ℕ → List ℕ
xml_byte b =
    if b == 38 then codes "&amp;"
    else if b == 60 then codes "&lt;"
    else if b == 62 then codes "&gt;"
    else if b == 34 then codes "&quot;"
    else b ∷ []

abbrev pub xml_escaped : List ℕ → List ℕ
xml_escaped text = flat_map xml_byte text

-- a hexadecimal digit, with a lower letter
abbrev pub hex_digit : ℕ → ℕ
hex_digit n = digit_glyph false n

-- A byte of a quoted text: a backslash stands before a backslash and a double quote, and a control
-- character is a backslash, `x` and two digits.
abbrev pub quoted_byte : ℕ → List ℕ
quoted_byte b =
    if b == 92 || b == 34 then 92 ∷ b ∷ []
    else if nat_lt b 32 || b == 127 then 92 ∷ 120 ∷ hex_digit (b / 16) ∷ hex_digit (b % 16) ∷ []
    else b ∷ []

abbrev pub quoted : List ℕ → List ℕ
quoted text = 34 ∷ (flat_map quoted_byte text ++ 34 ∷ [])

-- the number as eight hexadecimal digits
abbrev pub eight_hex_digits : ℕ → List ℕ
eight_hex_digits n =
    hex_digit (n / 268435456 % 16) ∷ hex_digit (n / 16777216 % 16) ∷ hex_digit (n / 1048576 % 16) ∷ hex_digit (n / 65536 % 16)
    ∷ hex_digit (n / 4096 % 16) ∷ hex_digit (n / 256 % 16) ∷ hex_digit (n / 16 % 16) ∷ hex_digit (n % 16) ∷ []
