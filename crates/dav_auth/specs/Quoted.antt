-- Quoted strings: RFC 9110 section 5.6.4.
use Rattle.std.specs.Prelude.{ℕ, List, [], ◌∷◌, ◌++◌, ◌==◌, ◌||◌, if◌then◌else◌}

-- a byte of a quoted string: a quote and a backslash stand after a backslash
abbrev pub escape_byte : ℕ → List ℕ
escape_byte b = if b == 34 || b == 92 then 92 ∷ b ∷ [] else b ∷ []

-- the bytes of a quoted string
abbrev pub escape : List ℕ → List ℕ
escape [] = []
escape (b ∷ bytes) = escape_byte b ++ escape bytes

-- a quoted string
abbrev pub quoted : List ℕ → List ℕ
quoted bytes = 34 ∷ escape bytes ++ 34 ∷ []

-- what the bytes between the quotes mean: of each backslash and a byte after it, that byte
abbrev pub unescape : List ℕ → List ℕ
unescape [] = []
unescape (b ∷ []) = b ∷ []
unescape (b ∷ c ∷ bytes) = if b == 92 then c ∷ unescape bytes else b ∷ unescape (c ∷ bytes)
