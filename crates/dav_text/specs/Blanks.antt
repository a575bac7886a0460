-- Blanks, and texts without those at their ends.
use Rattle.std.specs.Prelude.{ℕ, Bool, ◌||◌, ◌==◌, List, [], ◌∷◌, reverse, if◌then◌else◌}
use Rattle.dav_text.specs.declared.blanks.Blanks.{Blanks}
use Rattle.dav_text.specs.declared.blanks.Blanks.TheVariants.{Field, Document}

-- The byte is a blank: in a field a space or a tab (RFC 9110 section 5.6.3), in a document also a line feed
-- or a carriage return (XML 1.0 section 2.3).
abbrev pub is_blank : Blanks → ℕ → Bool
is_blank Field b = (b == 32) || (b == 9)
is_blank Document b = (b == 32) || (b == 9) || (b == 10) || (b == 13)

-- the text from its first byte on that is no such blank
abbrev pub without_front : Blanks → List ℕ → List ℕ
without_front blanks [] = []
without_front blanks (b ∷ text) = if is_blank blanks b then without_front blanks text else b ∷ text

-- the text up to its last byte that is no such blank
abbrev pub without_back : Blanks → List ℕ → List ℕ
without_back blanks text = reverse (without_front blanks (reverse text))

-- the text without such blanks at its ends
abbrev pub trimmed : Blanks → List ℕ → List ℕ
trimmed blanks text = without_back blanks (without_front blanks text)
