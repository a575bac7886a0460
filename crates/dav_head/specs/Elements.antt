-- The elements of a field that is a list: RFC 9110 sections 5.3 and 5.6.1. All fields of one name are one
-- list. Blanks around an element do not count, and an empty element is an element.
use Rattle.std.specs.Prelude.{ℕ, ◌==◌, Bool, List, map, flat_map, bytes_eq}
use Rattle.std.specs.List.{slice_split}
use Rattle.std.specs.Char.{to_ascii_lowercase}
use Rattle.httparse.specs.Grammar.{trim_ows}
use Rattle.http_header.specs.FieldValue.{FieldValue}
use Rattle.http_header.specs.HeaderMap.{Entries, get_all}

-- the parts of one value between its commas
abbrev pub parts : FieldValue → List (List ℕ)
parts value = slice_split (λ b. b == 44) value.bytes

-- the elements, with the blanks around them, of all fields of this name
abbrev pub elements : Entries FieldValue → List ℕ → List (List ℕ)
elements fields name = flat_map parts (get_all fields name)

-- the element is the token, whatever the case of its letters
abbrev pub is_token : List ℕ → List ℕ → Bool
is_token token element = bytes_eq (map to_ascii_lowercase (trim_ows element)) (map to_ascii_lowercase token)
