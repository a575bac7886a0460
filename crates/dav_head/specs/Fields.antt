-- The fields of a head as a map from names to values.
use Rattle.std.specs.Prelude.{ℕ, ◌&&◌, Bool, List, [], length, nat_lt, nat_le, map, fold, if◌then◌else◌}
use Rattle.std.specs.List.{list_all}
use Rattle.http_header.specs.Token.{lowercase, is_value_byte, is_token_byte}
use Rattle.http_header.specs.FieldValue.{FieldValue, plain_value}
use Rattle.http_header.specs.HeaderMap.{Entries, append}
use Rattle.httparse.specs.Grammar.{ResponseHead}
use Rattle.httparse.specs.Spans.{name_and_value}

-- a name that `http_header` accepts
abbrev pub is_name : List ℕ → Bool
is_name bytes = (nat_lt 0 (length bytes) && list_all is_token_byte bytes) && nat_le (length bytes) 65535

-- a value that `http_header` accepts
abbrev pub is_value : List ℕ → Bool
is_value bytes = list_all is_value_byte bytes

-- the map with one field more, a name and a value, or without it where one of them is not taken
abbrev pub with_field : Entries FieldValue → List ℕ × List ℕ → Entries FieldValue
with_field fields f =
    if is_name f.0 && is_value f.1 then append fields (lowercase f.0) (plain_value f.1) else fields

-- the map that the fields make, each a name and a value, in their order
abbrev pub field_map : List (List ℕ × List ℕ) → Entries FieldValue
field_map pairs = fold with_field [] pairs

-- the map of a head's fields
abbrev pub head_map : ResponseHead → Entries FieldValue
head_map h = field_map (map name_and_value h.fields)
