-- The fields that a request may carry beside those that each request has.
use Rattle.std.specs.Prelude.{◌≡◌, ℕ, ◌<◌, ◌≤◌, ◌==◌, ◌||◌, Bool, not, IsTrue, All, List, [], ◌∷◌, ◌++◌, length, slice_set, Result, Ok, Err, nat_lt, flat_map, if◌then◌else◌, codes}
use Rattle.std.specs.List.{list_all, insert}
use Rattle.dav_frame.specs.declared.fields.FieldName.{FieldName}
use Rattle.dav_frame.specs.declared.fields.FieldName.TheVariants.{Depth, Destination, Overwrite, IfMatch, IfNoneMatch, If, Timeout, LockToken, Authorization, ContentType}

-- the name of a field, as a request writes it
abbrev pub written_name : FieldName → List ℕ
written_name Depth = codes "Depth"
written_name Destination = codes "Destination"
written_name Overwrite = codes "Overwrite"
written_name IfMatch = codes "If-Match"
written_name IfNoneMatch = codes "If-None-Match"
written_name If = codes "If"
written_name Timeout = codes "Timeout"
written_name LockToken = codes "Lock-Token"
written_name Authorization = codes "Authorization"
written_name ContentType = codes "Content-Type"

-- its place in the order in which a request writes them
abbrev pub place_of : FieldName → ℕ
place_of Depth = 0
place_of Destination = 1
place_of Overwrite = 2
place_of IfMatch = 3
place_of IfNoneMatch = 4
place_of If = 5
place_of Timeout = 6
place_of LockToken = 7
place_of Authorization = 8
place_of ContentType = 9

-- the bytes can stand in a field's value: no CR, LF or NUL is among them
abbrev pub is_clean : List ℕ → Bool
is_clean bytes = list_all (λ b. not (b == 13 || b == 10 || b == 0)) bytes

-- the fields stand in their order, each name at most once
abbrev pub IsOrdered : List (FieldName × List ℕ) → Type 0
IsOrdered [] = Unit {0}
IsOrdered (f ∷ fields) = All (λ g. place_of f.0 < place_of g.0) fields × IsOrdered fields

-- and each value is clean
pub record AreFields (fields : List (FieldName × List ℕ)) : Type 0 where
  pub ordered : IsOrdered fields
  pub clean : All (λ f. IsTrue (is_clean f.1)) fields

-- the fields with this value for this name, in its place in the order and for an older one
abbrev pub with_value : List (FieldName × List ℕ) → FieldName → List ℕ → List (FieldName × List ℕ)
with_value [] name value = (name, value) ∷ []
with_value (f ∷ fields) name value =
    if nat_lt (place_of f.0) (place_of name) then f ∷ with_value fields name value
    else if place_of f.0 == place_of name then (name, value) ∷ fields
    else (name, value) ∷ f ∷ fields

-- an index where a value stands already, or one where a new value is to stand
abbrev pub Finds : List (FieldName × List ℕ) → FieldName → Result ℕ ℕ → Type 0
Finds fields name (Ok i) =
    (i < length fields) × ((value : List ℕ) → with_value fields name value ≡ slice_set fields i (name, value))
Finds fields name (Err i) =
    (i ≤ length fields) × ((value : List ℕ) → with_value fields name value ≡ insert fields i (name, value))

-- the end of a line
abbrev pub crlf : List ℕ
crlf = 13 ∷ 10 ∷ []

-- the line of a field: RFC 9112 section 5
abbrev pub field_line : List ℕ → List ℕ → List ℕ
field_line name value = name ++ codes ": " ++ value ++ crlf

-- the lines of the fields
abbrev pub field_lines : List (FieldName × List ℕ) → List ℕ
field_lines fields = flat_map (λ f. field_line (written_name f.0) f.1) fields
