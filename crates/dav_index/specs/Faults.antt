-- Why a payload is no record: its first field, in their order, that is cut off or has a value that it can't have.
use Rattle.std.specs.Prelude.{◌≡◌, ◌≢◌, ◌⊎◌, ◌≤◌, ◌<◌, ◌+◌, ◌^◌, ◌==◌, ℕ, Option, Some, None, List, [], ◌∷◌, ◌++◌, length, if◌then◌else◌}
use Rattle.dav_text.specs.Path.{PathParts, IsPath}
use Rattle.dav_text.specs.declared.tag.Seen.{Seen}
use Rattle.dav_store.specs.declared.body_id.BodyId.{BodyId}
use Rattle.dav_index.specs.declared.fault.RecordFault.{RecordFault}
use Rattle.dav_index.specs.declared.fault.RecordFault.TheVariants.{Short, Kind, Field}
use Rattle.dav_index.specs.Records.{IsBare, IsBody, IsNoted, two_bytes, four_bytes, path_text, body_text, seen_text}

-- a field: a path with or without its slash, a body, what is known of a file, a number in four bytes, a byte that
-- is at most that number
pub data Shape : Type 0 where
  named_path : Shape
  entry_path : Shape
  a_body : Shape
  a_seen : Shape
  a_number : Shape
  a_byte : ℕ → Shape

-- the fields of a record, by its first byte
abbrev pub shapes_of : ℕ → Option (List Shape)
shapes_of kind =
    if kind == 2 then Some (named_path ∷ a_byte 3 ∷ [])
    else if kind == 3 then Some (entry_path ∷ a_body ∷ [])
    else if kind == 4 then Some (entry_path ∷ a_number ∷ a_seen ∷ [])
    else if kind == 5 then Some (a_number ∷ entry_path ∷ a_byte 1 ∷ [])
    else if kind == 6 then Some (a_number ∷ [])
    else None

-- the field with this text has a value that it can have
abbrev pub IsRight : Shape → List ℕ → Type 0
IsRight named_path text = (path : PathParts) × IsPath path × (text ≡ path_text path)
IsRight entry_path text = (path : PathParts) × IsBare path × (text ≡ path_text path)
IsRight a_body text = (body : BodyId) × IsBody body × (text ≡ body_text body)
IsRight a_seen text = (seen : Seen) × IsNoted seen × (text ≡ seen_text seen)
IsRight a_number text = (n : ℕ) × (n < 2 ^ 32) × (text ≡ four_bytes n)
IsRight (a_byte most) text = (b : ℕ) × (b ≤ most) × (text ≡ b ∷ [])

-- a length in two bytes and so many bytes
abbrev pub IsSized : List ℕ → Type 0
IsSized text = (inner : List ℕ) × (length inner < 65536) × (text ≡ two_bytes (length inner) ++ inner)

-- a byte that no length follows, or 3, a length and so many bytes
abbrev pub IsMarked : List ℕ → Type 0
IsMarked text = ((mark : ℕ) × (mark ≢ 3) × (text ≡ mark ∷ [])) ⊎ ((inner : List ℕ) × (text ≡ 3 ∷ length inner ∷ inner))

-- the text has the extent of such a field, whatever its value
abbrev pub Spans : Shape → List ℕ → Type 0
Spans named_path text = IsSized text
Spans entry_path text = IsSized text
Spans a_body text = length text ≡ 44
Spans a_seen text = IsMarked text
Spans a_number text = length text ≡ 4
Spans (a_byte most) text = length text ≡ 1

-- what is left ends inside the field
pub record IsCutOff (shape : Shape) (rest : List ℕ) : Type 0 where
  pub lacking : List ℕ
  pub some : lacking ≢ []
  pub whole : Spans shape (rest ++ lacking)

-- what is left begins with the field, which has a value that it can't have
pub record IsWrong (shape : Shape) (rest : List ℕ) : Type 0 where
  pub text : List ℕ
  pub more : List ℕ
  pub split : rest ≡ text ++ more
  pub whole : Spans shape text
  pub not_right : ¬ (IsRight shape text)

-- these fields, of which the first begins at that offset, aren't what is left, for this reason
abbrev pub IsRefusedFrom : List Shape → ℕ → List ℕ → RecordFault → Type 0
IsRefusedFrom [] at rest fault = (rest ≢ []) × (fault ≡ Field at)
IsRefusedFrom (shape ∷ shapes) at rest fault =
    (IsCutOff shape rest × (fault ≡ Short))
    ⊎ ((IsWrong shape rest × (fault ≡ Field at))
    ⊎ ((text : List ℕ) × (more : List ℕ) × (rest ≡ text ++ more) × IsRight shape text × IsRefusedFrom shapes (at + length text) more fault))

-- the same by the fields that the first byte tells
abbrev pub IsRefusedBy : Option (List Shape) → ℕ → List ℕ → RecordFault → Type 0
IsRefusedBy None kind rest fault = fault ≡ Kind kind
IsRefusedBy (Some shapes) kind rest fault = IsRefusedFrom shapes 1 rest fault

-- the payload is no record, for this reason
abbrev pub IsRefused : List ℕ → RecordFault → Type 0
IsRefused [] fault = fault ≡ Short
IsRefused (kind ∷ rest) fault = IsRefusedBy (shapes_of kind) kind rest fault
