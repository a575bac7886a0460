-- What a reply says of the login: RFC 7616 section 3.5.
use Rattle.std.specs.Prelude.{◌≡◌, ℕ, Bool, true, false, ◌&&◌, List, [], ◌∷◌, Option, Some, None, Result, Ok, Err, codes, if◌then◌else◌}
use Rattle.std.specs.List.{list_any}
use Rattle.std.specs.Str.{is_utf8, str_eq_ignore_ascii_case}
use Rattle.dav_text.specs.declared.memory.Memory.{Memory}
use Rattle.dav_auth.specs.Chosen.{parameters_in}
use Rattle.dav_auth.specs.Grammar.{Parameter, Parameters}
use Rattle.dav_auth.specs.declared.piece.Piece.{Piece}
use Rattle.dav_auth.specs.declared.piece.Piece.TheVariants as pieces

-- the part is a scheme
abbrev pub is_scheme : Piece → Bool
is_scheme (pieces.Scheme scheme) = true
is_scheme (pieces.Parameter name value) = false

-- the first value that is text, of the parameters of this name, whatever the case of its letters
abbrev pub first_text : List ℕ → List Parameter → Option (List ℕ)
first_text name [] = None
first_text name (p ∷ more) = if str_eq_ignore_ascii_case p.name name && is_utf8 p.value then Some p.value else first_text name more

-- what a list of these parts says, if they are parameters alone
abbrev pub said_in : List Piece → Option (List ℕ)
said_in parts = if list_any is_scheme parts then None else first_text (codes "rspauth") (parameters_in parts)

-- The value is a list of parameters whose first `rspauth` that is text is this one; or it is no such list, or has none.
abbrev pub SaysOf : List ℕ → Result (Option (List ℕ)) Memory → Type 0
SaysOf value (Ok (Some text)) = (ps : List Parameter) × Parameters ps value × (first_text (codes "rspauth") ps ≡ Some text)
SaysOf value (Ok None) = (ps : List Parameter) → Parameters ps value → first_text (codes "rspauth") ps ≡ None
SaysOf value (Err memory) = Unit {0}
