-- Reading paths: a text is split at its slashes, each part is decoded, and dots are folded.
use Rattle.std.specs.Prelude.{ℕ, ◌+◌, ◌-◌, min, Bool, true, false, not, ◌&&◌, ◌==◌, nat_le, List, [], ◌∷◌, ◌++◌, length, take, map, Option, Some, None, Result, Ok, Err, if◌then◌else◌}
use Rattle.std.specs.List.{fold, slice_split}
use Rattle.std.specs.Char.{is_digit}
use Rattle.std.specs.Str.{is_utf8}
use Rattle.percent_encoding.specs.Percent.{percent_decode}
use Rattle.dav_text.specs.Path.{PathParts, escaped, is_here, is_up}
use Rattle.dav_text.specs.declared.fault.PathFault.{PathFault}
use Rattle.dav_text.specs.declared.fault.PathFault.TheVariants.{NotRooted, BadEscape, NotText, TooLong}

-- the path without segments
abbrev pub top_path : PathParts
top_path = record { segments = []; slash = true }

-- the parts between the slashes
abbrev pub parts_of : List ℕ → List (List ℕ)
parts_of text = slice_split (λ b. b == 47) text

-- One more decoded part. An empty one and a dot change nothing but the slash, two dots take the last
-- segment away: RFC 3986 section 5.2.4, here after decoding, and for empty segments too.
abbrev pub with_part : PathParts → List ℕ → PathParts
with_part path part =
    if is_here part then record { segments = path.segments; slash = true }
    else if is_up part then record { segments = take (length path.segments - 1) path.segments; slash = true }
    else record { segments = path.segments ++ part ∷ []; slash = false }

-- the parts, one after another, below a path
abbrev pub folded : PathParts → List (List ℕ) → PathParts
folded path parts = fold with_part path parts

-- two hexadecimal digits stand in front
abbrev pub has_two_digits : List ℕ → Bool
has_two_digits [] = false
has_two_digits (high ∷ []) = false
has_two_digits (high ∷ low ∷ rest) = is_digit high 16 && is_digit low 16

-- the byte is a `%` without two hexadecimal digits behind it
abbrev pub is_bad_escape : ℕ → List ℕ → Bool
is_bad_escape b behind = b == 37 && not (has_two_digits behind)

-- the place of the first `%` without two hexadecimal digits behind it, in bytes that stand at this place
unfoldable pub bad_escape_from : ℕ → List ℕ → Option ℕ
bad_escape_from at [] = None
bad_escape_from at (b ∷ bytes) =
    if is_bad_escape b bytes then Some at else bad_escape_from (at + 1) bytes

-- where the first part begins that decodes to no UTF-8, if the parts stand at this place
unfoldable pub not_text_from : ℕ → List (List ℕ) → Option ℕ
not_text_from at [] = None
not_text_from at (part ∷ parts) =
    if is_utf8 (percent_decode part) then not_text_from (at + (length part + 1)) parts else Some at

-- the path, where its text in a request has at most 1,024 bytes; the length is told up to the
-- greatest number
abbrev pub fitting : PathParts → Result PathParts PathFault
fitting path =
    if nat_le (length (escaped path)) 1024 then Ok path
    else Err (TooLong (min (length (escaped path)) 18446744073709551615))

-- the path, where no escape is bad and each part is text
abbrev pub unless_bad : Option ℕ → Option ℕ → PathParts → Result PathParts PathFault
unless_bad (Some at) not_text path = Err (BadEscape at)
unless_bad None (Some at) path = Err (NotText at)
unless_bad None None path = fitting path

-- the path that an escaped text is, or why it is none
abbrev pub path_of : List ℕ → Result PathParts PathFault
path_of [] = Err NotRooted
path_of (first ∷ rest) =
    if first == 47
    then unless_bad (bad_escape_from 0 (first ∷ rest)) (not_text_from 1 (parts_of rest)) (folded top_path (map percent_decode (parts_of rest)))
    else Err NotRooted

-- the path that a word is which is typed as it stands: from the top where it begins with a slash, else
-- below the path where one is
abbrev pub typed_of : PathParts → List ℕ → Result PathParts PathFault
typed_of here [] = fitting (folded here (parts_of []))
typed_of here (first ∷ rest) =
    fitting (if first == 47 then folded top_path (parts_of rest) else folded here (parts_of (first ∷ rest)))
