-- Paths of a server: their parts, how two of them stand to each other, and their text in a request.
use Rattle.std.specs.Prelude.{◌≡◌, ◌≢◌, ℕ, ◌≤◌, Bool, true, not, ◌||◌, ◌==◌, bytes_eq, List, [], ◌∷◌, ◌++◌, length, take, if◌then◌else◌}
use Rattle.std.specs.List.{AllByRecursion}
use Rattle.std.specs.Char.{is_ascii_alphanumeric}
use Rattle.std.specs.Str.{IsUtf8}
use Rattle.percent_encoding.specs.Percent.{percent_encode}
use Rattle.dav_text.specs.declared.sets.TheConstants.{ESCAPED}

-- a path: its decoded segments, and whether a slash follows the last of them
pub record PathParts : Type 0 where
  pub segments : List (List ℕ)
  pub slash : Bool

-- a byte that stands for itself in a URI: RFC 3986 section 2.3
abbrev pub is_unreserved : ℕ → Bool
is_unreserved b = is_ascii_alphanumeric b || (b == 45) || (b == 46) || (b == 95) || (b == 126)

-- each segment after a slash, with every byte but the unreserved ones escaped
abbrev pub escaped_segments : List (List ℕ) → List ℕ
escaped_segments [] = []
escaped_segments (segment ∷ segments) = 47 ∷ percent_encode ESCAPED segment ++ escaped_segments segments

-- the text of these segments, and of a slash after them if there is one
abbrev pub escaped_parts : List (List ℕ) → Bool → List ℕ
escaped_parts [] slash = 47 ∷ []
escaped_parts (segment ∷ segments) slash =
    escaped_segments (segment ∷ segments) ++ (if slash then 47 ∷ [] else [])

-- the text of a path in a request: RFC 3986 sections 2.1 and 3.3
abbrev pub escaped : PathParts → List ℕ
escaped path = escaped_parts path.segments path.slash

-- an empty segment, or a dot, which stand for the place where they are
abbrev pub is_here : List ℕ → Bool
is_here segment = bytes_eq segment [] || bytes_eq segment (46 ∷ [])

-- two dots, which stand for the place above
abbrev pub is_up : List ℕ → Bool
is_up segment = bytes_eq segment (46 ∷ 46 ∷ [])

-- a segment that a path can have: text that is not empty, and neither a dot nor two
pub record IsSegment (segment : List ℕ) : Type 0 where
  pub utf8 : IsUtf8 segment
  pub not_here : segment ≢ []
  pub not_dot : segment ≢ 46 ∷ []
  pub not_up : segment ≢ 46 ∷ 46 ∷ []

-- what every path that was read holds to: its segments are segments, one without a segment has the
-- slash, and its text in a request has at most 1,024 bytes
pub record IsPath (path : PathParts) : Type 0 where
  pub segments : AllByRecursion IsSegment path.segments
  pub top : path.segments ≡ [] → path.slash ≡ true
  pub short : length (escaped path) ≤ 1024

-- the same segments, whether or not a slash stands behind them
abbrev pub IsSame : PathParts → PathParts → Type 0
IsSame path other = path.segments ≡ other.segments

-- the first list is the second and at least one segment more
pub record IsLonger (segments top : List (List ℕ)) : Type 0 where
  pub rest : List (List ℕ)
  pub split : segments ≡ top ++ rest
  pub some : rest ≢ []

-- the path stands strictly below the top
abbrev pub IsUnder : PathParts → PathParts → Type 0
IsUnder path top = IsLonger path.segments top.segments

-- the first list is the second and one segment more
pub record IsLongerByOne (segments above : List (List ℕ)) : Type 0 where
  pub name : List ℕ
  pub split : segments ≡ above ++ name ∷ []

-- the other path stands right below the parent
abbrev pub IsParent : PathParts → PathParts → Type 0
IsParent parent other = IsLongerByOne other.segments parent.segments

-- the new list begins with the old one
abbrev pub BeginsWith : List ℕ → List ℕ → Type 0
BeginsWith old new = take (length old) new ≡ old
