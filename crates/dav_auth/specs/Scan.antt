-- A reader of a list of challenges, one byte after another.
use Rattle.std.specs.Prelude.{ℕ, Bool, true, false, List, [], ◌∷◌, ◌++◌, Option, Some, None, if◌then◌else◌}
use Rattle.dav_auth.specs.Kind.{kind_of}
use Rattle.dav_auth.specs.declared.kind.ByteKind.{ByteKind}
use Rattle.dav_auth.specs.declared.kind.ByteKind.TheVariants.{Space, Tab, Comma, Quote, Backslash, Slash, Shared, TokenOnly, Quotable, Control}
use Rattle.dav_auth.specs.declared.kind.ByteKind.TheVariants as kinds
use Rattle.dav_auth.specs.declared.piece.Piece.{Piece}
use Rattle.dav_auth.specs.declared.piece.Piece.TheVariants as pieces
use Rattle.dav_auth.specs.declared.place.Place.{Place}
use Rattle.dav_auth.specs.declared.place.Place.TheVariants.{Start, First, Spaces, Mixed, Tabs, Second, AfterSecond, Pad, AfterPad, Token68, Padding, AfterToken68, Name, AfterName, Equals, Token, String, Pair, AfterValue}
use Rattle.dav_auth.specs.declared.place.Moved.{Moved}

-- leads on
abbrev pub on : Place → Option Moved
on place = Some (record { place = place; piece = None })

-- leads on, and a part is known
abbrev pub known : Piece → Place → Option Moved
known piece place = Some (record { place = place; piece = Some piece })

-- behind a first word an `=` follows a name, where a parameter may come
abbrev pub named : Bool → List ℕ → Option Moved
named may word = if may then on (Equals word) else None

-- where a value can begin
abbrev pub begun : List ℕ → ByteKind → ℕ → Option Moved
begun name Quote b = on (String name [])
begun name Shared b = on (Token name (b ∷ []))
begun name TokenOnly b = on (Token name (b ∷ []))
begun name kind b = None

-- where a byte of this kind leads
abbrev pub step : Place → ByteKind → ℕ → Option Moved
step (Start may) Space b = on (Start may)
step (Start may) Tab b = on (Start may)
step (Start may) Comma b = on (Start may)
step (Start may) Shared b = on (First may (b ∷ []))
step (Start may) TokenOnly b = on (First may (b ∷ []))
step (First may word) Shared b = on (First may (word ++ b ∷ []))
step (First may word) TokenOnly b = on (First may (word ++ b ∷ []))
step (First may word) Space b = on (Spaces may word)
step (First may word) Tab b = on (Tabs may word)
step (First may word) Comma b = known (pieces.Scheme word) (Start false)
step (First may word) kinds.Equals b = named may word
step (Spaces may word) Space b = on (Spaces may word)
step (Spaces may word) Tab b = on (Mixed may word)
step (Spaces may word) Comma b = known (pieces.Scheme word) (Start true)
step (Spaces may word) kinds.Equals b = named may word
step (Spaces may word) Shared b = known (pieces.Scheme word) (Second (b ∷ []))
step (Spaces may word) TokenOnly b = known (pieces.Scheme word) (Name (b ∷ []))
step (Spaces may word) Slash b = known (pieces.Scheme word) Token68
step (Mixed may word) Space b = on (Mixed may word)
step (Mixed may word) Tab b = on (Mixed may word)
step (Mixed may word) Comma b = known (pieces.Scheme word) (Start true)
step (Mixed may word) kinds.Equals b = named may word
step (Mixed may word) Shared b = known (pieces.Scheme word) (Name (b ∷ []))
step (Mixed may word) TokenOnly b = known (pieces.Scheme word) (Name (b ∷ []))
step (Tabs may word) Space b = on (Tabs may word)
step (Tabs may word) Tab b = on (Tabs may word)
step (Tabs may word) Comma b = known (pieces.Scheme word) (Start false)
step (Tabs may word) kinds.Equals b = named may word
step (Second word) Shared b = on (Second (word ++ b ∷ []))
step (Second word) TokenOnly b = on (Name (word ++ b ∷ []))
step (Second word) Slash b = on Token68
step (Second word) kinds.Equals b = on (Pad word)
step (Second word) Space b = on (AfterSecond word)
step (Second word) Tab b = on (AfterSecond word)
step (Second word) Comma b = on (Start false)
step (AfterSecond word) Space b = on (AfterSecond word)
step (AfterSecond word) Tab b = on (AfterSecond word)
step (AfterSecond word) kinds.Equals b = on (Equals word)
step (AfterSecond word) Comma b = on (Start false)
step (Pad word) kinds.Equals b = on Padding
step (Pad word) Space b = on (AfterPad word)
step (Pad word) Tab b = on (AfterPad word)
step (Pad word) Comma b = on (Start false)
step (Pad word) kind b = begun word kind b
step (AfterPad word) Space b = on (AfterPad word)
step (AfterPad word) Tab b = on (AfterPad word)
step (AfterPad word) Comma b = on (Start false)
step (AfterPad word) kind b = begun word kind b
step Token68 Shared b = on Token68
step Token68 Slash b = on Token68
step Token68 kinds.Equals b = on Padding
step Token68 Space b = on AfterToken68
step Token68 Tab b = on AfterToken68
step Token68 Comma b = on (Start false)
step Padding kinds.Equals b = on Padding
step Padding Space b = on AfterToken68
step Padding Tab b = on AfterToken68
step Padding Comma b = on (Start false)
step AfterToken68 Space b = on AfterToken68
step AfterToken68 Tab b = on AfterToken68
step AfterToken68 Comma b = on (Start false)
step (Name name) Shared b = on (Name (name ++ b ∷ []))
step (Name name) TokenOnly b = on (Name (name ++ b ∷ []))
step (Name name) kinds.Equals b = on (Equals name)
step (Name name) Space b = on (AfterName name)
step (Name name) Tab b = on (AfterName name)
step (AfterName name) Space b = on (AfterName name)
step (AfterName name) Tab b = on (AfterName name)
step (AfterName name) kinds.Equals b = on (Equals name)
step (Equals name) Space b = on (Equals name)
step (Equals name) Tab b = on (Equals name)
step (Equals name) kind b = begun name kind b
step (Token name value) Shared b = on (Token name (value ++ b ∷ []))
step (Token name value) TokenOnly b = on (Token name (value ++ b ∷ []))
step (Token name value) Space b = known (pieces.Parameter name value) AfterValue
step (Token name value) Tab b = known (pieces.Parameter name value) AfterValue
step (Token name value) Comma b = known (pieces.Parameter name value) (Start true)
step (String name value) Control b = None
step (String name value) Quote b = known (pieces.Parameter name value) AfterValue
step (String name value) Backslash b = on (Pair name value)
step (String name value) kind b = on (String name (value ++ b ∷ []))
step (Pair name value) Control b = None
step (Pair name value) kind b = on (String name (value ++ b ∷ []))
step AfterValue Space b = on AfterValue
step AfterValue Tab b = on AfterValue
step AfterValue Comma b = on (Start true)
step place kind b = None

-- the parts of the end: one or none
abbrev pub at_end : Option Piece → List Piece
at_end None = []
at_end (Some piece) = piece ∷ []

-- the parts that are known where the text ends; None where it ends inside a list
abbrev pub finish : Place → Option (List Piece)
finish (Start may) = Some []
finish (First may word) = Some (pieces.Scheme word ∷ [])
finish (Spaces may word) = Some (pieces.Scheme word ∷ [])
finish (Mixed may word) = Some (pieces.Scheme word ∷ [])
finish (Tabs may word) = Some (pieces.Scheme word ∷ [])
finish (Name name) = None
finish (AfterName name) = None
finish (Equals name) = None
finish (Token name value) = Some (pieces.Parameter name value ∷ [])
finish (String name value) = None
finish (Pair name value) = None
finish place = Some []

-- a part before others, where the others are known
abbrev pub before : Option Piece → Option (List Piece) → Option (List Piece)
before None others = others
before (Some piece) None = None
before (Some piece) (Some others) = Some (piece ∷ others)

-- what follows from where a byte leads
abbrev pub following : Option Moved → (Place → Option (List Piece)) → Option (List Piece)
following None more = None
following (Some moved) more = before moved.piece (more moved.place)

-- the parts that are read of the bytes from a place on; None where no list goes on so
unfoldable pub run : List ℕ → Place → Option (List Piece)
run [] place = finish place
run (b ∷ bytes) place = following (step place (kind_of b) b) (λ next. run bytes next)

-- parts before others, where the others are known
abbrev pub all_before : List Piece → Option (List Piece) → Option (List Piece)
all_before pieces None = None
all_before pieces (Some others) = Some (pieces ++ others)
