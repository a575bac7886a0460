-- The reading of a text byte by byte: the machines of dav_doc for structure and characters side by side, and the limits.
use Rattle.std.specs.Prelude.{ℕ, ◌+◌, Bool, true, false, nat_le, List, [], ◌∷◌, ◌++◌, length, Option, Some, None, if◌then◌else◌}
use Rattle.dav_doc.specs.Characters.{Owed, Whole, owed_after}
use Rattle.dav_doc.specs.Document.{Event, Start}
use Rattle.dav_doc.specs.Machine.{State, Begin, Markup, InName, InTag, EmptyTag, AtName, BeforeEquals, AfterEquals, InValue, ValueReference, InEnd, EndBlanks, Move, Bad, To, step}
use Rattle.dav_text.specs.declared.which.Which.{Which}
use Rattle.dav_text.specs.declared.which.Which.TheVariants.{Depth, Attributes, Tag}

-- the state is in a start tag or an end tag, or behind a `<` that may begin one
abbrev pub is_tag : State → Bool
is_tag (Markup p) = true
is_tag (InName os n) = true
is_tag (InTag os t w) = true
is_tag (EmptyTag os t w ns) = true
is_tag (AtName os t w n) = true
is_tag (BeforeEquals os t w n x) = true
is_tag (AfterEquals os t w n x y) = true
is_tag (InValue os t a) = true
is_tag (ValueReference os t a r) = true
is_tag (InEnd o os came c left) = true
is_tag (EndBlanks o os w) = true
is_tag st = false

-- the attributes of a start tag, where the state may end it
abbrev pub attributes_of : State → ℕ
attributes_of (InTag os t w) = length t.attributes
attributes_of (EmptyTag os t w ns) = length t.attributes
attributes_of st = 0

-- the depth of the element that begins
abbrev pub begins : List Event → Option ℕ
begins (Start d ns n ∷ e) = Some d
begins e = None

-- no tag is longer than 65,536 bytes
abbrev pub tag_limit : ℕ → Option Which
tag_limit size = if nat_le 65536 size then Some Tag else None

-- the limit that one more byte passes, by the depth of the element that begins with it, the attributes of its tag, and the bytes of the
-- tag before it: 32 levels, 64 attributes, 65,536 bytes; the first of them where it passes two
abbrev pub limit_by : Option ℕ → ℕ → ℕ → Option Which
limit_by None attributes size = tag_limit size
limit_by (Some d) attributes size = if nat_le 33 d then Some Depth else (if nat_le 65 attributes then Some Attributes else tag_limit size)

-- what is known behind a text: the state of the machine, what is owed to a character, and the bytes of the tag so far
pub record Stand : Type 0 where
  pub state : State
  pub owed : Owed
  pub size : ℕ

abbrev pub begin : Stand
begin = record { state = Begin; owed = Whole; size = 0 }

-- a byte that no document has there, a limit that it passes, or where it leads and the events that it gives
pub data Verdict : Type 0 where
  Refused : Verdict
  Passes : Which → Verdict
  Goes : Stand → List Event → Verdict

-- the bytes of the tag so far, with one that leads to that state
abbrev pub size_by : ℕ → State → ℕ
size_by size st = if is_tag st then size + 1 else 0

abbrev pub goes_by : Option Which → Stand → List Event → Verdict
goes_by (Some which) x e = Passes which
goes_by None x e = Goes x e

abbrev pub judged : Stand → Option Owed → Move → Verdict
judged x None m = Refused
judged x (Some o) Bad = Refused
judged x (Some o) (To st e) =
    goes_by (limit_by (begins e) (attributes_of x.state) x.size) (record { state = st; owed = o; size = size_by x.size st }) e

abbrev pub next : Stand → ℕ → Verdict
next x b = judged x (owed_after x.owed b) (step x.state b)

-- where a text leads, and its events
pub record Reading : Type 0 where
  pub stand : Stand
  pub events : List Event

abbrev pub behind : List Event → Option Reading → Option Reading
behind e None = None
behind e (Some r) = Some (record { stand = r.stand; events = e ++ r.events })

abbrev pub on_verdict : Verdict → (Stand → Option Reading) → Option Reading
on_verdict Refused k = None
on_verdict (Passes which) k = None
on_verdict (Goes x e) k = behind e (k x)

-- None where a byte is refused or passes a limit
abbrev pub reads : List ℕ → Stand → Option Reading
reads [] x = Some (record { stand = x; events = [] })
reads (b ∷ s) x = on_verdict (next x b) (reads s)
