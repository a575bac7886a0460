-- The machine of a scanner, byte by byte.
use Rattle.std.specs.Prelude.{◌≡◌, ℕ, ◌+◌, Bool, true, false, List, [], ◌∷◌, ◌++◌, length, Option, Some, None, is_some, codes, ◌==◌}
use Rattle.dav_doc.specs.Bytes.{Kind, Less, Ampersand, Blank, Greater, DoubleQuote, SingleQuote, Equals, Slash, Colon, Exclamation, Letter, Digit, kind, blank, Double, Single, Sort, Stays, Ends, Refers, Wrong, sort}
use Rattle.dav_doc.specs.Names.{Name, Plain, Qualified, written, local_of, is_name, Attribute, Part, Byte, Reference, Binding, declared, resolved, base, is_fine}
use Rattle.dav_doc.specs.Document.{Event, Start, Char, End, Tag, Target, X, Xm, Xml, target_first, target_next, is_target}
use Rattle.dav_doc.specs.References.{stands_for, may_stand}
use Rattle.dav_doc.specs.Words.{Want, Done, want, version}

-- an open element: its written name and the declarations in it
pub record Open : Type 0 where
  pub name : Name
  pub scope : List Binding

-- how many `]` stand right before in a run of text
pub data Brackets : Type 0 where
  Zero : Brackets
  One : Brackets
  Two : Brackets

-- at the first byte, later before the root, or below these open elements, after the root where there is none
pub data Place : Type 0 where
  First : Place
  Before : Place
  Below : List Open → Place

pub data State : Type 0 where
  -- the first byte, and the second and third byte of a byte order mark
  Begin : State
  MarkSecond : State
  MarkThird : State
  Opening : State
  -- `<?x`, `<?xm` and `<?xml` as the first bytes, and what is left of a declaration
  DeclareX : State
  DeclareXm : State
  DeclareXml : State
  Declaring : Want → State
  Outside : State
  Text : List Open → Brackets → State
  -- after CR in text
  Return : Open → List Open → State
  Markup : Place → State
  Mark : Place → State
  OpenComment : Place → State
  InComment : Place → State
  CommentDash : Place → State
  CommentClose : Place → State
  Question : Place → State
  InTarget : Place → Target → State
  TargetEnd : Place → State
  InInstruction : Place → State
  InstructionEnd : Place → State
  -- the word CDATA: what has come, the next byte and what is left
  SectionWord : Open → List Open → List ℕ → ℕ → List ℕ → State
  InSection : Open → List Open → Brackets → State
  -- after CR in a section
  SectionReturn : Open → List Open → State
  InReference : Open → List Open → List ℕ → State
  -- a start tag below these elements
  InName : List Open → Name → State
  InTag : List Open → Tag → List ℕ → State
  EmptyTag : List Open → Tag → List ℕ → List ℕ → State
  AtName : List Open → Tag → List ℕ → Name → State
  BeforeEquals : List Open → Tag → List ℕ → Name → List ℕ → State
  AfterEquals : List Open → Tag → List ℕ → Name → List ℕ → List ℕ → State
  InValue : List Open → Tag → Attribute → State
  ValueReference : List Open → Tag → Attribute → List ℕ → State
  -- an end tag: what has come of its name, the next byte and what is left
  InEnd : Open → List Open → List ℕ → ℕ → List ℕ → State
  EndBlanks : Open → List Open → List ℕ → State

-- a bad byte, or the next state and the events that the byte gives
pub data Move : Type 0 where
  Bad : Move
  To : State → List Event → Move

abbrev pub on : Bool → Move → Move → Move
on true m n = m
on false m n = n

abbrev pub at : Place → State
at First = Outside
at Before = Outside
at (Below os) = Text os Zero

abbrev pub scope_of : List Open → List Binding
scope_of [] = base
scope_of (o ∷ os) = o.scope

abbrev pub chars : List ℕ → List Event
chars [] = []
chars (b ∷ m) = Char b ∷ chars m

-- at the first byte
abbrev pub begin_step : ℕ → Kind → Move
begin_step b Less = To (Markup First) []
begin_step b Blank = To Outside []
begin_step b k = Bad

-- before the root
abbrev pub outside_step : ℕ → Kind → Move
outside_step b Less = To (Markup Before) []
outside_step b Blank = To Outside []
outside_step b k = Bad

-- after the root
abbrev pub epilog_step : ℕ → Kind → Move
epilog_step b Less = To (Markup (Below [])) []
epilog_step b Blank = To (Text [] Zero) []
epilog_step b k = Bad

abbrev pub bracket_by : Brackets → Bool → Brackets
bracket_by k false = Zero
bracket_by Zero true = One
bracket_by One true = Two
bracket_by Two true = Two

abbrev pub brackets : Brackets → ℕ → Brackets
brackets k b = bracket_by k (b == 93)

abbrev pub ends_section : Brackets → Kind → Bool
ends_section Two Greater = true
ends_section n k = false

abbrev pub text_by : Open → List Open → Brackets → ℕ → Bool → Move
text_by o os n b true = Bad
text_by o os n b false = To (Text (o ∷ os) (brackets n b)) (Char b ∷ [])

abbrev pub text_step : Open → List Open → Brackets → ℕ → Kind → Move
text_step o os n b Less = To (Markup (Below (o ∷ os))) []
text_step o os n b Ampersand = To (InReference o os []) []
text_step o os n b Blank = on (b == 13) (To (Return o os) (Char 10 ∷ [])) (text_by o os n b (ends_section n Blank))
text_step o os n b k = text_by o os n b (ends_section n k)

abbrev pub end_next : Open → List Open → List ℕ → List ℕ → State
end_next o os came [] = EndBlanks o os []
end_next o os came (c ∷ left) = InEnd o os came c left

abbrev pub slash_step : Place → Move
slash_step First = Bad
slash_step Before = Bad
slash_step (Below []) = Bad
slash_step (Below (o ∷ os)) = To (end_next o os [] (written o.name)) []

abbrev pub letter_step : Place → ℕ → Move
letter_step First b = To (InName [] (Plain (b ∷ []))) []
letter_step Before b = To (InName [] (Plain (b ∷ []))) []
letter_step (Below []) b = Bad
letter_step (Below (o ∷ os)) b = To (InName (o ∷ os) (Plain (b ∷ []))) []

abbrev pub markup_step : Place → ℕ → Kind → Move
markup_step p b Letter = letter_step p b
markup_step p b Slash = slash_step p
markup_step p b Exclamation = To (Mark p) []
markup_step p b k = on (b == 63) (To (Question p) []) Bad

-- the next byte of `CDATA[`, or the section
abbrev pub section_next : Open → List Open → List ℕ → List ℕ → State
section_next o os came [] = InSection o os Zero
section_next o os came (c ∷ left) = SectionWord o os came c left

abbrev pub section_begins : Place → ℕ → Move
section_begins First b = Bad
section_begins Before b = Bad
section_begins (Below []) b = Bad
section_begins (Below (o ∷ os)) b = on (b == 91) (To (section_next o os [] (codes "CDATA[")) []) Bad

-- the `]` that have come and stand for themselves
abbrev pub held : Brackets → List Event
held Zero = []
held One = Char 93 ∷ []
held Two = Char 93 ∷ Char 93 ∷ []

-- in a section, a byte that ends nothing, by whether it is CR
abbrev pub section_plain : Open → List Open → Brackets → ℕ → Bool → Move
section_plain o os n b true = To (SectionReturn o os) (held n ++ (Char 10 ∷ []))
section_plain o os n b false = To (InSection o os Zero) (held n ++ (Char b ∷ []))

-- in a section, by whether the byte is `]`, and whether it is `>`
abbrev pub section_step : Open → List Open → Brackets → ℕ → Bool → Bool → Move
section_step o os Zero b true x = To (InSection o os One) []
section_step o os One b true x = To (InSection o os Two) []
section_step o os Two b true x = To (InSection o os Two) (Char 93 ∷ [])
section_step o os Two b false true = To (Text (o ∷ os) Zero) []
section_step o os n b false x = section_plain o os n b (b == 13)

abbrev pub question_first : Place → ℕ → Bool → Move
question_first First b true = To DeclareX []
question_first p b x = To (InTarget p (target_first b)) []

abbrev pub question_step : Place → ℕ → Kind → Move
question_step p b Letter = question_first p b (b == 120)
question_step p b k = Bad

abbrev pub target_step : Place → Target → ℕ → Kind → Move
target_step p t b Letter = To (InTarget p (target_next t b)) []
target_step p t b Digit = To (InTarget p (target_next t b)) []
target_step p t b Blank = on (is_target t) (To (InInstruction p) []) Bad
target_step p t b k = on (b == 63) (on (is_target t) (To (TargetEnd p) []) Bad) Bad

abbrev pub declare_state : Want → State
declare_state Done = Outside
declare_state w = Declaring w

abbrev pub declare_step : Option Want → Move
declare_step None = Bad
declare_step (Some w) = To (declare_state w) []

-- a name with one more byte
abbrev pub longer : Name → ℕ → Name
longer (Plain l) b = Plain (l ++ (b ∷ []))
longer (Qualified p l) b = Qualified p (l ++ (b ∷ []))

abbrev pub digit_longer : Name → ℕ → Option Name
digit_longer (Qualified p []) b = None
digit_longer n b = Some (longer n b)

abbrev pub colon_longer : Name → Option Name
colon_longer (Plain l) = Some (Qualified l [])
colon_longer (Qualified p l) = None

abbrev pub name_next : Name → ℕ → Kind → Option Name
name_next n b Letter = Some (longer n b)
name_next n b Digit = digit_longer n b
name_next n b Colon = colon_longer n
name_next n b k = None

-- the end of a start tag
abbrev pub opened : List Open → Tag → Option (List ℕ) → Move
opened os t None = Bad
opened os t (Some ns) =
    To (Text (record { name = t.name; scope = declared t.attributes (scope_of os) } ∷ os) Zero) (Start (length os + 1) ns (local_of t.name) ∷ [])

-- the slash of an empty tag
abbrev pub slashed : List Open → Tag → List ℕ → Option (List ℕ) → Move
slashed os t w None = Bad
slashed os t w (Some ns) = To (EmptyTag os t w ns) []

abbrev pub attribute_begins : List Open → Tag → List ℕ → ℕ → Move
attribute_begins os t [] b = Bad
attribute_begins os t (c ∷ w) b = To (AtName os t (c ∷ w) (Plain (b ∷ []))) []

abbrev pub tag_step : List Open → Tag → List ℕ → ℕ → Kind → Move
tag_step os t w b Blank = To (InTag os t (w ++ (b ∷ []))) []
tag_step os t w b Greater = opened os t (resolved (scope_of os) t.name t.attributes)
tag_step os t w b Slash = slashed os t w (resolved (scope_of os) t.name t.attributes)
tag_step os t w b Letter = attribute_begins os t w b
tag_step os t w b k = Bad

abbrev pub empty_step : List Open → Tag → List ℕ → List ℕ → ℕ → Kind → Move
empty_step os t w ns b Greater = To (Text os Zero) (Start (length os + 1) ns (local_of t.name) ∷ End (length os + 1) ∷ [])
empty_step os t w ns b k = Bad

abbrev pub name_step : List Open → Name → ℕ → Kind → Option Name → Move
name_step os n b k (Some m) = To (InName os m) []
name_step os n b k None = on (is_name n) (tag_step os (record { name = n; attributes = [] }) [] b k) Bad

abbrev pub equals_step : List Open → Tag → List ℕ → Name → List ℕ → ℕ → Kind → Move
equals_step os t w n x b Blank = To (BeforeEquals os t w n (x ++ (b ∷ []))) []
equals_step os t w n x b Equals = To (AfterEquals os t w n x []) []
equals_step os t w n x b k = Bad

abbrev pub attribute_step : List Open → Tag → List ℕ → Name → ℕ → Kind → Option Name → Move
attribute_step os t w n b k (Some m) = To (AtName os t w m) []
attribute_step os t w n b k None = on (is_name n) (equals_step os t w n [] b k) Bad

abbrev pub quote_step : List Open → Tag → List ℕ → Name → List ℕ → List ℕ → ℕ → Kind → Move
quote_step os t w n x y b Blank = To (AfterEquals os t w n x (y ++ (b ∷ []))) []
quote_step os t w n x y b DoubleQuote = To (InValue os t (record { lead = w; name = n; before = x; after = y; quote = Double; parts = [] })) []
quote_step os t w n x y b SingleQuote = To (InValue os t (record { lead = w; name = n; before = x; after = y; quote = Single; parts = [] })) []
quote_step os t w n x y b k = Bad

abbrev pub with_attribute : Tag → Attribute → Tag
with_attribute t a = record { name = t.name; attributes = t.attributes ++ (a ∷ []) }

abbrev pub with_part : Attribute → Part → Attribute
with_part a p = record { lead = a.lead; name = a.name; before = a.before; after = a.after; quote = a.quote; parts = a.parts ++ (p ∷ []) }

abbrev pub value_step : List Open → Tag → Attribute → ℕ → Sort → Move
value_step os t a b Stays = To (InValue os t (with_part a (Byte b))) []
value_step os t a b Ends = on (is_fine a) (To (InTag os (with_attribute t a) []) []) Bad
value_step os t a b Refers = To (ValueReference os t a []) []
value_step os t a b Wrong = Bad

abbrev pub reference_step : Open → List Open → List ℕ → Option (List ℕ) → Move
reference_step o os r (Some m) = To (Text (o ∷ os) Zero) (chars m)
reference_step o os r None = on (may_stand r) (To (InReference o os r) []) Bad

abbrev pub value_reference_step : List Open → Tag → Attribute → List ℕ → Option (List ℕ) → Move
value_reference_step os t a r (Some m) = To (InValue os t (with_part a (Reference r m))) []
value_reference_step os t a r None = on (may_stand r) (To (ValueReference os t a r) []) Bad

abbrev pub end_step : Open → List Open → List ℕ → ℕ → Kind → Move
end_step o os w b Blank = To (EndBlanks o os (w ++ (b ∷ []))) []
end_step o os w b Greater = To (Text os Zero) (End (length os + 1) ∷ [])
end_step o os w b k = Bad

abbrev pub step : State → ℕ → Move
step Begin b = on (b == 239) (To MarkSecond []) (begin_step b (kind b))
step MarkSecond b = on (b == 187) (To MarkThird []) Bad
step MarkThird b = on (b == 191) (To Opening []) Bad
step Opening b = begin_step b (kind b)
step DeclareX b = on (b == 109) (To DeclareXm []) (target_step First X b (kind b))
step DeclareXm b = on (b == 108) (To DeclareXml []) (target_step First Xm b (kind b))
step DeclareXml b = on (blank b) (To (Declaring version) []) (target_step First Xml b (kind b))
step (Declaring w) b = declare_step (want w b)
step Outside b = outside_step b (kind b)
step (Text [] n) b = epilog_step b (kind b)
step (Text (o ∷ os) n) b = text_step o os n b (kind b)
step (Return o os) b = on (b == 10) (To (Text (o ∷ os) Zero) []) (text_step o os Zero b (kind b))
step (Markup p) b = markup_step p b (kind b)
step (Mark p) b = on (b == 45) (To (OpenComment p) []) (section_begins p b)
step (OpenComment p) b = on (b == 45) (To (InComment p) []) Bad
step (InComment p) b = on (b == 45) (To (CommentDash p) []) (To (InComment p) [])
step (CommentDash p) b = on (b == 45) (To (CommentClose p) []) (To (InComment p) [])
step (CommentClose p) b = on (b == 62) (To (at p) []) Bad
step (Question p) b = question_step p b (kind b)
step (InTarget p t) b = target_step p t b (kind b)
step (TargetEnd p) b = on (b == 62) (To (at p) []) Bad
step (InInstruction p) b = on (b == 63) (To (InstructionEnd p) []) (To (InInstruction p) [])
step (InstructionEnd p) b = on (b == 62) (To (at p) []) (on (b == 63) (To (InstructionEnd p) []) (To (InInstruction p) []))
step (SectionWord o os came c left) b = on (b == c) (To (section_next o os (came ++ (c ∷ [])) left) []) Bad
step (InSection o os n) b = section_step o os n b (b == 93) (b == 62)
step (SectionReturn o os) b = on (b == 10) (To (InSection o os Zero) []) (section_step o os Zero b (b == 93) (b == 62))
step (InReference o os r) b = reference_step o os (r ++ (b ∷ [])) (stands_for (r ++ (b ∷ [])))
step (InName os n) b = name_step os n b (kind b) (name_next n b (kind b))
step (InTag os t w) b = tag_step os t w b (kind b)
step (EmptyTag os t w ns) b = empty_step os t w ns b (kind b)
step (AtName os t w n) b = attribute_step os t w n b (kind b) (name_next n b (kind b))
step (BeforeEquals os t w n x) b = equals_step os t w n x b (kind b)
step (AfterEquals os t w n x y) b = quote_step os t w n x y b (kind b)
step (InValue os t a) b = value_step os t a b (sort a.quote (kind b))
step (ValueReference os t a r) b = value_reference_step os t a (r ++ (b ∷ [])) (stands_for (r ++ (b ∷ [])))
step (InEnd o os came c left) b = on (b == c) (To (end_next o os (came ++ (c ∷ [])) left) []) Bad
step (EndBlanks o os w) b = end_step o os w b (kind b)

-- where a text leads, and its events; None where a byte of it is bad
pub record Ran : Type 0 where
  pub state : State
  pub events : List Event

abbrev pub gives : List Event → Option Ran → Option Ran
gives e None = None
gives e (Some r) = Some (record { state = r.state; events = e ++ r.events })

abbrev pub move_on : Move → (State → Option Ran) → Option Ran
move_on Bad k = None
move_on (To st e) k = gives e (k st)

abbrev pub run : List ℕ → State → Option Ran
run [] st = Some (record { state = st; events = [] })
run (b ∷ s) st = move_on (step st b) (run s)

-- this byte is the first bad one after that text
abbrev pub FirstBad : List ℕ → ℕ → Type 0
FirstBad s b = (is_some (run s Begin) ≡ true) × (run (s ++ (b ∷ [])) Begin ≡ None)
