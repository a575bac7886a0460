-- What the rest of a text gives from a state of the machine on.
use Rattle.std.specs.Prelude.{◌≡◌, ℕ, ◌+◌, ◌<◌, Bool, true, false, not, ◌&&◌, List, [], ◌∷◌, ◌++◌, length, Some, ◌⊎◌, codes}
use Rattle.dav_doc.specs.Bytes.{blank, blanks, quote_byte, begins_greater, begins_bracket}
use Rattle.dav_doc.specs.Names.{Name, Plain, Qualified, written, is_plain, is_name, Attribute, resolved, parts_text, AreParts}
use Rattle.dav_doc.specs.Document.{Forest, Event, Char, End, events, Content, Around, Rooted, Declared, Spells, Tag, IsTag, tag_text, end_tag, CommentRest, InstructionRest, TargetRest, SectionRest}
use Rattle.dav_doc.specs.References.{may_stand}
use Rattle.dav_doc.specs.Words.{Want, Done, One_of, Space, Spaces, Either, Words}
use Rattle.dav_doc.specs.Machine.{Open, Brackets, Zero, One, Two, Place, First, Before, Below, State, Begin, MarkSecond, MarkThird, Return, Opening, DeclareX, DeclareXm, DeclareXml, Declaring, Question, InTarget, TargetEnd, InInstruction, InstructionEnd, SectionWord, InSection, SectionReturn, chars, Outside, Text, Markup, Mark, OpenComment, InComment, CommentDash, CommentClose, InReference, InName, InTag, EmptyTag, AtName, BeforeEquals, AfterEquals, InValue, ValueReference, InEnd, EndBlanks, scope_of}

-- the rest holds what is left of an element, its end tag, and then what comes after it
pub record Inside (o : Open) (d : ℕ) (After : List ℕ → List Event → Type 0) (s : List ℕ) (e : List Event) : Type 0 where
  pub trees : Forest
  pub front : List ℕ
  pub trail : List ℕ
  pub rest : List ℕ
  pub later : List Event
  pub content : Content o.scope trees front
  pub blanks : blanks trail ≡ true
  pub split : s ≡ front ++ (end_tag o.name trail ++ rest)
  pub after : After rest later
  pub gives : e ≡ events (d + 1) trees ++ (End d ∷ later)

-- below these open elements, after the root where there is none
abbrev pub FromOpen : List Open → List ℕ → List Event → Type 0
FromOpen [] s e = Around s × (e ≡ [])
FromOpen (o ∷ os) s e = Inside o (length os + 1) (FromOpen os) s e

pub record FromRoot (s : List ℕ) (e : List Event) : Type 0 where
  pub tree : Forest
  pub spells : Rooted tree s
  pub gives : e ≡ events 1 tree

pub record FromDocument (s : List ℕ) (e : List Event) : Type 0 where
  pub tree : Forest
  pub spells : Declared tree s
  pub gives : e ≡ events 1 tree

pub record FromMark (s : List ℕ) (e : List Event) : Type 0 where
  pub tree : Forest
  pub spells : Spells tree s
  pub gives : e ≡ events 1 tree

abbrev pub FromPlace : Place → List ℕ → List Event → Type 0
FromPlace First s e = FromDocument s e
FromPlace Before s e = FromRoot s e
FromPlace (Below os) s e = FromOpen os s e

-- after markup at a place
abbrev pub FromNext : Place → List ℕ → List Event → Type 0
FromNext First s e = FromRoot s e
FromNext Before s e = FromRoot s e
FromNext (Below os) s e = FromOpen os s e

-- where a start tag may stand
abbrev pub Here : List Open → List ℕ → List Event → Type 0
Here [] s e = FromRoot s e
Here (o ∷ os) s e = FromOpen (o ∷ os) s e

-- after so many `]` the rest does not end a section
abbrev pub Free : Brackets → List ℕ → Type 0
Free Zero s = Unit {0}
Free One s = begins_bracket s ≡ false
Free Two s = (begins_greater s ≡ false) × (begins_bracket s ≡ false)

-- the rest of a comment after this, and what follows it
pub record Passing (front : List ℕ) (p : Place) (s : List ℕ) (e : List Event) : Type 0 where
  pub comment : List ℕ
  pub later : List ℕ
  pub is : CommentRest (front ++ comment)
  pub split : s ≡ comment ++ later
  pub after : FromNext p later e

-- the rest of an instruction, and what follows it
pub record Passes (Rest : List ℕ → Type 0) (p : Place) (s : List ℕ) (e : List Event) : Type 0 where
  pub text : List ℕ
  pub later : List ℕ
  pub is : Rest text
  pub split : s ≡ text ++ later
  pub after : FromNext p later e

-- the rest of a section after these brackets, and what follows it
pub record Sections (front : List ℕ) (o : Open) (os : List Open) (s : List ℕ) (e : List Event) : Type 0 where
  pub said : List ℕ
  pub text : List ℕ
  pub later : List ℕ
  pub then : List Event
  pub is : SectionRest said (front ++ text)
  pub split : s ≡ text ++ later
  pub after : FromOpen (o ∷ os) later then
  pub gives : e ≡ chars said ++ then

-- the rest of a declaration, and what follows it
pub record Declares (w : Want) (s : List ℕ) (e : List Event) : Type 0 where
  pub text : List ℕ
  pub later : List ℕ
  pub is : Words w text
  pub split : s ≡ text ++ later
  pub after : FromRoot later e

-- a start tag up to the name of an attribute, up to its equals sign, and up to its value
abbrev pub to_name : Tag → List ℕ → Name → List ℕ → List ℕ
to_name t w n s = 60 ∷ (tag_text t ++ (w ++ (written n ++ s)))

abbrev pub to_value : Tag → Attribute → List ℕ → List ℕ
to_value t a s = to_name t a.lead a.name (a.before ++ (61 ∷ (a.after ++ (quote_byte a.quote ∷ (parts_text a.parts ++ s)))))

abbrev pub FromState : State → List ℕ → List Event → Type 0
FromState Begin s e = FromMark s e
FromState MarkSecond s e = FromMark (239 ∷ s) e
FromState MarkThird s e = FromMark (239 ∷ 187 ∷ s) e
FromState Opening s e = FromDocument s e
FromState DeclareX s e = FromDocument (60 ∷ 63 ∷ 120 ∷ s) e
FromState DeclareXm s e = FromDocument (60 ∷ 63 ∷ 120 ∷ 109 ∷ s) e
FromState DeclareXml s e = FromDocument (60 ∷ 63 ∷ 120 ∷ 109 ∷ 108 ∷ s) e
FromState (Declaring w) s e = Declares w s e
FromState Outside s e = FromRoot s e
FromState (Text os n) s e = FromOpen os s e × Free n s
FromState (Return o os) s e = FromOpen (o ∷ os) (13 ∷ s) (Char 10 ∷ e)
FromState (Markup p) s e = FromPlace p (60 ∷ s) e
FromState (Mark p) s e = FromPlace p (60 ∷ 33 ∷ s) e
FromState (OpenComment p) s e = FromPlace p (60 ∷ 33 ∷ 45 ∷ s) e
FromState (InComment p) s e = Passing [] p s e
FromState (CommentDash p) s e = Passing (45 ∷ []) p s e
FromState (CommentClose p) s e = Passing (45 ∷ 45 ∷ []) p s e
FromState (Question p) s e = FromPlace p (60 ∷ 63 ∷ s) e
FromState (InTarget p t) s e = Passes (TargetRest t) p s e
FromState (TargetEnd p) s e = Passes (λ t. t ≡ 62 ∷ []) p s e
FromState (InInstruction p) s e = Passes (λ t. InstructionRest t) p s e
FromState (InstructionEnd p) s e = Passes (λ t. InstructionRest (63 ∷ t)) p s e
FromState (SectionWord o os came c left) s e = FromOpen (o ∷ os) (60 ∷ 33 ∷ 91 ∷ (came ++ s)) e
FromState (InSection o os Zero) s e = Sections [] o os s e
FromState (InSection o os One) s e = Sections (93 ∷ []) o os s e
FromState (InSection o os Two) s e = Sections (93 ∷ 93 ∷ []) o os s e
FromState (SectionReturn o os) s e = Sections (13 ∷ []) o os s (Char 10 ∷ e)
FromState (InReference o os r) s e = FromOpen (o ∷ os) (38 ∷ (r ++ s)) e
FromState (InName os n) s e = Here os (60 ∷ (written n ++ s)) e
FromState (InTag os t w) s e = Here os (60 ∷ (tag_text t ++ (w ++ s))) e
FromState (EmptyTag os t w ns) s e = Here os (60 ∷ (tag_text t ++ (w ++ (47 ∷ s)))) e
FromState (AtName os t w n) s e = Here os (to_name t w n s) e
FromState (BeforeEquals os t w n x) s e = Here os (to_name t w n (x ++ s)) e
FromState (AfterEquals os t w n x y) s e = Here os (to_name t w n (x ++ (61 ∷ (y ++ s)))) e
FromState (InValue os t a) s e = Here os (to_value t a s) e
FromState (ValueReference os t a r) s e = Here os (to_value t a (38 ∷ (r ++ s))) e
FromState (InEnd o os came c left) s e = FromOpen (o ∷ os) (60 ∷ 47 ∷ (came ++ s)) e
FromState (EndBlanks o os w) s e = FromOpen (o ∷ os) (60 ∷ 47 ∷ (written o.name ++ (w ++ s))) e

-- the front of a name
abbrev pub is_front : Name → Bool
is_front (Plain l) = is_plain l
is_front (Qualified p []) = is_plain p
is_front (Qualified p (b ∷ l)) = is_plain p && is_plain (b ∷ l)

pub record IsLead (w : List ℕ) : Type 0 where
  pub some : 0 < length w
  pub each : blanks w ≡ true

pub record IsTagFront (t : Tag) (w : List ℕ) : Type 0 where
  pub tag : IsTag t
  pub blanks : blanks w ≡ true

pub record IsNameFront (t : Tag) (w : List ℕ) (n : Name) : Type 0 where
  pub tag : IsTag t
  pub lead : IsLead w
  pub name : is_front n ≡ true

pub record IsEqualsFront (t : Tag) (w : List ℕ) (n : Name) (x y : List ℕ) : Type 0 where
  pub tag : IsTag t
  pub lead : IsLead w
  pub name : is_name n ≡ true
  pub before : blanks x ≡ true
  pub after : blanks y ≡ true

pub record IsValueFront (t : Tag) (a : Attribute) : Type 0 where
  pub tag : IsTag t
  pub lead : IsLead a.lead
  pub name : is_name a.name ≡ true
  pub before : blanks a.before ≡ true
  pub after : blanks a.after ≡ true
  pub parts : AreParts a.quote a.parts

pub record IsEmptyFront (os : List Open) (t : Tag) (w ns : List ℕ) : Type 0 where
  pub tag : IsTag t
  pub blanks : blanks w ≡ true
  pub resolved : resolved (scope_of os) t.name t.attributes ≡ Some ns

abbrev pub MayStand : List ℕ → Type 0
MayStand r = (r ≡ []) ⊎ (may_stand r ≡ true)

-- words that begin with no blank, and each text of which goes on
abbrev pub is_solid : Want → Bool
is_solid (One_of x y w) = not (blank x)
is_solid (Either x w v) = not (blank x)
is_solid w = false

abbrev pub is_good : Want → Bool
is_good Done = true
is_good (One_of x y w) = is_good w
is_good (Space w) = is_good w
is_good (Spaces w) = is_solid w && is_good w
is_good (Either x w v) = is_good w && is_good v

-- what holds of each state that the machine comes to
abbrev pub IsSound : State → Type 0
IsSound Begin = Unit {0}
IsSound MarkSecond = Unit {0}
IsSound MarkThird = Unit {0}
IsSound Opening = Unit {0}
IsSound DeclareX = Unit {0}
IsSound DeclareXm = Unit {0}
IsSound DeclareXml = Unit {0}
IsSound (Declaring Done) = ⊥
IsSound (Declaring w) = is_good w ≡ true
IsSound Outside = Unit {0}
IsSound (Text os n) = Unit {0}
IsSound (Return o os) = Unit {0}
IsSound (Markup p) = Unit {0}
IsSound (Mark p) = Unit {0}
IsSound (OpenComment p) = Unit {0}
IsSound (InComment p) = Unit {0}
IsSound (CommentDash p) = Unit {0}
IsSound (CommentClose p) = Unit {0}
IsSound (Question p) = Unit {0}
IsSound (InTarget p t) = Unit {0}
IsSound (TargetEnd p) = Unit {0}
IsSound (InInstruction p) = Unit {0}
IsSound (InstructionEnd p) = Unit {0}
IsSound (SectionWord o os came c left) = codes "CDATA[" ≡ came ++ (c ∷ left)
IsSound (InSection o os n) = Unit {0}
IsSound (SectionReturn o os) = Unit {0}
IsSound (InReference o os r) = MayStand r
IsSound (InName os n) = is_front n ≡ true
IsSound (InTag os t w) = IsTagFront t w
IsSound (EmptyTag os t w ns) = IsEmptyFront os t w ns
IsSound (AtName os t w n) = IsNameFront t w n
IsSound (BeforeEquals os t w n x) = IsEqualsFront t w n x []
IsSound (AfterEquals os t w n x y) = IsEqualsFront t w n x y
IsSound (InValue os t a) = IsValueFront t a
IsSound (ValueReference os t a r) = IsValueFront t a × MayStand r
IsSound (InEnd o os came c left) = written o.name ≡ came ++ (c ∷ left)
IsSound (EndBlanks o os w) = blanks w ≡ true
