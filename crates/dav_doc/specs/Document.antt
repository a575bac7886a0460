-- Which texts spell a tree.
use Rattle.std.specs.Prelude.{◌≡◌, ℕ, ◌+◌, Bool, true, false, ◌==◌, List, [], ◌∷◌, ◌++◌, Some, ◌&&◌, ◌||◌, ◌⊎◌, codes, if◌then◌else◌}
use Rattle.dav_doc.specs.Bytes.{in_text, in_name, starts_name, blank, blanks, quote_byte, begins_greater, begins_end}
use Rattle.dav_doc.specs.References.{stands_for}
use Rattle.dav_doc.specs.Characters.{Characters}
use Rattle.dav_doc.specs.Words.{Words, declaration}
use Rattle.dav_doc.specs.Names.{Name, written, local_of, is_name, Attribute, Binding, declared, resolved, base, parts_text, AreAttributes}

-- a list of trees: nothing more, a byte of text and what follows, or an element, what it holds and what follows
pub data Forest : Type 0 where
  Nil : Forest
  Chars : ℕ → Forest → Forest
  Element : List ℕ → List ℕ → Forest → Forest → Forest

-- a start with its depth, namespace and name; a byte of text; an end with its depth
pub data Event : Type 0 where
  Start : ℕ → List ℕ → List ℕ → Event
  Char : ℕ → Event
  End : ℕ → Event

abbrev pub said : List ℕ → Forest → Forest
said [] f = f
said (b ∷ m) f = Chars b (said m f)

-- the events of trees at a depth, in document order
abbrev pub events : ℕ → Forest → List Event
events d Nil = []
events d (Chars b f) = Char b ∷ events d f
events d (Element ns name inside after) = Start d ns name ∷ ((events (d + 1) inside ++ (End d ∷ [])) ++ events d after)

-- a tag without its brackets: its name and its attributes
pub record Tag : Type 0 where
  pub name : Name
  pub attributes : List Attribute

pub record IsTag (t : Tag) : Type 0 where
  pub name : is_name t.name ≡ true
  pub attributes : AreAttributes t.attributes

abbrev pub attribute_text : Attribute → List ℕ
attribute_text a =
    a.lead ++ (written a.name ++ (a.before ++ (61 ∷ (a.after ++ (quote_byte a.quote ∷ (parts_text a.parts ++ (quote_byte a.quote ∷ [])))))))

abbrev pub attributes_text : List Attribute → List ℕ
attributes_text [] = []
attributes_text (a ∷ rest) = attribute_text a ++ attributes_text rest

abbrev pub tag_text : Tag → List ℕ
tag_text t = written t.name ++ attributes_text t.attributes

-- a start tag, an empty tag and an end tag, each with blanks before its end (XML 1.0, productions 40, 44, 42)
abbrev pub start_tag : Tag → List ℕ → List ℕ
start_tag t w = 60 ∷ (tag_text t ++ (w ++ (62 ∷ [])))

abbrev pub empty_tag : Tag → List ℕ → List ℕ
empty_tag t w = 60 ∷ (tag_text t ++ (w ++ (47 ∷ 62 ∷ [])))

abbrev pub end_tag : Name → List ℕ → List ℕ
end_tag name w = 60 ∷ 47 ∷ (written name ++ (w ++ (62 ∷ [])))

-- the rest of a comment after `<!--`: bytes other than `-`, each with at most one `-` before it, and `-->` (production 15)
pub data CommentRest : List ℕ → Type 0 where
  closed : CommentRest (45 ∷ 45 ∷ 62 ∷ [])
  byte : {s : List ℕ} (b : ℕ) → (b == 45) ≡ false → CommentRest s → CommentRest (b ∷ s)
  dashed : {s : List ℕ} (b : ℕ) → (b == 45) ≡ false → CommentRest s → CommentRest (45 ∷ b ∷ s)

-- the text begins `?>`
abbrev pub begins_close : List ℕ → Bool
begins_close [] = false
begins_close (b ∷ s) = (b == 63) && begins_greater s

-- the rest of a processing instruction after the blank behind its target: up to the first `?>` (production 16)
pub data InstructionRest : List ℕ → Type 0 where
  ended_here : InstructionRest (63 ∷ 62 ∷ [])
  kept : {s : List ℕ} (b : ℕ) → begins_close (b ∷ s) ≡ false → InstructionRest s → InstructionRest (b ∷ s)

-- how a target begins: with no part of `xml`, in any case, as a whole so far, or with one, two or all three of its letters
pub data Target : Type 0 where
  Unlike : Target
  X : Target
  Xm : Target
  Xml : Target

abbrev pub target_first : ℕ → Target
target_first b = if (b == 120) || (b == 88) then X else Unlike

abbrev pub target_next : Target → ℕ → Target
target_next Unlike b = Unlike
target_next X b = if (b == 109) || (b == 77) then Xm else Unlike
target_next Xm b = if (b == 108) || (b == 76) then Xml else Unlike
target_next Xml b = Unlike

abbrev pub is_target : Target → Bool
is_target Xml = false
is_target t = true

-- the rest of an instruction after the front of its target: more of a name that is not `xml` (production 17), then `?>` or a blank and more
pub data TargetRest : Target → List ℕ → Type 0 where
  named : {t : Target} {s : List ℕ} (b : ℕ) → in_name b ≡ true → TargetRest (target_next t b) s → TargetRest t (b ∷ s)
  bare : {t : Target} → is_target t ≡ true → TargetRest t (63 ∷ 62 ∷ [])
  spaced : {t : Target} {s : List ℕ} (b : ℕ) → is_target t ≡ true → blank b ≡ true → InstructionRest s → TargetRest t (b ∷ s)

-- an instruction after its `<?`
pub data Instruction : List ℕ → Type 0 where
  instruction_of : {s : List ℕ} (b : ℕ) → starts_name b ≡ true → TargetRest (target_first b) s → Instruction (b ∷ s)

-- the text begins with LF
abbrev pub begins_feed : List ℕ → Bool
begins_feed [] = false
begins_feed (b ∷ s) = b == 10

-- what a CDATA section holds, and its text after `<![CDATA[`, up to the first `]]>` (productions 18 to 21): CR LF is LF there too, and so is
-- a CR that no LF follows (section 2.11)
pub data SectionRest : List ℕ → List ℕ → Type 0 where
  section_ends : SectionRest [] (93 ∷ 93 ∷ 62 ∷ [])
  section_byte : {d s : List ℕ} (b : ℕ) → (b == 13) ≡ false → begins_end (b ∷ s) ≡ false → SectionRest d s → SectionRest (b ∷ d) (b ∷ s)
  section_line : {d s : List ℕ} → SectionRest d s → SectionRest (10 ∷ d) (13 ∷ 10 ∷ s)
  section_return : {d s : List ℕ} → begins_feed s ≡ false → SectionRest d s → SectionRest (10 ∷ d) (13 ∷ s)

abbrev pub section_open : List ℕ → List ℕ
section_open s = 60 ∷ 33 ∷ 91 ∷ (codes "CDATA[" ++ s)

-- the text of trees below these declarations (production 43); in text CR LF is LF, and so is a CR that no LF follows (section 2.11)
pub data Content : List Binding → Forest → List ℕ → Type 0 where
  nothing : {scope : List Binding} → Content scope Nil []
  text : {scope : List Binding} {f : Forest} {s : List ℕ} (b : ℕ) → in_text b ≡ true → (b == 13) ≡ false → begins_end (b ∷ s) ≡ false
      → Content scope f s → Content scope (Chars b f) (b ∷ s)
  line_end : {scope : List Binding} {f : Forest} {s : List ℕ} → Content scope f s → Content scope (Chars 10 f) (13 ∷ 10 ∷ s)
  lone_return : {scope : List Binding} {f : Forest} {s : List ℕ} → begins_feed s ≡ false
      → Content scope f s → Content scope (Chars 10 f) (13 ∷ s)
  reference : {scope : List Binding} {f : Forest} {s : List ℕ} (r m : List ℕ) → stands_for r ≡ Some m
      → Content scope f s → Content scope (said m f) (38 ∷ (r ++ s))
  comment : {scope : List Binding} {f : Forest} {s : List ℕ} (c : List ℕ) → CommentRest c
      → Content scope f s → Content scope f (60 ∷ 33 ∷ 45 ∷ 45 ∷ (c ++ s))
  instruction : {scope : List Binding} {f : Forest} {s : List ℕ} (c : List ℕ) → Instruction c
      → Content scope f s → Content scope f (60 ∷ 63 ∷ (c ++ s))
  section : {scope : List Binding} {f : Forest} {s : List ℕ} (d c : List ℕ) → SectionRest d c
      → Content scope f s → Content scope (said d f) (section_open (c ++ s))
  empty : {scope : List Binding} {after : Forest} {s : List ℕ} (t : Tag) (w ns : List ℕ)
      → IsTag t → blanks w ≡ true → resolved scope t.name t.attributes ≡ Some ns
      → Content scope after s → Content scope (Element ns (local_of t.name) Nil after) (empty_tag t w ++ s)
  element : {scope : List Binding} {inside after : Forest} {s r : List ℕ} (t : Tag) (w v ns : List ℕ)
      → IsTag t → blanks w ≡ true → blanks v ≡ true → resolved scope t.name t.attributes ≡ Some ns
      → Content (declared t.attributes scope) inside s → Content scope after r
      → Content scope (Element ns (local_of t.name) inside after) (start_tag t w ++ (s ++ (end_tag t.name v ++ r)))

-- blanks, comments and instructions, before and after the root (production 27)
pub data Around : List ℕ → Type 0 where
  ended : Around []
  space : {s : List ℕ} (b : ℕ) → blank b ≡ true → Around s → Around (b ∷ s)
  remark : {s : List ℕ} (c : List ℕ) → CommentRest c → Around s → Around (60 ∷ 33 ∷ 45 ∷ 45 ∷ (c ++ s))
  advice : {s : List ℕ} (c : List ℕ) → Instruction c → Around s → Around (60 ∷ 63 ∷ (c ++ s))

-- the root element
pub data Root : Forest → List ℕ → Type 0 where
  alone : (t : Tag) (w ns : List ℕ)
      → IsTag t → blanks w ≡ true → resolved base t.name t.attributes ≡ Some ns
      → Root (Element ns (local_of t.name) Nil Nil) (empty_tag t w)
  full : {inside : Forest} {s : List ℕ} (t : Tag) (w v ns : List ℕ)
      → IsTag t → blanks w ≡ true → blanks v ≡ true → resolved base t.name t.attributes ≡ Some ns
      → Content (declared t.attributes base) inside s
      → Root (Element ns (local_of t.name) inside Nil) (start_tag t w ++ (s ++ end_tag t.name v))

-- the text spells the tree after a declaration
pub record Rooted (tree : Forest) (s : List ℕ) : Type 0 where
  pub front : List ℕ
  pub middle : List ℕ
  pub back : List ℕ
  pub before : Around front
  pub root : Root tree middle
  pub after : Around back
  pub split : s ≡ front ++ (middle ++ back)

-- an XML declaration, or none (production 23)
abbrev pub IsDeclaration : List ℕ → Type 0
IsDeclaration s = (s ≡ []) ⊎ ((c : List ℕ) × (s ≡ 60 ∷ 63 ∷ c) × Words declaration c)

-- the text spells the tree, with or without a declaration (production 1)
pub record Declared (tree : Forest) (s : List ℕ) : Type 0 where
  pub first : List ℕ
  pub rest : List ℕ
  pub declared : IsDeclaration first
  pub rooted : Rooted tree rest
  pub split : s ≡ first ++ rest

-- the whole text spells the tree, with or without a byte order mark (XML 1.0, section 4.3.3)
pub record Spells (tree : Forest) (s : List ℕ) : Type 0 where
  pub mark : List ℕ
  pub document : List ℕ
  pub marked : (mark ≡ []) ⊎ (mark ≡ 239 ∷ 187 ∷ 191 ∷ [])
  pub declared : Declared tree document
  pub split : s ≡ mark ++ document

-- the whole text spells the tree, and is of characters in UTF-8
pub record IsDocument (tree : Forest) (s : List ℕ) : Type 0 where
  pub spells : Spells tree s
  pub characters : Characters s
