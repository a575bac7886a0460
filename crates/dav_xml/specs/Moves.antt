-- The steps of the code as moves of the machine.
use Rattle.std.specs.Prelude.{◌≡◌, ℕ, ◌+◌, List, [], ◌∷◌, length, Option, Some, None}
use Rattle.dav_doc.specs.Document as document
use Rattle.dav_doc.specs.Document.{Event, Start, End}
use Rattle.dav_doc.specs.Names.{local_of}
use Rattle.dav_doc.specs.Machine as machine
use Rattle.dav_doc.specs.Machine.{State, To, step, chars, opened}
use Rattle.dav_markup.specs.Few.{few_in}
use Rattle.dav_markup.specs.Scope.{Fits}
use Rattle.dav_markup.specs.declared.scope.Tag.{Tag}
use Rattle.dav_xml.specs.declared.position.Position.{Position}
use Rattle.dav_xml.specs.declared.step.Step.{Step}
use Rattle.dav_xml.specs.declared.step.Step.TheVariants.{Further, Text, Opens, Empty, Closes}
use Rattle.dav_xml.specs.Reading.{attributes_of}
use Rattle.dav_xml.specs.Stands.{Inside, Stands}

-- the byte leads to that position with these events
pub record Leads (next : Position) (os : List machine.Open) (e : List Event) (st : State) (b : ℕ) : Type 0 where
  pub state : State
  pub is : step st b ≡ To state e
  pub stands : Stands next os state

-- the byte ends that start tag
pub record IsOpened (tag : Tag) (ns : List ℕ) (os : List machine.Open) (st : State) (b : ℕ) : Type 0 where
  pub t : document.Tag
  pub fits : Fits tag t
  pub count : attributes_of st ≡ length t.attributes
  pub is : step st b ≡ opened os t (Some ns)

-- the byte ends that empty tag
pub record IsEmptied (tag : Tag) (ns : List ℕ) (os : List machine.Open) (st : State) (b : ℕ) : Type 0 where
  pub t : document.Tag
  pub fits : Fits tag t
  pub count : attributes_of st ≡ length t.attributes
  pub is : step st b ≡ To (machine.Text os machine.Zero) (Start (length os + 1) ns (local_of t.name) ∷ End (length os + 1) ∷ [])

-- the byte ends the end tag of the innermost element
pub record IsClosed (os : List machine.Open) (st : State) (b : ℕ) : Type 0 where
  pub inside : Inside os
  pub is : step st b ≡ To (machine.Text inside.around machine.Zero) (End (length inside.around + 1) ∷ [])

abbrev pub Moves : Option Step → List machine.Open → State → ℕ → Type 0
Moves None os st b = step st b ≡ machine.Bad
Moves (Some (Further next)) os st b = Leads next os [] st b
Moves (Some (Text next bytes)) os st b = Leads next os (chars (few_in bytes)) st b
Moves (Some (Opens tag ns)) os st b = IsOpened tag ns os st b
Moves (Some (Empty tag ns)) os st b = IsEmptied tag ns os st b
Moves (Some Closes) os st b = IsClosed os st b

-- wherever the position stands for a state, the step is the machine's move
abbrev pub Steps : Position → Option Step → List machine.Open → ℕ → Type 0
Steps p s os b = (st : State) → Stands p os st → Moves s os st b
