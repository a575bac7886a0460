-- The positions of the code as states of the machine. Of what no step looks at again, as blanks in a tag, the machine's state may hold any.
use Rattle.std.specs.Prelude.{◌≡◌, ℕ, Bool, true, false, List, [], ◌∷◌, ◌++◌, fold}
use Rattle.dav_doc.specs.Document as document
use Rattle.dav_doc.specs.Machine as machine
use Rattle.dav_doc.specs.Machine.{State, scope_of}
use Rattle.dav_doc.specs.Names as names
use Rattle.dav_doc.specs.Names.{written, value_of}
use Rattle.dav_doc.specs.References.{stands_for, may_stand}
use Rattle.dav_markup.specs.Aside.{aside_in}
use Rattle.dav_markup.specs.Choice.{quote_of}
use Rattle.dav_markup.specs.End.{end_at}
use Rattle.dav_markup.specs.Markup.{place_in, opens_in}
use Rattle.dav_markup.specs.Name.{name_in}
use Rattle.dav_markup.specs.Outer.{outer_in}
use Rattle.dav_markup.specs.Reference.{means, may}
use Rattle.dav_markup.specs.Scope.{bindings_in, Fits}
use Rattle.dav_markup.specs.Section.{brackets_in, section_in}
use Rattle.dav_markup.specs.declared.markup.Place.{Place}
use Rattle.dav_markup.specs.declared.name.Name.{Name}
use Rattle.dav_markup.specs.declared.reference.Reference.{Reference}
use Rattle.dav_markup.specs.declared.scope.Open.{Open}
use Rattle.dav_markup.specs.declared.scope.Tag.{Tag}
use Rattle.dav_xml.specs.declared.position.Position.{Position}
use Rattle.dav_xml.specs.declared.position.Position.TheVariants as positions
use Rattle.dav_xml.specs.declared.position.StartTag.{StartTag}
use Rattle.dav_xml.specs.declared.position.StartTag.TheVariants as starts
use Rattle.dav_xml.specs.declared.position.Value.{Value}

abbrev pub opened_by : List machine.Open → Open → List machine.Open
opened_by os o = record { name = name_in o.name; scope = bindings_in o.bindings.items ++ scope_of os } ∷ os

-- the open elements, the innermost first; the code has it last
abbrev pub stack_of : List Open → List machine.Open
stack_of opens = fold opened_by [] opens

-- an element is open
pub record Inside (os : List machine.Open) : Type 0 where
  pub element : machine.Open
  pub around : List machine.Open
  pub split : os ≡ element ∷ around

-- these elements are open at that place of markup
pub record Placed (p : Place) (os : List machine.Open) : Type 0 where
  pub element : machine.Open
  pub around : List machine.Open
  pub split : os ≡ opens_in p element around

-- the front of a reference of which this text has come
pub record IsFront (r : Reference) (text : List ℕ) : Type 0 where
  pub means : (t : List ℕ) → means r t ≡ stands_for (text ++ t)
  pub may : (t : List ℕ) → may r t ≡ may_stand (text ++ t)

-- in a reference in text
pub record InReference (r : Reference) (os : List machine.Open) (st : State) : Type 0 where
  pub inside : Inside os
  pub text : List ℕ
  pub front : IsFront r text
  pub is : st ≡ machine.InReference inside.element inside.around text

-- in the name of an end tag
pub record InEndName (letters : List ℕ) (came : ℕ) (os : List machine.Open) (st : State) : Type 0 where
  pub inside : Inside os
  pub name : letters ≡ written inside.element.name
  pub is : st ≡ end_at inside.element inside.around came

-- behind it
pub record InEndBlanks (os : List machine.Open) (st : State) : Type 0 where
  pub inside : Inside os
  pub blanks : List ℕ
  pub is : st ≡ machine.EndBlanks inside.element inside.around blanks

abbrev pub are_some : List ℕ → Bool
are_some [] = false
are_some (b ∷ s) = true

-- behind the name of a tag or an attribute, and blanks
pub record IsBetween (tag : Tag) (any : Bool) (os : List machine.Open) (st : State) : Type 0 where
  pub t : document.Tag
  pub blanks : List ℕ
  pub fits : Fits tag t
  pub some : are_some blanks ≡ any
  pub is : st ≡ machine.InTag os t blanks

-- behind the slash of an empty tag
pub record IsBehindSlash (tag : Tag) (ns : List ℕ) (os : List machine.Open) (st : State) : Type 0 where
  pub t : document.Tag
  pub blanks : List ℕ
  pub fits : Fits tag t
  pub is : st ≡ machine.EmptyTag os t blanks ns

-- in the name of an attribute
pub record IsInAttribute (tag : Tag) (name : Name) (os : List machine.Open) (st : State) : Type 0 where
  pub t : document.Tag
  pub blanks : List ℕ
  pub fits : Fits tag t
  pub is : st ≡ machine.AtName os t blanks (name_in name)

-- behind it
pub record IsBeforeEquals (tag : Tag) (name : Name) (os : List machine.Open) (st : State) : Type 0 where
  pub t : document.Tag
  pub blanks : List ℕ
  pub before : List ℕ
  pub fits : Fits tag t
  pub is : st ≡ machine.BeforeEquals os t blanks (name_in name) before

-- behind the equals sign
pub record IsAfterEquals (tag : Tag) (name : Name) (os : List machine.Open) (st : State) : Type 0 where
  pub t : document.Tag
  pub blanks : List ℕ
  pub before : List ℕ
  pub after : List ℕ
  pub fits : Fits tag t
  pub is : st ≡ machine.AfterEquals os t blanks (name_in name) before after

-- the code's value is what its attribute says
pub record IsValue (v : Value) (t : document.Tag) (a : names.Attribute) : Type 0 where
  pub fits : Fits v.tag t
  pub name : name_in v.name ≡ a.name
  pub quote : quote_of v.quote ≡ a.quote
  pub bytes : v.bytes ≡ value_of a

-- in the value of an attribute
pub record IsInValue (v : Value) (os : List machine.Open) (st : State) : Type 0 where
  pub t : document.Tag
  pub attribute : names.Attribute
  pub value : IsValue v t attribute
  pub is : st ≡ machine.InValue os t attribute

-- in a reference there
pub record IsInValueReference (v : Value) (r : Reference) (os : List machine.Open) (st : State) : Type 0 where
  pub t : document.Tag
  pub attribute : names.Attribute
  pub text : List ℕ
  pub value : IsValue v t attribute
  pub front : IsFront r text
  pub is : st ≡ machine.ValueReference os t attribute text

abbrev pub StartsAt : StartTag → List machine.Open → State → Type 0
StartsAt (starts.Name name) os st = st ≡ machine.InName os (name_in name)
StartsAt (starts.Between tag some) os st = IsBetween tag some os st
StartsAt (starts.Slash tag ns) os st = IsBehindSlash tag ns os st
StartsAt (starts.Attribute tag name) os st = IsInAttribute tag name os st
StartsAt (starts.BeforeEquals tag name) os st = IsBeforeEquals tag name os st
StartsAt (starts.AfterEquals tag name) os st = IsAfterEquals tag name os st
StartsAt (starts.Value value) os st = IsInValue value os st
StartsAt (starts.ValueReference value reference) os st = IsInValueReference value reference os st

-- the position stands for the machine's state below these open elements
abbrev pub Stands : Position → List machine.Open → State → Type 0
Stands (positions.Outer outer) os st = (os ≡ []) × (st ≡ outer_in outer)
Stands (positions.Text brackets) os st = st ≡ machine.Text os (brackets_in brackets)
Stands positions.Return os st = (i : Inside os) × (st ≡ machine.Return i.element i.around)
Stands (positions.Less place) os st = (i : Placed place os) × (st ≡ machine.Markup (place_in place i.element i.around))
Stands (positions.Mark place) os st = (i : Placed place os) × (st ≡ machine.Mark (place_in place i.element i.around))
Stands (positions.Question place) os st = (i : Placed place os) × (st ≡ machine.Question (place_in place i.element i.around))
Stands (positions.Aside place aside) os st = (i : Placed place os) × (st ≡ aside_in aside (place_in place i.element i.around))
Stands (positions.Section section) os st = (i : Inside os) × (st ≡ section_in section i.element i.around)
Stands (positions.Reference reference) os st = InReference reference os st
Stands (positions.Start start) os st = StartsAt start os st
Stands (positions.End name came) os st = InEndName name came os st
Stands positions.EndBlanks os st = InEndBlanks os st
