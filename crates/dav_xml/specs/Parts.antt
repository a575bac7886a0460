-- Parts of the steps in start tags.
use Rattle.std.specs.Prelude.{◌≡◌, ℕ, List, [], Option, Some, None, Result, Ok, Err}
use Rattle.dav_doc.specs.Document as document
use Rattle.dav_doc.specs.Machine as machine
use Rattle.dav_doc.specs.Machine.{State, step, on, opened, slashed, scope_of, with_attribute}
use Rattle.dav_doc.specs.Names.{Attribute, resolved, is_fine}
use Rattle.dav_markup.specs.Scope.{Fits}
use Rattle.dav_markup.specs.declared.scope.Tag.{Tag}
use Rattle.dav_xml.specs.declared.fault.XmlFault.{XmlFault}
use Rattle.dav_xml.specs.declared.fault.XmlFault.TheVariants as faults
use Rattle.dav_xml.specs.declared.position.Position.{Position}
use Rattle.dav_xml.specs.declared.position.Value.{Value}
use Rattle.dav_xml.specs.declared.step.Step.{Step}
use Rattle.dav_xml.specs.Moves.{Moves, Steps}
use Rattle.dav_text.specs.declared.which.Which.{Which}
use Rattle.dav_xml.specs.Reading.{attributes_of, limit_by}
use Rattle.dav_xml.specs.Turn.{begun_by, attributes_by}
use Rattle.dav_xml.specs.Stands.{IsValue}
use Rattle.std.specs.Prelude.{length}

-- the step ends the start tag
abbrev pub Closed : Tag → Option Step → List machine.Open → Type 0
Closed tag s os = (st : State) (b : ℕ) (t : document.Tag) → Fits tag t → attributes_of st ≡ length t.attributes
    → step st b ≡ opened os t (resolved (scope_of os) t.name t.attributes) → Moves s os st b

-- the step is the slash of the empty tag
abbrev pub Slashed : Tag → Option Step → List machine.Open → Type 0
Slashed tag s os = (st : State) (b : ℕ) (t : document.Tag) (w : List ℕ) → Fits tag t
    → step st b ≡ slashed os t w (resolved (scope_of os) t.name t.attributes) → Moves s os st b

-- the step ends the value
abbrev pub Ended : Value → Option Step → Type 0
Ended v s = (os : List machine.Open) (st : State) (b : ℕ) (t : document.Tag) (a : Attribute) → IsValue v t a
    → step st b ≡ on (is_fine a) (machine.To (machine.InTag os (with_attribute t a) []) []) machine.Bad → Moves s os st b

-- some step is the machine's move, wherever the position stands for a state, and passes that limit
pub record IsLimited (p : Position) (os : List machine.Open) (depth size b : ℕ) (which : Which) : Type 0 where
  pub step : Step
  pub moves : Steps p (Some step) os b
  pub limit : Some which ≡ limit_by (begun_by step depth) (attributes_by step) size

-- what the code answers at a byte
abbrev pub StepAt : Position → List machine.Open → ℕ → ℕ → ℕ → ℕ → Result Step XmlFault → Type 0
StepAt p os at depth size b (Ok s) = Steps p (Some s) os b × (None ≡ limit_by (begun_by s depth) (attributes_by s) size)
StepAt p os at depth size b (Err (faults.Bad place)) = (place ≡ at) × Steps p None os b
StepAt p os at depth size b (Err (faults.Limit which)) = IsLimited p os depth size b which
StepAt p os at depth size b (Err faults.Memory) = Unit {0}
StepAt p os at depth size b (Err faults.Cut) = ⊥
