-- A step of the code taken.
use Rattle.std.specs.Prelude.{◌≡◌, ℕ, ◌+◌, ◌<◌, Bool, true, false, List, ◌++◌, length, Option, Some, None}
use Rattle.dav_doc.specs.Machine.{State, To}
use Rattle.dav_doc.specs.Machine as machine
use Rattle.dav_markup.specs.declared.scope.Open.{Open}
use Rattle.dav_xml.specs.declared.position.Position.{Position}
use Rattle.dav_xml.specs.declared.position.Position.TheVariants as positions
use Rattle.dav_xml.specs.declared.step.Step.{Step}
use Rattle.dav_xml.specs.declared.step.Step.TheVariants.{Opens, Empty}
use Rattle.dav_xml.specs.declared.turn.Turn.{Turn}
use Rattle.dav_xml.specs.Events.{lent_in, later_in}
use Rattle.dav_xml.specs.Moves.{Moves}
use Rattle.dav_xml.specs.Stands.{stack_of, Stands}

-- the depth of the element that begins with the step
abbrev pub begun_by : Step → ℕ → Option ℕ
begun_by (Opens tag ns) depth = Some (depth + 1)
begun_by (Empty tag ns) depth = Some (depth + 1)
begun_by step depth = None

abbrev pub attributes_by : Step → ℕ
attributes_by (Opens tag ns) = length tag.bindings.items + length tag.prefixes.items
attributes_by (Empty tag ns) = length tag.bindings.items + length tag.prefixes.items
attributes_by step = 0

-- the step leaves the depth within its limit
abbrev pub IsShallow : Step → ℕ → Type 0
IsShallow (Opens tag ns) depth = depth < 32
IsShallow (Empty tag ns) depth = depth < 32
IsShallow step depth = Unit {0}

abbrev pub is_tag_at : Position → Bool
is_tag_at (positions.Less place) = true
is_tag_at (positions.Start start) = true
is_tag_at (positions.End name came) = true
is_tag_at positions.EndBlanks = true
is_tag_at position = false

-- behind the step the code stands for the machine's next state, and lends its events
pub record Turned (turn : Turn) (opens : List Open) (st : State) (b : ℕ) : Type 0 where
  pub state : State
  pub is : machine.step st b ≡ To state (lent_in turn.lent ++ later_in turn.lent)
  pub stands : Stands turn.position (stack_of opens) state
  pub depth : turn.depth ≡ length opens

abbrev pub Turns : Step → List Open → ℕ → Turn → List Open → Type 0
Turns step old depth turn new = (st : State) (b : ℕ) → depth ≡ length old → Moves (Some step) (stack_of old) st b → Turned turn new st b
