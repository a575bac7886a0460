-- The nodes of a response that comes, as its elements.
use Rattle.std.specs.Prelude.{ℕ, ◌+◌, ◌≤◌, List, length, All}
use Rattle.dav_walk.specs.Tree.{Item}
use Rattle.dav_walk.specs.View.{items_of}
use Rattle.dav_walk.specs.declared.node.Span.{Span}
use Rattle.dav_walk.specs.declared.node.Node.{Node}
use Rattle.dav_walk.specs.declared.gathered.Gathered.TheInside.{Inside}

abbrev pub ends_within : ℕ → Span → Type 0
ends_within len span = span.at + span.len ≤ len

-- a node's spans end within a text of that many bytes
pub record IsWithin (len : ℕ) (node : Node) : Type 0 where
  pub ns : ends_within len node.ns
  pub name : ends_within len node.name
  pub text : ends_within len node.text

pub record IsGathered (g : Inside) : Type 0 where
  pub few : length g.nodes.items ≤ 4096
  pub short : length g.text.items ≤ 1048576
  pub within : All (IsWithin (length g.text.items)) g.nodes.items

abbrev pub gathered_in : Inside → List Item
gathered_in g = items_of g.nodes.items g.text.items
