-- The nodes of the code as elements.
use Rattle.std.specs.Prelude.{List, ℕ, map, take, drop}
use Rattle.dav_walk.specs.Tree.{Item}
use Rattle.dav_walk.specs.declared.node.Span.{Span}
use Rattle.dav_walk.specs.declared.node.Node.{Node}

-- the bytes of the span, as far as the text has them
abbrev pub part : List ℕ → Span → List ℕ
part text span = take span.len (drop span.at text)

abbrev pub item_of : List ℕ → Node → Item
item_of text node = record { depth = node.depth; ns = part text node.ns; name = part text node.name; text = part text node.text }

abbrev pub items_of : List Node → List ℕ → List Item
items_of nodes text = map (item_of text) nodes
