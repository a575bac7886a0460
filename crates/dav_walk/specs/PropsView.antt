-- The properties that a reader of the code still has to give.
use Rattle.std.specs.Prelude.{List, drop, Some}
use Rattle.dav_walk.specs.View.{items_of}
use Rattle.dav_walk.specs.Props.{Placed, placed, left_from}
use Rattle.dav_walk.specs.declared.props.Props as props
use Rattle.dav_walk.specs.declared.props.Prop as prop

abbrev pub placed_of : prop.Prop → Placed
placed_of p = record { status = p.status; place = p.place; node = Some p.node.now }

abbrev pub left : props.Props → List Placed
left s = placed s.nodes.now (left_from s.depth s.at (items_of (drop s.at s.nodes.now) s.text.now) s.context)
