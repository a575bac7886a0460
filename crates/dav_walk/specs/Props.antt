-- The properties that a reader of a response still has to give.
use Rattle.std.specs.Prelude.{ℕ, ◌+◌, ◌-◌, ◌==◌, nat_le, Bool, true, false, List, [], ◌∷◌, ◌++◌, map, slice_get, Option, Some, None, codes, if◌then◌else◌}
use Rattle.dav_walk.specs.Tree.{Item, is_dav}
use Rattle.dav_walk.specs.Reading.{Given, propstat_code}
use Rattle.dav_walk.specs.declared.node.Node.{Node}
use Rattle.dav_walk.specs.declared.props.Context.{Context}
use Rattle.dav_walk.specs.declared.props.Context.TheVariants.{Aside, Propstat, Prop}

-- a property with the node of its element
pub record Placed : Type 0 where
  pub status : ℕ
  pub place : ℕ
  pub node : Option Node

abbrev pub placed_by : List Node → Given → Placed
placed_by nodes given = record { status = given.status; place = given.place; node = slice_get nodes given.place }

abbrev pub placed : List Node → List Given → List Placed
placed nodes given = map (placed_by nodes) given

-- what an element gives there that is so many levels below the response's own
abbrev pub given_here : ℕ → ℕ → Context → List Given
given_here level place (Prop code) = if level == 3 then record { status = code; place = place } ∷ [] else []
given_here level place c = []

abbrev pub context_of : Option ℕ → Context
context_of None = Aside
context_of (Some code) = Propstat code

-- behind the start of a child of a `propstat`, which is `prop` or not
abbrev pub context_in : Bool → Context → Context
context_in is_prop Aside = Aside
context_in true (Propstat code) = Prop code
context_in true (Prop code) = Prop code
context_in false (Propstat code) = Propstat code
context_in false (Prop code) = Propstat code

abbrev pub context_after : ℕ → Item → List Item → Context → Context
context_after level x xs c =
    if level == 1 then (if is_dav x.ns x.name (codes "propstat") then context_of (propstat_code x.depth xs) else Aside)
    else (if level == 2 then context_in (is_dav x.ns x.name (codes "prop")) c else c)

-- what these elements give, which stand below a response at a depth
abbrev pub left_from : ℕ → ℕ → List Item → Context → List Given
left_from depth place [] c = []
left_from depth place (x ∷ xs) c =
    if nat_le x.depth depth then []
    else given_here (x.depth - depth) place c ++ left_from depth (place + 1) xs (context_after (x.depth - depth) x xs c)
