-- The open elements of the code, the innermost of which is its last.
use Rattle.std.specs.Prelude.{List, [], ◌∷◌, fold}
use Rattle.dav_walk.specs.Gathering as gathering
use Rattle.dav_walk.specs.declared.opened.Opened.{Opened}
use Rattle.dav_walk.specs.declared.opened.Stack.TheInside.{Inside}

abbrev pub opened_in : Opened → gathering.Opened
opened_in o = record { place = o.place; text = o.text.items }

abbrev pub onto : List gathering.Opened → Opened → List gathering.Opened
onto os o = opened_in o ∷ os

abbrev pub stack_in : Inside → List gathering.Opened
stack_in s = fold onto [] s.elements.items
