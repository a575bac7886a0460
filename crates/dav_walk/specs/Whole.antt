-- All responses that some events give, faults aside.
use Rattle.std.specs.Prelude.{ℕ, ◌+◌, List, [], ◌∷◌, ◌++◌}
use Rattle.dav_doc.specs.Document.{Event}
use Rattle.dav_walk.specs.Tree.{Item}
use Rattle.dav_walk.specs.Lending.{Response}
use Rattle.dav_walk.specs.Gathering.{Gathering, next, ended}

abbrev pub after : Gathering → List Event → Gathering
after g [] = g
after g (e ∷ es) = after (next g e) es

abbrev pub given : Gathering → List Event → List Response
given g [] = []
given g (e ∷ es) = ended g e ++ given (next g e) es

-- these responses in a row, the first of which has that number before it
abbrev pub numbered : ℕ → List (List Item) → List Response
numbered index [] = []
numbered index (x ∷ xs) = record { items = x; index = index } ∷ numbered (index + 1) xs
