-- A list of one.
use Rattle.std.specs.Prelude.{List, [], ◌∷◌, Option, Some, None}

-- the one in a list of one, and none of every other list
abbrev pub only_in : {X : Type 0} → List X → Option X
only_in [] = None
only_in (x ∷ []) = Some x
only_in (x ∷ y ∷ more) = None
