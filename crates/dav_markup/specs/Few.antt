-- The bytes that one step gives.
use Rattle.std.specs.Prelude.{ℕ, List}
use Rattle.dav_markup.specs.declared.few.Few.{Few}
use Rattle.dav_markup.specs.declared.few.Few.TheVariants.{One, Two, Three, Four}

abbrev pub few_in : Few → List ℕ
few_in (One s) = s
few_in (Two s) = s
few_in (Three s) = s
few_in (Four s) = s
