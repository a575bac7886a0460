-- What is wrong with the first field of a text.
use Rattle.std.specs.Prelude.{ℕ, List}
use Rattle.dav_index.specs.Faults.{Shape, IsCutOff, IsWrong}
use Rattle.dav_index.specs.declared.flaw.Flaw.{Flaw}
use Rattle.dav_index.specs.declared.flaw.Flaw.TheVariants.{CutOff, Wrong}

abbrev pub IsFlawed : Shape → List ℕ → Flaw → Type 0
IsFlawed shape bytes CutOff = IsCutOff shape bytes
IsFlawed shape bytes Wrong = IsWrong shape bytes
