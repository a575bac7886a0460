-- What a start finds in the index file.
use Rattle.std.specs.Prelude.{ℕ, ◌<◌, ◌≤◌, List, length, true, false}
use Rattle.dav_store.specs.Rows.{IsClosed}
use Rattle.dav_store.specs.Start.{IsNothing}
use Rattle.dav_store.specs.declared.starting.Found.{Found}
use Rattle.dav_store.specs.declared.starting.Found.TheVariants.{TooLong, Nothing, Something}

abbrev pub IsFound : List ℕ → Found → Type 0
IsFound file TooLong = 1099511627776 ≤ length file
IsFound file (Nothing true) = (length file < 1099511627776) × IsClosed file
IsFound file (Nothing false) = length file ≤ 1
IsFound file Something = (length file < 1099511627776) × (IsNothing file → ⊥)
