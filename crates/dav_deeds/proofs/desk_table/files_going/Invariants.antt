use Rattle.std.proofs.Common.{◌≡◌, take}
use Rattle.dav_deeds.specs.Effects.{files_of, going, grounded}
use Rattle.dav_deeds.proofs.desk_table.files_going.Given as goal

abbrev pub invariant-loop-held : goal.invariant-loop-held
invariant-loop-held l = l.files.items ≡ grounded l.job (files_of (going l.path l.below (take l.held-index l.held-items)))
