use Rattle.std.specs.Prelude.{◌≡◌, take, Some}
use Rattle.dav_markup.specs.Owing.{owed_in}
use Rattle.dav_markup.specs.Stretch.{is_alike, after_all}
use Rattle.dav_markup.proofs.stretch.longest.Given as goal

abbrev pub invariant-loop-index : goal.invariant-loop-index
invariant-loop-index l = after_all (is_alike l.alike) (take l.index l.bytes) (owed_in l.fn.owed) ≡ Some (owed_in l.behind)
