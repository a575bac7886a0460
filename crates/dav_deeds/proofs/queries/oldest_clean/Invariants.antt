use Rattle.std.proofs.Common.{◌≡◌, take, None, fold}
use Rattle.std.specs.Option.{option_copied}
use Rattle.dav_index.specs.Queries.{older}
use Rattle.dav_deeds.proofs.queries.oldest_clean.Given as goal

abbrev pub invariant-loop-held : goal.invariant-loop-held
invariant-loop-held l = option_copied l.best ≡ fold older None (take l.held-index l.items)
