use Rattle.std.proofs.Common.{◌≡◌, take, None, fold}
use Rattle.std.specs.Option.{option_copied}
use Rattle.dav_index.specs.Queries.{sooner}
use Rattle.dav_deeds.proofs.queries.next_due.Given as goal

abbrev pub invariant-loop-held : goal.invariant-loop-held
invariant-loop-held l = option_copied l.best ≡ fold (sooner l.now l.stopping) None (take l.held-index l.items)
