use Rattle.dav_index.proofs.BoundLemmas.{fresh_within}
use Rattle.dav_index.proofs.laws.fresh_is_within.Goals as goal

pub returns : goal.returns
returns c = fresh_within
