use Rattle.dav_walk.proofs.LimitLemmas.{has_large}
use Rattle.dav_walk.proofs.laws.large_responses.Goals as goal

pub returns : goal.returns
returns c = has_large
