use Rattle.dav_walk.proofs.FitLemmas.{lent_fit}
use Rattle.dav_walk.proofs.laws.lent_fit.Goals as goal

pub returns : goal.returns
returns c = lent_fit
