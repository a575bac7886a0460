use Rattle.dav_deeds.proofs.Resting.{rest_within, rest_bodies}
use Rattle.dav_deeds.proofs.laws.starts_keep_bodies.Goals as goal

pub returns-clause-within : goal.returns-clause-within
returns-clause-within c = rest_within

pub returns-clause-bodies : goal.returns-clause-bodies
returns-clause-bodies c = rest_bodies
