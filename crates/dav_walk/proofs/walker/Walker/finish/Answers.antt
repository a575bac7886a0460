use Rattle.std.proofs.Common.{refl}
use Rattle.dav_walk.proofs.walker.Walker.finish.Goals as goal

pub returns-clause-whole : goal.returns-clause-whole
returns-clause-whole g c = c.count.ensures.whole

pub returns-clause-cut : goal.returns-clause-cut
returns-clause-cut g c = c.count.ensures.cut

pub returns-clause-stopped : goal.returns-clause-stopped
returns-clause-stopped g c = c.count.ensures.stopped

pub returns-clause-same : goal.returns-clause-same
returns-clause-same g c = c.count.ensures.same

pub returns-clause-unasked : goal.returns-clause-unasked
returns-clause-unasked g c = refl
