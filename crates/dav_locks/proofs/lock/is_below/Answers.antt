use Rattle.dav_locks.proofs.PathTests.{below_is}
use Rattle.dav_locks.proofs.lock.is_below.Goals as goal

pub returns : goal.returns
returns c = below_is c.args.path.now c.args.top.now c.is_under.result c.is_under.ensures
