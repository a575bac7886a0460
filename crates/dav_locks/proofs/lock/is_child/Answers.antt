use Rattle.dav_locks.proofs.PathTests.{child_is}
use Rattle.dav_locks.proofs.lock.is_child.Goals as goal

pub returns : goal.returns
returns c = child_is c.args.parent.now c.args.path.now c.is_parent_of.result c.is_parent_of.ensures
