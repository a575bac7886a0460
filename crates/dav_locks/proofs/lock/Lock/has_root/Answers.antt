use Rattle.dav_locks.proofs.PathTests.{same_is}
use Rattle.dav_locks.proofs.lock.Lock.has_root.Goals as goal

pub returns : goal.returns
returns c = same_is c.args.self.now.root c.args.root.now c.same.result c.same.ensures
