use Rattle.dav_locks.proofs.HeldLemmas.{store_after}
use Rattle.dav_locks.proofs.store.LockStore.add.Goals as goal

pub invariant_of-self : goal.invariant_of-self
invariant_of-self c =
    store_after c.hold.result c.args.lock.now c.self.inside.held c.hold.new.self c.self.invariant c.hold.ensures.ok c.hold.ensures.err c.hold.ensures.full
