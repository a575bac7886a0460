use Rattle.std.proofs.Common.{sym, subst}
use Rattle.dav_locks.specs.Held.{IsStore}
use Rattle.dav_locks.proofs.HeldLemmas.{store_without}
use Rattle.dav_locks.proofs.store.LockStore.remove.Goals as goal

pub invariant_of-self : goal.invariant_of-self
invariant_of-self c =
    subst IsStore (sym c.remove.ensures) (store_without c.args.token.now c.self.inside.held c.self.invariant)
