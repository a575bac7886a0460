use Rattle.std.proofs.Common.{rules}
use Rattle.std.specs.Prelude.{not}
use Rattle.std.proofs.lemmas.Fn.{filter_same}
use Rattle.dav_locks.specs.Held.{has_token}
use Rattle.dav_locks.specs.declared.lock.Lock.{Lock}
use Rattle.dav_locks.proofs.places.remove.Goals as goal

pub returns : goal.returns
returns c =
    filter_same _ (λ (lock : Lock). not (has_token c.args.token.now lock)) _ (λ x b q k. search rules) c.args.locks.now.items c.retain.new.self.items c.retain.ensures.filtered
