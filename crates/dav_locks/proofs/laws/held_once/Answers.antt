use Rattle.dav_locks.proofs.HeldLemmas.{tokens_held}
use Rattle.dav_locks.proofs.laws.held_once.Goals as goal

pub returns : goal.returns
returns c = tokens_held
