use Rattle.dav_locks.proofs.GrammarLemmas.{same_reading}
use Rattle.dav_locks.proofs.laws.one_reading.Goals as goal

pub returns : goal.returns
returns c = same_reading
