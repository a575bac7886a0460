use Rattle.dav_verbs.proofs.SeenLemmas.{same_seen}
use Rattle.dav_verbs.proofs.laws.one_seen.Goals as goal

pub returns : goal.returns
returns c = same_seen
