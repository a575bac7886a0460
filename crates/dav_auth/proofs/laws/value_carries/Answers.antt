use Rattle.dav_auth.proofs.GrammarLemmas.{carries}
use Rattle.dav_auth.proofs.laws.value_carries.Goals as goal

pub returns : goal.returns
returns c = carries
