use Rattle.dav_walk.proofs.RootLemmas.{wrong_root, only_wrong_root, waits_for_root}
use Rattle.dav_walk.proofs.laws.other_roots.Goals as goal

pub returns-clause-wrong : goal.returns-clause-wrong
returns-clause-wrong c = wrong_root

pub returns-clause-alone : goal.returns-clause-alone
returns-clause-alone c = only_wrong_root

pub returns-clause-going : goal.returns-clause-going
returns-clause-going c = waits_for_root
