use Rattle.dav_walk.proofs.TreeLemmas.{gives_responses}
use Rattle.dav_walk.proofs.laws.all_given.Goals as goal

pub returns : goal.returns
returns c = λ root ns name inside. (gives_responses root ns name inside).given
