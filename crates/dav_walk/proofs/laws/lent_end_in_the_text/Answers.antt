use Rattle.dav_walk.proofs.PlaceLemmas.{all_are_placed}
use Rattle.dav_walk.proofs.SoFarLemmas.{walked_end, refused_end}
use Rattle.dav_walk.proofs.laws.lent_end_in_the_text.Goals as goal

pub returns-clause-going : goal.returns-clause-going
returns-clause-going c = walked_end

pub returns-clause-refused : goal.returns-clause-refused
returns-clause-refused c = refused_end

pub returns-clause-all : goal.returns-clause-all
returns-clause-all c = λ root text tree d. all_are_placed root d
