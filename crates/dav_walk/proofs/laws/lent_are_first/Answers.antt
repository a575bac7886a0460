use Rattle.dav_walk.proofs.SoFarLemmas.{walked_are_first, stopped_are_first, refuses_are_first, gathers_are_first}
use Rattle.dav_walk.proofs.laws.lent_are_first.Goals as goal

pub returns-clause-going : goal.returns-clause-going
returns-clause-going c = walked_are_first

pub returns-clause-stopped : goal.returns-clause-stopped
returns-clause-stopped c = stopped_are_first

pub returns-clause-refused : goal.returns-clause-refused
returns-clause-refused c = refuses_are_first

pub returns-clause-unfit : goal.returns-clause-unfit
returns-clause-unfit c = gathers_are_first
