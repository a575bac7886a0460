use Rattle.dav_deeds.proofs.Restart.{reopens}
use Rattle.dav_deeds.proofs.laws.records_are_enough.Goals as goal

pub returns : goal.returns
returns c = reopens
