use Rattle.dav_deeds.proofs.AllRows.{spare_after}
use Rattle.dav_deeds.proofs.laws.ends_have_room.Goals as goal

pub returns : goal.returns
returns c = spare_after
