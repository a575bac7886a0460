use Rattle.dav_deeds.proofs.Stories.{kept}
use Rattle.dav_deeds.proofs.laws.last_bytes_are_kept.Goals as goal

pub returns : goal.returns
returns c = kept
