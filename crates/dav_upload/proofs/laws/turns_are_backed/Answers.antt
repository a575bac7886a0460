use Rattle.dav_upload.proofs.Turning.{turns_backed}
use Rattle.dav_upload.proofs.laws.turns_are_backed.Goals as goal

pub returns : goal.returns
returns c = turns_backed
