use Rattle.dav_upload.proofs.Turning.{backed_both}
use Rattle.dav_upload.proofs.laws.backs_join.Goals as goal

pub returns : goal.returns
returns c = backed_both
