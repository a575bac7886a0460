use Rattle.dav_upload.proofs.Whole.{keeps_whole}
use Rattle.dav_upload.proofs.laws.last_bytes_are_kept_whole.Goals as goal

pub returns : goal.returns
returns c = keeps_whole
