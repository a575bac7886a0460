use Rattle.dav_upload.proofs.Whole.{outlives_stop}
use Rattle.dav_upload.proofs.laws.last_bytes_outlive_a_stop.Goals as goal

pub returns : goal.returns
returns c = outlives_stop
