use Rattle.dav_upload.proofs.Whole.{outlives_each}
use Rattle.dav_upload.proofs.laws.last_bytes_outlive_each_stop.Goals as goal

pub returns : goal.returns
returns c = outlives_each
