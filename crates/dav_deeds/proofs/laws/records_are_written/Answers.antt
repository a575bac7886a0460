use Rattle.dav_deeds.proofs.AllRows.{is_record}
use Rattle.dav_deeds.proofs.laws.records_are_written.Goals as goal

pub returns : goal.returns
returns c = λ t now deed r sound is at. is_record t sound now deed r is at
