use Rattle.dav_auth.proofs.ReadingLemmas.{one_reading}
use Rattle.dav_auth.proofs.laws.one_reading.Goals as goal

pub returns : goal.returns
returns c = one_reading
