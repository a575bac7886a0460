use Rattle.dav_text.proofs.RoundTrip.{read_back}
use Rattle.dav_text.proofs.laws.reads_back.Goals as goal

pub returns : goal.returns
returns c = read_back
