use Rattle.dav_frame.proofs.OutcomeLemmas.{unique}
use Rattle.dav_frame.proofs.laws.one_outcome.Goals as goal

pub returns : goal.returns
returns c = unique
