use Rattle.dav_index.proofs.LawLemmas.{text_not_refused}
use Rattle.dav_index.proofs.laws.records_are_not_refused.Goals as goal

pub returns : goal.returns
returns c = text_not_refused
