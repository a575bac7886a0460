use Rattle.dav_index.proofs.LawLemmas.{text_fits}
use Rattle.dav_index.proofs.laws.records_fit.Goals as goal

pub returns : goal.returns
returns c = text_fits
