use Rattle.dav_doc.proofs.Completing.{complete}
use Rattle.dav_doc.proofs.laws.complete.Goals as goal

pub returns : goal.returns
returns c = complete
