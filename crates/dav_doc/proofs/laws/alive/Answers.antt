use Rattle.dav_doc.proofs.Agreement.{alive}
use Rattle.dav_doc.proofs.laws.alive.Goals as goal

pub returns : goal.returns
returns c = alive
