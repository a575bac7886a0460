use Rattle.dav_doc.proofs.Agreement.{bad}
use Rattle.dav_doc.proofs.laws.bad.Goals as goal

pub returns : goal.returns
returns c = bad
