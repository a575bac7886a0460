use Rattle.dav_doc.proofs.Agreement.{so_far}
use Rattle.dav_doc.proofs.laws.so_far.Goals as goal

pub returns : goal.returns
returns c = so_far
