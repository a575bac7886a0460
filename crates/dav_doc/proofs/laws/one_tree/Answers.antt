use Rattle.dav_doc.proofs.OneTree.{one_tree}
use Rattle.dav_doc.proofs.laws.one_tree.Goals as goal

pub returns : goal.returns
returns c = one_tree
