use Rattle.dav_xml.proofs.TellingLemmas.{parts_tell}
use Rattle.dav_xml.proofs.laws.nodes_tell_trees.Goals as goal

pub returns : goal.returns
returns c = parts_tell
