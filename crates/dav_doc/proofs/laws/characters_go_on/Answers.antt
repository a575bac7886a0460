use Rattle.dav_doc.proofs.Reading.{characters_bad, characters_alive}
use Rattle.dav_doc.proofs.laws.characters_go_on.Goals as goal

pub returns : goal.returns
returns c = record { bad = characters_bad; alive = characters_alive }
