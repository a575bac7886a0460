use Rattle.dav_doc.proofs.Reading.{characters_taken, characters_go}
use Rattle.dav_doc.proofs.laws.characters.Goals as goal

pub returns : goal.returns
returns c = record { taken = characters_taken; given = λ s h. characters_go h }
