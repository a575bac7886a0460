use Rattle.dav_doc.proofs.Agreement.{sound}
use Rattle.dav_doc.proofs.laws.sound.Goals as goal

pub returns : goal.returns
returns c = sound
