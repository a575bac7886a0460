use Rattle.std.proofs.Common.{refl}
use Rattle.dav_doc.proofs.laws.examples.Goals as goal

pub returns : goal.returns
returns c = record { small = refl; marked = refl; numbered = refl; lines = refl; section_lines = refl; inner = refl }
