use Rattle.dav_doc.proofs.Agreement.{whole_sound, whole_complete, whole_bad, whole_alive}
use Rattle.dav_doc.proofs.laws.documents.Goals as goal

pub returns : goal.returns
returns c = record { sound = whole_sound; complete = whole_complete; bad = whole_bad; alive = whole_alive }
