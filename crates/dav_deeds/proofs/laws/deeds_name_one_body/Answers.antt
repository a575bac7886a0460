use Rattle.dav_deeds.proofs.AllRows.{named}
use Rattle.dav_deeds.proofs.laws.deeds_name_one_body.Goals as goal

pub returns : goal.returns
returns c = λ t now deed body sound is there. named t sound now deed is body there
