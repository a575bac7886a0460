use Rattle.dav_desk.proofs.Keeping.{kept_apart}
use Rattle.dav_desk.proofs.laws.kept_bodies_are_not_touched.Goals as goal

pub returns : goal.returns
returns c t now deed body sound is before then = kept_apart t now deed body sound is before then
