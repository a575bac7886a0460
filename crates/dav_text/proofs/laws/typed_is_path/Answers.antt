use Rattle.dav_text.proofs.TypedPath.{typed_is_path}
use Rattle.dav_text.proofs.laws.typed_is_path.Goals as goal

pub returns : goal.returns
returns c = typed_is_path
