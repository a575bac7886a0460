use Rattle.dav_text.proofs.RoundTrip.{read_path}
use Rattle.dav_text.proofs.laws.read_is_path.Goals as goal

pub returns : goal.returns
returns c = read_path
