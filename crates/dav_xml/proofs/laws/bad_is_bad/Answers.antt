use Rattle.dav_xml.proofs.LawLemmas.{bad_never, bad_alive}
use Rattle.dav_xml.proofs.laws.bad_is_bad.Goals as goal

pub returns : goal.returns
returns c = record { never = bad_never; alive = bad_alive }
