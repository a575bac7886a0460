use Rattle.dav_xml.proofs.LawLemmas.{read_alive, read_first}
use Rattle.dav_xml.proofs.laws.read_goes_on.Goals as goal

pub returns : goal.returns
returns c = record { document = read_alive; first = read_first }
