use Rattle.dav_xml.proofs.GatherLemmas.{spelled_limit, read_faultless}
use Rattle.dav_xml.proofs.laws.documents_have_no_fault.Goals as goal

pub returns : goal.returns
returns c = record {
  spelled = λ text tree fault d f. spelled_limit text fault tree d f;
  within = λ text tree fault reading d r f. read_faultless text fault tree reading d r f;
}
