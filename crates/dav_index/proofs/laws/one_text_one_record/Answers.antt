use Rattle.dav_index.proofs.LawLemmas.{record_same}
use Rattle.dav_index.proofs.laws.one_text_one_record.Goals as goal

pub returns : goal.returns
returns c = record_same
