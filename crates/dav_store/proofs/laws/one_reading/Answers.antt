use Rattle.dav_store.proofs.RowLemmas.{spells_unique}
use Rattle.dav_store.proofs.laws.one_reading.Goals as goal

pub returns : goal.returns
returns c = spells_unique
