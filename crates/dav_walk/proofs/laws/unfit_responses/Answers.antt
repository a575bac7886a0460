use Rattle.dav_walk.proofs.SoFarLemmas.{lacks_href, lacks_status}
use Rattle.dav_walk.proofs.laws.unfit_responses.Goals as goal

pub returns-clause-href : goal.returns-clause-href
returns-clause-href c = lacks_href

pub returns-clause-status : goal.returns-clause-status
returns-clause-status c = lacks_status
