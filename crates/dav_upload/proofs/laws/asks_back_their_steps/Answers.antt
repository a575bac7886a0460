use Rattle.dav_upload.proofs.AskBacks.{asks_back, stopped_backs}
use Rattle.dav_upload.proofs.laws.asks_back_their_steps.Goals as goal

pub returns-clause-steps : goal.returns-clause-steps
returns-clause-steps c = asks_back

pub returns-clause-under : goal.returns-clause-under
returns-clause-under c = stopped_backs
