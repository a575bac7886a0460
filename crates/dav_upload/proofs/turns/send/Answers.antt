use Rattle.std.proofs.Common.{refl}
use Rattle.dav_upload.specs.Drain.{starved, settled}
use Rattle.dav_upload.proofs.turns.send.Goals as goal

pub returns-in-Err-clause-sent : goal.returns-in-Err-clause-sent
returns-in-Err-clause-sent g c = starved c.in-Err.field-0 c.in-Err.ensures.sends refl refl

pub ask-requires-clause-ask : goal.ask-requires-clause-ask
ask-requires-clause-ask g c = c.in-Ok.ensures.done

pub returns-clause-sent : goal.returns-clause-sent
returns-clause-sent g c = settled c.in-Ok.done c.ask.result c.in-Ok.ensures.sends c.ask.ensures.asked c.did_of.ensures
