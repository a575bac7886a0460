use Rattle.dav_upload.proofs.Exchanging.{talks_sent, talks_failed}
use Rattle.dav_upload.proofs.exchange.talk.Goals as goal

pub returns-in_default : goal.returns-in_default
returns-in_default g c = talks_failed _ _ c.args.text.now c.in_default.ensures

pub returns : goal.returns
returns g c = talks_sent _ _ _ c.args.text.now c.hear.result c.in-Ok.ensures c.hear.ensures
