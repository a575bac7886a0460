use Rattle.std.proofs.Common.{◌∙◌}
use Rattle.dav_upload.proofs.Exchanging.{uploads_sent, uploads_starved}
use Rattle.dav_upload.proofs.exchange.upload.Goals as goal

pub returns-in_default : goal.returns-in_default
returns-in_default g c = uploads_starved _ c.args.base.now c.args.path.now c.args.seen.now c.args.bytes _

pub returns : goal.returns
returns g c = uploads_sent _ _ c.args.base.now _ c.args.path.now c.args.seen.now c.args.bytes c.exchange-heard.result c.told_of.result (c.as_slice.ensures.value ∙ c.in-Ok.ensures) c.exchange-heard.ensures c.told_of.ensures
