use Rattle.dav_upload.proofs.Exchanging.{exchanges_whole, exchanges_failed}
use Rattle.dav_upload.proofs.exchange.exchange.Goals as goal

pub returns-in_default : goal.returns-in_default
returns-in_default g c = exchanges_failed _ _ c.args.base.now c.args.text.now c.host.result.now c.port.result c.in_default.field-0 c.host.ensures c.port.ensures c.in_default.ensures.log

pub returns : goal.returns
returns g c = exchanges_whole _ _ _ _ c.args.base.now c.args.text.now c.host.result.now c.port.result c.in-Ok.field-0 c.talk-heard.result c.host.ensures c.port.ensures c.in-Ok.ensures.log c.talk-heard.ensures c.shut.ensures.log
