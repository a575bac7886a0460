use Rattle.dav_uri.proofs.HostBytes.{host_is_url_text}
use Rattle.dav_uri.proofs.base.host_of.Goals as goal

pub returns-clause-plain : goal.returns-clause-plain
returns-clause-plain c = host_is_url_text c.args.url.now c.scheme-scheme.ensures.valid
