use Rattle.std.proofs.Common.{◌≡◌, true, subst, arith}
use Rattle.dav_uri.specs.Target.{BaseParts, host_field}
use Rattle.dav_uri.specs.Url.{is_url_text}
use Rattle.dav_uri.proofs.HostBytes.{field_is_url_text}
use Rattle.dav_uri.proofs.base.Base.host_field.Goals as goal

pub returns-clause-plain : goal.returns-clause-plain
returns-clause-plain c =
    subst (λ (b : BaseParts). is_url_text (host_field b.host b.port) ≡ true) c.self.view_is
    (field_is_url_text c.self.inside.host c.self.inside.port (omega arith) c.self.invariant)
