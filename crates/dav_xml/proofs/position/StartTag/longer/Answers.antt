use Rattle.std.proofs.Common.{refl, sym, subst}
use Rattle.dav_xml.specs.declared.position.StartTag.{StartTag}
use Rattle.dav_xml.specs.declared.position.StartTag.TheVariants as starts
use Rattle.dav_xml.specs.Ahead.{LengthensName}
use Rattle.dav_xml.proofs.AheadLemmas.{unnamed}
use Rattle.dav_xml.proofs.position.StartTag.longer.Goals as goal

pub returns-in_ok-longer-in-Name : goal.returns-in_ok-longer-in-Name
returns-in_ok-longer-in-Name c =
    subst (λ (z : StartTag). LengthensName z c.args.bytes.now (starts.Name c.in_ok-longer-in-Name.field-0)) (sym c.in-Name.is)
    (c.in_ok-longer-in-Name.field-0, refl, c.in_ok-longer-in-Name.ensures)

pub returns-in_ok-name-in-Attribute : goal.returns-in_ok-name-in-Attribute
returns-in_ok-name-in-Attribute c =
    subst (λ (z : StartTag). LengthensName z c.args.bytes.now (starts.Attribute c.in-Attribute.tag c.in_ok-name-in-Attribute.name)) (sym c.in-Attribute.is)
    (c.in_ok-name-in-Attribute.name, refl, c.in_ok-name-in-Attribute.ensures)

pub returns-in_default : goal.returns-in_default
returns-in_default c = unnamed c.args.self c.args.bytes.now c.in_default.not-Name c.in_default.not-Attribute
