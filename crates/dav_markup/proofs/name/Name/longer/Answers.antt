use Rattle.std.proofs.Common.{ap, sym, ◌∙◌}
use Rattle.dav_doc.specs.Names.{Plain, Qualified}
use Rattle.dav_markup.specs.Name.{name_in}
use Rattle.dav_markup.specs.Stretch.{longer_by}
use Rattle.dav_markup.proofs.StretchLemmas.{longer_plain, longer_qualified}
use Rattle.dav_markup.proofs.name.Name.longer.Goals as goal

pub returns-in_ok-grown_by-in-Plain : goal.returns-in_ok-grown_by-in-Plain
returns-in_ok-grown_by-in-Plain c =
    ap Plain c.in_ok-grown_by-in-Plain.ensures ∙ sym (longer_plain c.in-Plain.local c.args.bytes.now)
    ∙ ap (λ z. longer_by (name_in z) c.args.bytes.now) (sym c.in-Plain.is)

pub returns-in_ok-local-in-Qualified : goal.returns-in_ok-local-in-Qualified
returns-in_ok-local-in-Qualified c =
    ap (Qualified c.in-Qualified.prefix) c.in_ok-local-in-Qualified.ensures ∙ sym (longer_qualified c.in-Qualified.prefix c.in-Qualified.local c.args.bytes.now)
    ∙ ap (λ z. longer_by (name_in z) c.args.bytes.now) (sym c.in-Qualified.is)
