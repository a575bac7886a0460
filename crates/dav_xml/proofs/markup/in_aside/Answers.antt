use Rattle.std.proofs.Common.{refl}
use Rattle.dav_doc.specs.Machine as machine
use Rattle.dav_markup.specs.Aside.{aside_in}
use Rattle.dav_markup.specs.Markup.{place_in}
use Rattle.dav_xml.proofs.StepLemmas.{leads}
use Rattle.dav_xml.proofs.markup.in_aside.Goals as goal

pub returns-in-Further : goal.returns-in-Further
returns-in-Further c = λ os st h.
    let p = place_in c.args.place h.0.element h.0.around in
    leads _ os _ st _ (aside_in c.in-Further.aside p) c.args.byte h.1 (c.in-Further.ensures p) (h.0, refl)

pub returns-in-Ended : goal.returns-in-Ended
returns-in-Ended c = λ os st h.
    let p = place_in c.args.place h.0.element h.0.around in
    leads _ os _ st _ (machine.at p) c.args.byte h.1 (c.in-Ended.ensures p) (c.outside.ensures os h.0)
