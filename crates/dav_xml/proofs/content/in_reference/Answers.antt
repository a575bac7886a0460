use Rattle.std.proofs.Common.{[], ◌∷◌, ◌++◌, refl, subst}
use Rattle.dav_doc.specs.Machine as machine
use Rattle.dav_markup.specs.Reference.{Takes}
use Rattle.dav_markup.specs.declared.reference.Taken.{Taken}
use Rattle.dav_xml.proofs.StepLemmas.{leads, front_more, reference_goes}
use Rattle.dav_xml.proofs.content.in_reference.Goals as goal

pub returns-in-Further : goal.returns-in-Further
returns-in-Further c = λ os st h.
    let goes = subst (λ (t : Taken). Takes c.args.reference c.args.byte t) c.in-Further.is c.in_ok-take.ensures in
    let text = h.text ++ (c.args.byte ∷ []) in
    leads _ os _ st _ (machine.InReference h.inside.element h.inside.around text) c.args.byte h.is
    (reference_goes h.inside.element h.inside.around c.args.reference c.in-Further.next h.text c.args.byte goes h.front)
    (record { inside = h.inside; text = text; front = front_more c.args.reference c.in-Further.next h.text c.args.byte goes h.front; is = refl })
