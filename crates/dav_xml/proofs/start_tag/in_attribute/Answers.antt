use Rattle.std.proofs.Common.{[], refl, ap, sym, ◌∙◌, subst, true}
use Rattle.dav_doc.specs.Machine as machine
use Rattle.dav_markup.specs.Kind.{kind_in}
use Rattle.dav_markup.specs.Name.{name_in, GoesBy}
use Rattle.dav_markup.specs.declared.name.Next.{Next}
use Rattle.dav_xml.specs.Reading.{attributes_of}
use Rattle.dav_xml.proofs.StepLemmas.{leads}
use Rattle.dav_xml.proofs.TagStepLemmas.{moves_as, attribute_longer, attribute_ended}
use Rattle.dav_xml.proofs.start_tag.in_attribute.Goals as goal

pub returns-in-Longer : goal.returns-in-Longer
returns-in-Longer c = λ os st h.
    let k = kind_in c.kind_of.result in
    let goes = subst (λ (z : Next). GoesBy c.args.name c.args.byte k z) c.in-Longer.is c.in_ok-name.ensures in
    let m = name_in c.in-Longer.name in
    rw c.further.ensures
    (leads _ os [] st _ (machine.AtName os h.t h.blanks m) c.args.byte h.is
    (attribute_longer os h.t h.blanks (name_in c.args.name) m c.args.byte k c.kind_of.ensures goes)
    (record { t = h.t; blanks = h.blanks; fits = h.fits; is = refl }))

pub returns-else-not-is_whole : goal.returns-else-not-is_whole
returns-else-not-is_whole c = λ os st h.
    let k = kind_in c.kind_of.result in
    let ends = subst (λ (z : Next). GoesBy c.args.name c.args.byte k z) c.in-Ended.is c.in_ok-name.ensures in
    let n = name_in c.in-Ended.name in
    let old = machine.BeforeEquals os h.t h.blanks n [] in
    moves_as c.before_equals.result os st old c.args.byte
    (ap (λ z. machine.step z c.args.byte) (h.is ∙ ap (λ z. machine.AtName os h.t h.blanks (name_in z)) (sym ends.1))
    ∙ attribute_ended os h.t h.blanks n c.args.byte k true c.kind_of.ensures
    (ap (λ z. machine.name_next (name_in z) c.args.byte k) ends.1 ∙ ends.0) (sym c.is_whole.ensures ∙ c.if-not-is_whole.false))
    (ap attributes_of h.is)
    (c.before_equals.ensures os old (record { t = h.t; blanks = h.blanks; before = []; fits = h.fits; is = refl }))
