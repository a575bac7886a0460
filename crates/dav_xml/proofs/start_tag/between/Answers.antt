use Rattle.std.proofs.Common.{[], ◌∷◌, ◌++◌, refl, ap, ◌∙◌}
use Rattle.dav_doc.specs.Machine as machine
use Rattle.dav_doc.specs.Names.{Plain}
use Rattle.dav_markup.specs.declared.choice.InTag.TheVariants.{Blank, Slash, Attribute}
use Rattle.dav_xml.specs.Stands.{stack_of}
use Rattle.dav_xml.proofs.StepLemmas.{leads, if_ok}
use Rattle.dav_xml.proofs.TagStepLemmas.{between_step, some_more}
use Rattle.dav_xml.proofs.start_tag.between.Goals as goal

pub returns-in-Blank : goal.returns-in-Blank
returns-in-Blank c = λ st h.
    let os = stack_of c.args.opens.now in
    let w = h.blanks ++ (c.args.byte ∷ []) in
    rw c.further.ensures
    (leads _ os [] st _ (machine.InTag os h.t w) c.args.byte h.is
    (between_step c.args.some Blank os h.t h.blanks c.args.byte h.some c.in-Blank.ensures.none c.in-Blank.ensures.blanks)
    (record { t = h.t; blanks = w; fits = h.fits; some = some_more h.blanks c.args.byte; is = refl }))

pub returns-in-Slash : goal.returns-in-Slash
returns-in-Slash c =
    let os = stack_of c.args.opens.now in
    if_ok _ _ c.slash.result
    (λ s k st h. k st c.args.byte h.t h.blanks h.fits
    (ap (λ z. machine.step z c.args.byte) h.is
    ∙ between_step c.args.some Slash os h.t h.blanks c.args.byte h.some c.in-Slash.ensures.none c.in-Slash.ensures.blanks))
    c.slash.ensures

pub returns-in-Attribute : goal.returns-in-Attribute
returns-in-Attribute c =
    let os = stack_of c.args.opens.now in
    if_ok _ _ c.begin_attribute.result
    (λ s k st h. rw k
    (leads _ os [] st _ (machine.AtName os h.t h.blanks (Plain (c.args.byte ∷ []))) c.args.byte h.is
    (between_step c.args.some Attribute os h.t h.blanks c.args.byte h.some c.in-Attribute.ensures.none c.in-Attribute.ensures.blanks)
    (record { t = h.t; blanks = h.blanks; fits = h.fits; is = refl })))
    c.begin_attribute.ensures
