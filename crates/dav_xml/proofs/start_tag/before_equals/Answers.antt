use Rattle.std.proofs.Common.{[], ◌∷◌, ◌++◌, refl}
use Rattle.dav_doc.specs.Machine as machine
use Rattle.dav_markup.specs.Name.{name_in}
use Rattle.dav_xml.proofs.StepLemmas.{leads}
use Rattle.dav_xml.proofs.start_tag.before_equals.Goals as goal

pub returns-in-Blank : goal.returns-in-Blank
returns-in-Blank c = λ os st h.
    let w = h.before ++ (c.args.byte ∷ []) in
    let n = name_in c.args.name in
    rw c.further.ensures
    (leads _ os [] st _ (machine.BeforeEquals os h.t h.blanks n w) c.args.byte h.is (c.in-Blank.ensures os h.t h.blanks n h.before)
    (record { t = h.t; blanks = h.blanks; before = w; fits = h.fits; is = refl }))

pub returns-in-Equals : goal.returns-in-Equals
returns-in-Equals c = λ os st h.
    let n = name_in c.args.name in
    rw c.further-in-Equals.ensures
    (leads _ os [] st _ (machine.AfterEquals os h.t h.blanks n h.before []) c.args.byte h.is (c.in-Equals.ensures os h.t h.blanks n h.before)
    (record { t = h.t; blanks = h.blanks; before = h.before; after = []; fits = h.fits; is = refl }))
