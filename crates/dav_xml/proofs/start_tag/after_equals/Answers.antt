use Rattle.std.proofs.Common.{[], ◌∷◌, ◌++◌, refl, ◌∙◌}
use Rattle.dav_doc.specs.Machine as machine
use Rattle.dav_doc.specs.Names.{Attribute}
use Rattle.dav_markup.specs.Choice.{quote_of}
use Rattle.dav_markup.specs.Name.{name_in}
use Rattle.dav_xml.proofs.StepLemmas.{leads}
use Rattle.dav_xml.proofs.start_tag.after_equals.Goals as goal

pub returns-in-Blank : goal.returns-in-Blank
returns-in-Blank c = λ os st h.
    let w = h.after ++ (c.args.byte ∷ []) in
    let n = name_in c.args.name in
    rw c.further.ensures
    (leads _ os [] st _ (machine.AfterEquals os h.t h.blanks n h.before w) c.args.byte h.is (c.in-Blank.ensures os h.t h.blanks n h.before h.after)
    (record { t = h.t; blanks = h.blanks; before = h.before; after = w; fits = h.fits; is = refl }))

pub returns-in-Value : goal.returns-in-Value
returns-in-Value c = λ os st h.
    let n = name_in c.args.name in
    let a : Attribute = record { lead = h.blanks; name = n; before = h.before; after = h.after; quote = quote_of c.in-Value.quote; parts = [] } in
    rw c.further-in-Value.ensures
    (leads _ os [] st _ (machine.InValue os h.t a) c.args.byte h.is (c.in-Value.ensures os h.t h.blanks n h.before h.after)
    (record { t = h.t; attribute = a; value = record { fits = h.fits; name = refl; quote = refl; bytes = c.from_vec.ensures ∙ c.new.ensures.items }; is = refl }))
