use Rattle.std.proofs.Common.{refl}
use Rattle.dav_doc.specs.Machine as machine
use Rattle.dav_markup.specs.Markup.{place_in}
use Rattle.dav_markup.specs.Section.{section_in}
use Rattle.dav_markup.specs.declared.section.Section.TheVariants.{WantsC}
use Rattle.dav_xml.proofs.StepLemmas.{leads, inside_at}
use Rattle.dav_xml.proofs.markup.behind_mark.Goals as goal

pub returns-in-Comment : goal.returns-in-Comment
returns-in-Comment c = λ os st h.
    leads _ os _ st _ (machine.OpenComment (place_in c.args.place h.0.element h.0.around)) c.args.byte h.1
    (c.in-Comment.ensures.marked h.0.element h.0.around) (h.0, refl)

pub returns-in-Section : goal.returns-in-Section
returns-in-Section c = λ os st h.
    leads _ os _ st _ (section_in WantsC h.0.element h.0.around) c.args.byte h.1 (c.in-Section.ensures.marked h.0.element h.0.around)
    (inside_at c.args.place os (c.in-Section.ensures.inside refl) h.0, refl)
