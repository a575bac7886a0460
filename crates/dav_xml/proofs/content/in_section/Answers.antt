use Rattle.std.proofs.Common.{refl, ap, sym, ◌∙◌}
use Rattle.dav_doc.specs.Machine as machine
use Rattle.dav_markup.specs.Section.{section_in}
use Rattle.dav_xml.proofs.StepLemmas.{leads}
use Rattle.dav_xml.proofs.content.in_section.Goals as goal

pub returns-in-Further : goal.returns-in-Further
returns-in-Further c = λ os st h.
    leads _ os _ st _ (section_in c.in-Further.next h.0.element h.0.around) c.args.byte h.1 (c.in-Further.ensures h.0.element h.0.around) (h.0, refl)

pub returns-in-Held : goal.returns-in-Held
returns-in-Held c = λ os st h.
    leads _ os _ st _ (machine.InSection h.0.element h.0.around machine.Two) c.args.byte h.1 (c.in-Held.ensures h.0.element h.0.around) (h.0, refl)

pub returns-in-Return : goal.returns-in-Return
returns-in-Return c = λ os st h.
    let new = machine.SectionReturn h.0.element h.0.around in
    leads _ os _ st _ new c.args.byte h.1 (c.in-Return.ensures h.0.element h.0.around ∙ ap (machine.To new) (sym c.behind_brackets-in-Return.ensures)) (h.0, refl)

pub returns-in-Text : goal.returns-in-Text
returns-in-Text c = λ os st h.
    let new = machine.InSection h.0.element h.0.around machine.Zero in
    leads _ os _ st _ new c.args.byte h.1 (c.in-Text.ensures h.0.element h.0.around ∙ ap (machine.To new) (sym c.behind_brackets.ensures)) (h.0, refl)
