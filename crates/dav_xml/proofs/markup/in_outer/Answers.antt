use Rattle.std.proofs.Common.{refl}
use Rattle.dav_doc.specs.Machine as machine
use Rattle.dav_markup.specs.Aside.{aside_in}
use Rattle.dav_xml.proofs.StepLemmas.{leads, placed_first, placed_before}
use Rattle.dav_xml.proofs.markup.in_outer.Goals as goal

pub returns-in-FirstMarkup : goal.returns-in-FirstMarkup
returns-in-FirstMarkup c = λ os st h. leads _ os _ st _ (machine.Markup machine.First) c.args.byte h.1 c.in-FirstMarkup.ensures (placed_first os h.0, refl)

pub returns-in-Markup : goal.returns-in-Markup
returns-in-Markup c = λ os st h. leads _ os _ st _ (machine.Markup machine.Before) c.args.byte h.1 c.in-Markup.ensures (placed_before os h.0, refl)

pub returns-in-Instruction : goal.returns-in-Instruction
returns-in-Instruction c = λ os st h.
    leads _ os _ st _ (aside_in c.in-Instruction.aside machine.First) c.args.byte h.1 c.in-Instruction.ensures (placed_first os h.0, refl)
