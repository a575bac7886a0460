use Rattle.std.proofs.Common.{refl}
use Rattle.dav_doc.specs.Machine as machine
use Rattle.dav_markup.specs.Aside.{target_in}
use Rattle.dav_markup.specs.Markup.{place_in}
use Rattle.dav_xml.proofs.StepLemmas.{leads, none_at}
use Rattle.dav_xml.proofs.markup.behind_question.Goals as goal

pub returns-in-Declaration : goal.returns-in-Declaration
returns-in-Declaration c = λ os st h.
    leads _ os _ st _ machine.DeclareX c.args.byte h.1 (c.in-Declaration.ensures.asked h.0.element h.0.around)
    (none_at c.args.place os (c.in-Declaration.ensures.first refl) h.0, refl)

pub returns-in-Instruction : goal.returns-in-Instruction
returns-in-Instruction c = λ os st h.
    leads _ os _ st _ (machine.InTarget (place_in c.args.place h.0.element h.0.around) (target_in c.in-Instruction.target)) c.args.byte h.1
    (c.in-Instruction.ensures.asked h.0.element h.0.around) (h.0, refl)
