use Rattle.std.proofs.Common.{refl, ap, ◌∙◌}
use Rattle.dav_doc.specs.Machine as machine
use Rattle.dav_markup.specs.Markup.{place_in}
use Rattle.dav_xml.specs.Stands.{stack_of}
use Rattle.dav_xml.proofs.StepLemmas.{leads, if_ok, inside_at}
use Rattle.dav_xml.proofs.markup.behind_less.Goals as goal

pub returns-in-EndTag : goal.returns-in-EndTag
returns-in-EndTag c =
    if_ok _ _ c.begin_end.result
    (λ s k st h. k (inside_at c.args.place (stack_of c.args.opens.now) (c.in-EndTag.ensures.inside refl) h.0) st c.args.byte
    (ap (λ z. machine.step z c.args.byte) h.1 ∙ c.in-EndTag.ensures.begun h.0.element h.0.around))
    c.begin_end.ensures

pub returns-in-Mark : goal.returns-in-Mark
returns-in-Mark c = λ st h.
    leads _ _ _ st _ (machine.Mark (place_in c.args.place h.0.element h.0.around)) c.args.byte h.1 (c.in-Mark.ensures.begun h.0.element h.0.around) (h.0, refl)

pub returns-in-Question : goal.returns-in-Question
returns-in-Question c = λ st h.
    leads _ _ _ st _ (machine.Question (place_in c.args.place h.0.element h.0.around)) c.args.byte h.1 (c.in-Question.ensures.begun h.0.element h.0.around) (h.0, refl)
