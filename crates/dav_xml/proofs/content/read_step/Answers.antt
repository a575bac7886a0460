use Rattle.std.proofs.Common.{[], ◌∷◌, refl, ap, ◌∙◌}
use Rattle.dav_doc.specs.Machine as machine
use Rattle.dav_markup.specs.Run.{read_in}
use Rattle.dav_xml.proofs.StepLemmas.{placed_inside, front_start}
use Rattle.dav_xml.proofs.content.read_step.Goals as goal

pub returns-in-Markup : goal.returns-in-Markup
returns-in-Markup c = λ os i st b h. record {
  state = machine.Markup (machine.Below (i.element ∷ i.around));
  is = h ∙ ap (λ r. read_in r i.element i.around) c.in-Markup.is;
  stands = (placed_inside os i, refl);
}

pub returns-in-Reference : goal.returns-in-Reference
returns-in-Reference c = λ os i st b h. record {
  state = machine.InReference i.element i.around [];
  is = h ∙ ap (λ r. read_in r i.element i.around) c.in-Reference.is;
  stands = record { inside = i; text = []; front = front_start; is = refl };
}

pub returns-in-Return : goal.returns-in-Return
returns-in-Return c = λ os i st b h. record {
  state = machine.Return i.element i.around;
  is = h ∙ ap (λ r. read_in r i.element i.around) c.in-Return.is;
  stands = (i, refl);
}
