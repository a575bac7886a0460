use Rattle.std.proofs.Common.{ap, ◌∙◌}
use Rattle.dav_doc.specs.Machine as machine
use Rattle.dav_markup.specs.Section.{brackets_in}
use Rattle.dav_xml.specs.Stands.{stack_of}
use Rattle.dav_xml.proofs.StepLemmas.{inside_of, open_by}
use Rattle.dav_xml.proofs.content.in_text.Goals as goal

pub returns : goal.returns
returns c = λ st h.
    let i = inside_of c.args.opens.now (open_by c.args.opens.now c.is_empty.result c.is_empty.ensures c.if-is_empty.false) in
    c.read_step.ensures (stack_of c.args.opens.now) i st c.args.byte
    (ap (λ s. machine.step s c.args.byte) (h ∙ ap (λ z. machine.Text z (brackets_in c.args.brackets)) i.split) ∙ c.in_text.ensures i.element i.around)
