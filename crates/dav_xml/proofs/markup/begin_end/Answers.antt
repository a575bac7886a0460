use Rattle.std.proofs.Common.{[], refl, ap, sym, ◌∙◌}
use Rattle.dav_doc.specs.Machine as machine
use Rattle.dav_doc.specs.Names.{written}
use Rattle.dav_markup.specs.End.{end_at}
use Rattle.dav_xml.proofs.StepLemmas.{last_open, end_begins}
use Rattle.dav_xml.proofs.markup.begin_end.Goals as goal

pub returns : goal.returns
returns c = λ i st b h. record {
  state = end_at i.element i.around 0;
  is = h ∙ ap (λ z. machine.To z []) (sym (end_begins i.element i.around));
  stands = record {
    inside = i;
    name = c.in_ok-name.ensures ∙ ap written (sym (last_open c.args.opens.now _ c.in-Some.open.now i c.in-Some.ensures.cases.0));
    is = refl;
  };
}
