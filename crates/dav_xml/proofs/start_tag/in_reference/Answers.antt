use Rattle.std.proofs.Common.{[], ◌∷◌, ◌++◌, refl, subst, ◌∙◌}
use Rattle.dav_doc.specs.Machine as machine
use Rattle.dav_doc.specs.Machine.{with_part}
use Rattle.dav_doc.specs.Names.{Reference}
use Rattle.dav_doc.specs.References.{utf_8}
use Rattle.dav_markup.specs.Reference.{Takes}
use Rattle.dav_markup.specs.declared.reference.Taken.{Taken}
use Rattle.dav_xml.proofs.StepLemmas.{leads, front_more}
use Rattle.dav_xml.proofs.TagStepLemmas.{value_reference_goes, value_reference_stands, value_more}
use Rattle.dav_xml.proofs.start_tag.in_reference.Goals as goal

pub returns-in-Further : goal.returns-in-Further
returns-in-Further c = λ os st h.
    let goes = subst (λ (t : Taken). Takes c.args.reference c.args.byte t) c.in-Further.is c.in_ok-take.ensures in
    let text = h.text ++ (c.args.byte ∷ []) in
    rw c.further.ensures
    (leads _ os [] st _ (machine.ValueReference os h.t h.attribute text) c.args.byte h.is
    (value_reference_goes os h.t h.attribute c.args.reference c.in-Further.reference h.text c.args.byte goes h.front)
    (record {
      t = h.t;
      attribute = h.attribute;
      text = text;
      value = h.value;
      front = front_more c.args.reference c.in-Further.reference h.text c.args.byte goes h.front;
      is = refl;
    }))

pub returns-in_ok-value-in-Stands : goal.returns-in_ok-value-in-Stands
returns-in_ok-value-in-Stands c = λ os st h.
    let stands = subst (λ (t : Taken). Takes c.args.reference c.args.byte t) c.in-Stands.is c.in_ok-take.ensures in
    let m = utf_8 c.in-Stands.character in
    let p = Reference (h.text ++ (c.args.byte ∷ [])) m in
    let a = with_part h.attribute p in
    rw c.further-in-Stands.ensures
    (leads _ os [] st _ (machine.InValue os h.t a) c.args.byte h.is
    (value_reference_stands os h.t h.attribute c.args.reference h.text m c.args.byte stands.0 h.front)
    (record {
      t = h.t;
      attribute = a;
      value =
          value_more c.args.value c.in_ok-value-in-Stands.value h.t h.attribute p c.as_slice.result.now h.value (c.as_slice.ensures ∙ c.utf_8.ensures)
          c.in_ok-value-in-Stands.ensures;
      is = refl;
    }))
