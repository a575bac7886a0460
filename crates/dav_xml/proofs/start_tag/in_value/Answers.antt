use Rattle.std.proofs.Common.{[], ◌∷◌, refl}
use Rattle.dav_doc.specs.Machine as machine
use Rattle.dav_doc.specs.Machine.{with_part}
use Rattle.dav_doc.specs.Names.{Byte}
use Rattle.dav_xml.proofs.StepLemmas.{leads, front_start}
use Rattle.dav_xml.proofs.TagStepLemmas.{value_sort, value_more}
use Rattle.dav_xml.proofs.start_tag.in_value.Goals as goal

pub returns-in_ok-longer-in-Stays : goal.returns-in_ok-longer-in-Stays
returns-in_ok-longer-in-Stays c = λ os st h.
    let a = with_part h.attribute (Byte c.args.byte) in
    rw c.further.ensures
    (leads _ os [] st _ (machine.InValue os h.t a) c.args.byte h.is
    (value_sort os h.t h.attribute c.args.byte _ _ h.value.quote c.in-Stays.ensures)
    (record {
      t = h.t;
      attribute = a;
      value =
          value_more c.args.value c.in_ok-longer-in-Stays.field-0 h.t h.attribute (Byte c.args.byte) (c.args.byte ∷ []) h.value refl
          c.in_ok-longer-in-Stays.ensures;
      is = refl;
    }))

pub returns-in-Refers : goal.returns-in-Refers
returns-in-Refers c = λ os st h.
    rw c.further-in-Refers.ensures
    (leads _ os [] st _ (machine.ValueReference os h.t h.attribute []) c.args.byte h.is
    (value_sort os h.t h.attribute c.args.byte _ _ h.value.quote c.in-Refers.ensures)
    (record { t = h.t; attribute = h.attribute; text = []; value = h.value; front = front_start; is = refl }))
