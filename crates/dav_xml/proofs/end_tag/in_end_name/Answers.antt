use Rattle.std.proofs.Common.{[], ◌≡◌, ◌≤◌, ◌+◌, length, refl, ap, sym, ◌∙◌, arith}
use Rattle.dav_doc.specs.Names.{written}
use Rattle.dav_markup.specs.End.{end_at}
use Rattle.dav_xml.proofs.StepLemmas.{leads, end_over, end_goes}
use Rattle.dav_xml.proofs.end_tag.in_end_name.Goals as goal

pub returns-then-came-len : goal.returns-then-came-len
returns-then-came-len c = λ os st h.
    let e : length c.args.name ≡ length (written h.inside.element.name) = ap length h.name in
    let k : length (written h.inside.element.name) ≤ c.args.came = omega (arith, c.len.ensures, c.if-came-len.true) in
    c.behind_end_name.ensures os st
    (record { inside = h.inside; blanks = []; is = h.is ∙ end_over h.inside.element h.inside.around c.args.came k })

pub returns : goal.returns
returns c = λ os st h.
    let o = h.inside.element in
    leads _ os _ st _ (end_at o h.inside.around (c.args.came + 1)) c.args.byte h.is
    (end_goes o h.inside.around c.args.came c.args.byte c.goes_on.result c.if-not-goes_on.false
    (c.goes_on.ensures o h.inside.around (sym h.name ∙ sym c.as_slice.ensures)))
    (record { inside = h.inside; name = h.name; is = refl })
