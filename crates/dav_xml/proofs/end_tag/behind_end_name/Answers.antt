use Rattle.std.proofs.Common.{[], ◌∷◌, ◌++◌, refl, ap, ◌∙◌}
use Rattle.dav_doc.specs.Machine as machine
use Rattle.dav_xml.proofs.StepLemmas.{leads}
use Rattle.dav_xml.proofs.end_tag.behind_end_name.Goals as goal

pub returns-in-Blank : goal.returns-in-Blank
returns-in-Blank c = λ os st h.
    let w = h.blanks ++ (c.args.byte ∷ []) in
    leads _ os _ st _ (machine.EndBlanks h.inside.element h.inside.around w) c.args.byte h.is
    (c.in-Blank.ensures h.inside.element h.inside.around h.blanks) (record { inside = h.inside; blanks = w; is = refl })

pub returns-in-Close : goal.returns-in-Close
returns-in-Close c = λ os st h. record {
  inside = h.inside;
  is = ap (λ s. machine.step s c.args.byte) h.is ∙ c.in-Close.ensures h.inside.element h.inside.around h.blanks;
}
