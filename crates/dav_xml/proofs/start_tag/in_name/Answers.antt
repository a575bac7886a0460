use Rattle.std.proofs.Common.{[], refl, ap, sym, ◌∙◌, subst, true}
use Rattle.dav_doc.specs.Document as document
use Rattle.dav_doc.specs.Machine as machine
use Rattle.dav_markup.specs.Kind.{kind_in}
use Rattle.dav_markup.specs.Name.{name_in, GoesBy}
use Rattle.dav_markup.specs.declared.name.Next.{Next}
use Rattle.dav_xml.specs.Reading.{attributes_of}
use Rattle.dav_xml.specs.Stands.{stack_of}
use Rattle.dav_xml.proofs.StepLemmas.{if_ok}
use Rattle.dav_xml.proofs.TagStepLemmas.{moves_as, name_ended}
use Rattle.dav_xml.proofs.start_tag.in_name.Goals as goal

pub returns-else-not-is_whole : goal.returns-else-not-is_whole
returns-else-not-is_whole c =
    let os = stack_of c.args.opens.now in
    let k = kind_in c.kind_of.result in
    let ends = subst (λ (z : Next). GoesBy c.args.name c.args.byte k z) c.in-Ended.is c.in_ok-name.ensures in
    let t : document.Tag = record { name = name_in c.in-Ended.name; attributes = [] } in
    if_ok _ _ c.between.result
    (λ s m st h. moves_as s os st (machine.InTag os t []) c.args.byte
    (ap (λ z. machine.step z c.args.byte) (h ∙ ap (λ n. machine.InName os (name_in n)) (sym ends.1))
    ∙ name_ended os (name_in c.in-Ended.name) c.args.byte k true c.kind_of.ensures
    (ap (λ n. machine.name_next (name_in n) c.args.byte k) ends.1 ∙ ends.0) (sym c.is_whole.ensures ∙ c.if-not-is_whole.false))
    (ap attributes_of h)
    (m (machine.InTag os t []) (record { t = t; blanks = []; fits = c.new.ensures; some = refl; is = refl })))
    c.between.ensures
