use Rattle.std.proofs.Common.{List, ℕ, ap, sym, ◌∙◌, Some}
use Rattle.dav_doc.specs.Names.{resolved}
use Rattle.dav_xml.proofs.StackLemmas.{stack_scope}
use Rattle.dav_xml.proofs.start_tag.namespace.Goals as goal

pub returns-in_ok-copy_of-in-Some : goal.returns-in_ok-copy_of-in-Some
returns-in_ok-copy_of-in-Some c = λ t fits.
    ap (λ (z : List ℕ). Some z) c.in_ok-copy_of-in-Some.ensures ∙ c.in-Some.ensures t fits
    ∙ ap (λ z. resolved z t.name t.attributes) (sym (stack_scope c.args.opens.now))

pub returns-in-None : goal.returns-in-None
returns-in-None c = λ t fits. c.in-None.ensures t fits ∙ ap (λ z. resolved z t.name t.attributes) (sym (stack_scope c.args.opens.now))
