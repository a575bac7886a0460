use Rattle.std.proofs.Common.{ap, sym, ◌∙◌, refl}
use Rattle.dav_doc.specs.Names.{declares, prefix_of}
use Rattle.dav_markup.proofs.TagLemmas.{declares_more, uses_more}
use Rattle.dav_markup.proofs.scope.Tag.add.Goals as goal

pub returns-in_ok-push-in-Declares : goal.returns-in_ok-push-in-Declares
returns-in_ok-push-in-Declares c = λ t a fits n v.
    declares_more c.args.self _ t a (record { prefix = c.in-Declares.prefix; ns = c.args.value }) fits
    (ap declares (sym n) ∙ c.in-Declares.ensures) v refl c.in_ok-push-in-Declares.ensures.items refl

pub returns-in_ok-push-in-Uses : goal.returns-in_ok-push-in-Uses
returns-in_ok-push-in-Uses c = λ t a fits n v.
    uses_more c.args.self _ t a c.in-Uses.prefix fits
    (ap declares (sym n) ∙ c.in-Uses.ensures.0) (c.in-Uses.ensures.1 ∙ ap prefix_of n) refl refl c.in_ok-push-in-Uses.ensures.items
