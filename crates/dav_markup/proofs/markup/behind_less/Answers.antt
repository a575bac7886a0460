use Rattle.dav_markup.specs.Markup.{place_in}
use Rattle.dav_markup.proofs.MarkupLemmas.{no_markup}
use Rattle.dav_markup.proofs.markup.behind_less.Goals as goal

pub returns-in_default-clause-begun : goal.returns-in_default-clause-begun
returns-in_default-clause-begun c = λ o os.
    no_markup (place_in c.args.place o os) c.args.byte c.kind_of.result c.in_default.not-Letter c.in_default.not-Slash c.in_default.not-Exclamation
    c.if-byte-eq63.false c.kind_of.ensures
