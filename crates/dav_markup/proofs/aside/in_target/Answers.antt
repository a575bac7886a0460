use Rattle.dav_markup.specs.Aside.{target_in}
use Rattle.dav_markup.proofs.AsideLemmas.{no_target}
use Rattle.dav_markup.proofs.aside.in_target.Goals as goal

pub returns-in_default : goal.returns-in_default
returns-in_default c = λ p.
    no_target p (target_in c.args.target) c.args.byte c.kind_of.result c.in_default.not-Blank c.in_default.not-Letter c.in_default.not-Digit
    c.if-byte-eq63.false c.kind_of.ensures
