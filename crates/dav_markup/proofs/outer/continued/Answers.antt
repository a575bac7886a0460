use Rattle.std.proofs.Common.{[], ap}
use Rattle.dav_doc.specs.Machine.{To}
use Rattle.dav_markup.proofs.OuterLemmas.{wants}
use Rattle.dav_markup.proofs.outer.continued.Goals as goal

pub returns-in_default : goal.returns-in_default
returns-in_default c = ap (λ s. To s []) (wants c.args.next c.in_default.not-Done)
