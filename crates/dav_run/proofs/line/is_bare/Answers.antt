use Rattle.std.proofs.Common.{rules, tests, eqb, not, ◌||◌}
use Rattle.std.proofs.lemmas.Iterator.{YieldsList-from_slice}
use Rattle.std.proofs.lemmas.Iterator.Search.{all_from_yields_List}
use Rattle.dav_run.proofs.line.is_bare.Goals as goal

pub returns : goal.returns
returns c =
    all_from_yields_List (λ b. not (eqb b 9 || eqb b 34)) _ _ _ c.all.ensures.ran (YieldsList-from_slice c.args.bytes.now cc) (λ x b q k. search (rules, tests))
