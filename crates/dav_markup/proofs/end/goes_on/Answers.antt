use Rattle.std.proofs.Common.{refl}
use Rattle.dav_markup.proofs.EndLemmas.{named}
use Rattle.dav_markup.proofs.end.goes_on.Goals as goal

pub returns : goal.returns
returns c = λ o os w. named o os c.args.came c.args.byte c.args.name.now _ w c.requires refl
