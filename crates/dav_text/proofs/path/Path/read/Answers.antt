use Rattle.std.proofs.Common.{None, Some, arith, refl, sym, ap, ◌∙◌}
use Rattle.std.proofs.lemmas.Str.Pattern.{strip_prefix_char}
use Rattle.dav_text.proofs.ReadLemmas.{not_rooted, read_bad, read_no_text, read_whole, fitting_told}
use Rattle.dav_text.proofs.path.Path.read.Goals as goal

pub returns-in_default : goal.returns-in_default
returns-in_default c = λ other. not_rooted c.args.text.now (strip_prefix_char 47 c.args.text.now None c.in_default.ensures.cases (omega arith))
