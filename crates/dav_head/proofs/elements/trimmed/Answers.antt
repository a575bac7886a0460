use Rattle.std.proofs.Common.{◌∙◌}
use Rattle.dav_head.proofs.BlankLemmas.{trimmed_same}
use Rattle.dav_head.proofs.elements.trimmed.Goals as goal

pub returns : goal.returns
returns c = c.trimmed.ensures ∙ trimmed_same c.args.text.now
