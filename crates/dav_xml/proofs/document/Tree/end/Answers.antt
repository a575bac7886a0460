use Rattle.std.proofs.Common.{refl, arith}
use Rattle.dav_xml.proofs.NodeLemmas.{ends}
use Rattle.dav_xml.proofs.document.Tree.end.Goals as goal

pub returns : goal.returns
returns c = λ given h.
    let k = c.in_ok-end_text.ensures given h in
    ends c.end_text.new.self _ given c.args.depth k.0 k.1 refl refl (omega (arith, c.saturating_sub-self.ensures))
