use Rattle.std.proofs.Common.{[], refl, ap, sym}
use Rattle.dav_doc.specs.Machine as machine
use Rattle.dav_xml.proofs.StepLemmas.{placed_behind}
use Rattle.dav_xml.proofs.content.behind_root.Goals as goal

pub returns-in-Less : goal.returns-in-Less
returns-in-Less c = λ n. record {
  state = machine.Markup (machine.Below []);
  is = ap (machine.epilog_step c.args.byte) (sym c.in-Less.ensures);
  stands = (placed_behind, refl);
}
