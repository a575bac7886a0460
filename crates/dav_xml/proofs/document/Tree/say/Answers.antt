use Rattle.std.proofs.Common.{refl}
use Rattle.dav_xml.proofs.NodeLemmas.{says}
use Rattle.dav_xml.proofs.document.Tree.say.Goals as goal

pub returns : goal.returns
returns c = λ given h. says c.args.self.now _ given c.args.bytes.now h refl c.in_ok-extend_from_slice.ensures.items refl
