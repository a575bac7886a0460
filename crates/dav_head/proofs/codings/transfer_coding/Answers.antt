use Rattle.std.proofs.Common.{◌∙◌, codes}
use Rattle.http_header.specs.HeaderMap.{get_all}
use Rattle.dav_head.specs.Elements.{elements}
use Rattle.dav_head.specs.Codings.{with_coding}
use Rattle.dav_head.specs.declared.codings.Transfer.{Transfer}
use Rattle.dav_head.proofs.ElementLemmas.{fold-parts, fold-codings}
use Rattle.dav_head.proofs.codings.transfer_coding.Goals as goal

pub returns : goal.returns
returns c =
    c.transfer_after_all.ensures ∙ fold-parts with_coding Transfer.Missing (get_all c.args.fields.now (codes "transfer-encoding"))
    ∙ fold-codings (elements c.args.fields.now (codes "transfer-encoding"))
