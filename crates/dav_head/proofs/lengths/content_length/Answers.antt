use Rattle.std.proofs.Common.{◌∙◌, codes}
use Rattle.http_header.specs.HeaderMap.{get_all}
use Rattle.dav_head.specs.Elements.{elements}
use Rattle.dav_head.specs.Lengths.{with_element}
use Rattle.dav_head.specs.declared.lengths.Length.{Length}
use Rattle.dav_head.proofs.ElementLemmas.{fold-parts, fold-lengths}
use Rattle.dav_head.proofs.lengths.content_length.Goals as goal

pub returns : goal.returns
returns c =
    c.length_after_all.ensures ∙ fold-parts with_element Length.Missing (get_all c.args.fields.now (codes "content-length"))
    ∙ fold-lengths (elements c.args.fields.now (codes "content-length"))
