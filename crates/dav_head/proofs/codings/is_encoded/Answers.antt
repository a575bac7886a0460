use Rattle.std.proofs.Common.{◌∙◌, ◌||◌, codes, false}
use Rattle.http_header.specs.HeaderMap.{get_all}
use Rattle.dav_head.specs.Elements.{elements}
use Rattle.dav_head.specs.Codings.{is_other_coding}
use Rattle.dav_head.proofs.ElementLemmas.{fold-parts, fold-any}
use Rattle.dav_head.proofs.codings.is_encoded.Goals as goal

pub returns : goal.returns
returns c =
    c.is_other_found.ensures ∙ fold-parts (λ now element. now || is_other_coding element) false (get_all c.args.fields.now (codes "content-encoding"))
    ∙ fold-any is_other_coding false (elements c.args.fields.now (codes "content-encoding"))
