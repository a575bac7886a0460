use Rattle.std.proofs.Common.{◌∙◌, ◌||◌, codes, false}
use Rattle.http_header.specs.HeaderMap.{get_all}
use Rattle.dav_head.specs.Elements.{elements}
use Rattle.dav_head.specs.Codings.{is_close}
use Rattle.dav_head.proofs.ElementLemmas.{fold-parts, fold-any}
use Rattle.dav_head.proofs.codings.says_close.Goals as goal

pub returns : goal.returns
returns c =
    c.is_close_found.ensures ∙ fold-parts (λ now element. now || is_close element) false (get_all c.args.fields.now (codes "connection"))
    ∙ fold-any is_close false (elements c.args.fields.now (codes "connection"))
