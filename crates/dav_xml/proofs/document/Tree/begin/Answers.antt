use Rattle.std.proofs.Common.{[], ◌∷◌, ◌++◌, refl, ap, ◌∙◌}
use Rattle.dav_xml.specs.declared.document.Node.TheVariants as nodes
use Rattle.dav_xml.proofs.NodeLemmas.{begins}
use Rattle.dav_xml.proofs.document.Tree.begin.Goals as goal

pub returns : goal.returns
returns c = λ given h.
    let k = c.in_ok-end_text.ensures given h in
    let before = c.end_text.new.self.nodes.items in
    begins c.end_text.new.self _ given c.args.depth c.args.ns.now c.args.name.now k.0 k.1
    (c.in_ok-push.ensures.items
    ∙ ap (λ z. before ++ (nodes.Element c.args.depth z c.in_ok-name.name ∷ [])) c.in_ok-ns.ensures
    ∙ ap (λ z. before ++ (nodes.Element c.args.depth c.args.ns.now z ∷ [])) c.in_ok-name.ensures)
    refl refl
