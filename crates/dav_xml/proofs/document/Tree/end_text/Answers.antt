use Rattle.std.proofs.Common.{[], ◌∷◌, ◌++◌, refl, ap, ◌∙◌}
use Rattle.dav_xml.specs.declared.document.Node.TheVariants as nodes
use Rattle.dav_xml.proofs.NodeLemmas.{pauses}
use Rattle.dav_xml.proofs.document.Tree.end_text.Goals as goal

pub returns : goal.returns
returns c = λ given h. (
  pauses c.args.self.now _ given h
      (c.in_ok-push.ensures.items
      ∙ ap (λ z. c.args.self.now.nodes.items ++ (nodes.Text c.args.self.now.depth z ∷ [])) (c.in_ok-bytes.ensures ∙ c.as_slice.ensures.value))
      c.clear.ensures.items refl,
  c.clear.ensures.items,
)
