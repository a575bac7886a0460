use Rattle.std.proofs.Common.{ap, ◌∙◌}
use Rattle.std.specs.Prelude.{not, ◌==◌}
use Rattle.dav_walk.specs.Gathering.{is_open}
use Rattle.dav_walk.proofs.OpenedLemmas.{none_open}
use Rattle.dav_walk.proofs.opened.Stack.is_empty.Goals as goal

pub returns : goal.returns
returns c = c.is_empty.ensures ∙ ap (λ n. n == 0) c.self.inside.elements.ok.0 ∙ none_open c.self.inside.elements.items ∙ ap (λ os. not (is_open os)) c.self.view_is
