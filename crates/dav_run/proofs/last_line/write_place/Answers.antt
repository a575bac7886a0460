use Rattle.std.proofs.Common.{List, ℕ, ◌++◌, ◌∙◌, ap, append_assoc, codes}
use Rattle.std.specs.Prelude.{decimal}
use Rattle.dav_run.proofs.last_line.write_place.Goals as goal

pub returns : goal.returns
returns c =
    c.in_ok-decimal.ensures.ok ∙ ap (λ (l : List ℕ). l ++ decimal c.args.at) c.in_ok-extend_from_slice.ensures.items ∙ append_assoc c.args.line.now.items (codes " not-a-cache ") (decimal c.args.at)
