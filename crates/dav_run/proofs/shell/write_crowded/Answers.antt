use Rattle.std.proofs.Common.{◌≡◌, ℕ, List, ◌++◌, ◌∙◌, ap, append_assoc, codes}
use Rattle.dav_text.specs.Path.{escaped}
use Rattle.dav_run.proofs.shell.write_crowded.Goals as goal

-- three texts are appended, one behind another
appended : (old a b d x y z : List ℕ) → a ≡ old ++ x → b ≡ a ++ y → d ≡ b ++ z → d ≡ old ++ (x ++ (y ++ z))
appended old a b d x y z first second third =
    third ∙ ap (λ (l : List ℕ). l ++ z) (second ∙ ap (λ (l : List ℕ). l ++ y) first) ∙ append_assoc (old ++ x) y z ∙ append_assoc old x (y ++ z)

pub returns : goal.returns
returns c =
    appended c.args.out.now.items _ _ _ (codes "fault: crowded ") (escaped c.args.oldest.now) (codes "\n") c.in_ok-extend_from_slice.ensures.items c.in_ok-escaped_into.ensures.ok c.in_ok-push.ensures.items
