use Rattle.std.proofs.Common.{◌≡◌, length}
use Rattle.dav_text.specs.Blanks.{without_back}
use Rattle.dav_text.proofs.blanks.without_back.Given as goal

abbrev pub invariant-loop-last : goal.invariant-loop-last
invariant-loop-last l = without_back l.fn.blanks l.rest ≡ without_back l.fn.blanks l.fn.text

abbrev pub decreases-loop-last : goal.decreases-loop-last
decreases-loop-last l = length l.rest
