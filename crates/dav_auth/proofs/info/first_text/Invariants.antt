use Rattle.std.proofs.Common.{◌≡◌, length}
use Rattle.dav_auth.specs.Chosen.{parameters_in}
use Rattle.dav_auth.specs.Info.{first_text}
use Rattle.dav_auth.proofs.info.first_text.Given as goal

abbrev pub invariant-loop-first : goal.invariant-loop-first
invariant-loop-first l = first_text l.name (parameters_in l.rest) ≡ first_text l.name (parameters_in l.fn.pieces)

abbrev pub decreases-loop-first : goal.decreases-loop-first
decreases-loop-first l = length l.rest
