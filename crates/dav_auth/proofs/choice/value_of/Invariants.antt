use Rattle.std.proofs.Common.{◌≡◌, length}
use Rattle.dav_auth.specs.Chosen.{parameters_in, value_of}
use Rattle.dav_auth.proofs.choice.value_of.Given as goal

abbrev pub invariant-loop-first : goal.invariant-loop-first
invariant-loop-first l = value_of l.name (parameters_in l.rest) ≡ value_of l.name (parameters_in l.fn.pieces)

abbrev pub decreases-loop-first : goal.decreases-loop-first
decreases-loop-first l = length l.rest
