use Rattle.std.proofs.Common.{ℕ, List, [], ◌++◌}
use Rattle.dav_text.specs.declared.method.Method.TheVariants.{Put}
use Rattle.dav_frame.specs.Framing.{Outcome, Framing}
use Rattle.dav_frame.specs.Reading.{FromPhase, IsReading}
use Rattle.dav_edge.specs.Whole.{ReachesOn}
use Rattle.dav_upload.specs.Exchange.{Hears}
use Rattle.dav_upload.proofs.exchange.hear.Given as goal

abbrev pub invariant-loop-count : goal.invariant-loop-count
invariant-loop-count g l =
    (so_far : List ℕ) × ReachesOn (g.V.Wire.log l.fn.wire) (g.V.Wire.log l.wire) (Hears []) (Hears so_far)
    × ((more : List ℕ) (outcome : Outcome) → FromPhase l.reader more outcome → Framing Put (so_far ++ more) outcome)
    × IsReading l.reader

abbrev pub decreases-loop-count : goal.decreases-loop-count
decreases-loop-count g l = g.V.Wire.rest l.wire
