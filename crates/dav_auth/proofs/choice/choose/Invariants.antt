use Rattle.std.proofs.Common.{◌≡◌, ◌||◌, length}
use Rattle.std.specs.List.{list_any}
use Rattle.dav_auth.specs.Chosen.{offers_in, is_digest, first_answerable}
use Rattle.dav_auth.proofs.choice.choose.Given as goal

abbrev pub invariant-loop-first : goal.invariant-loop-first
invariant-loop-first l = record {
  first : first_answerable (offers_in l.rest) ≡ first_answerable (offers_in l.fn.pieces);
  found : (l.found || list_any is_digest (offers_in l.rest)) ≡ list_any is_digest (offers_in l.fn.pieces);
}

abbrev pub decreases-loop-first : goal.decreases-loop-first
decreases-loop-first l = length l.rest
