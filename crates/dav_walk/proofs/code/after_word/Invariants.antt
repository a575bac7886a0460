use Rattle.std.proofs.Common.{◌≡◌, length}
use Rattle.dav_walk.specs.Reading.{after_word}
use Rattle.dav_walk.proofs.code.after_word.Given as goal

abbrev pub invariant-loop-first : goal.invariant-loop-first
invariant-loop-first l = after_word l.rest ≡ after_word l.fn.text

abbrev pub decreases-loop-first : goal.decreases-loop-first
decreases-loop-first l = length l.rest
