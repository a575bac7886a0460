use Rattle.std.specs.Prelude.{◌-◌, length}
use Rattle.dav_markup.specs.Owing.{owed_in}
use Rattle.dav_markup.proofs.StretchLemmas.{AreShared}
use Rattle.dav_markup.proofs.stretch.shared.Given as goal

abbrev pub invariant-loop-len : goal.invariant-loop-len
invariant-loop-len l = AreShared l.word (owed_in l.fn.owed) l.bytes l.len (owed_in l.behind)

abbrev pub decreases-loop-len : goal.decreases-loop-len
decreases-loop-len l = length l.bytes - l.len
