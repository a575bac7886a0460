use Rattle.dav_frame.proofs.ReadingLemmas.{waits_here}
use Rattle.dav_frame.proofs.phase.take_all.Goals as goal

pub returns-clause-counts : goal.returns-clause-counts
returns-clause-counts c = c.noted.ensures.counts _ _ c.loop-used.invariant.counts

pub returns-clause-waits : goal.returns-clause-waits
returns-clause-waits c reading = waits_here c.noted.result (c.noted.ensures.sound c.loop-used.invariant.sound) reading
