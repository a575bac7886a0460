use Rattle.dav_store.specs.Rows.{IsReady}
use Rattle.dav_store.specs.View.{journal_end}
use Rattle.dav_trial.proofs.trial.add_rows.Given as goal

abbrev pub invariant-loop-number : goal.invariant-loop-number
invariant-loop-number g l = g.D.Disk.honest l.disk → IsReady (journal_end l.journal) (g.D.Disk.seen l.disk 0) (g.D.Disk.past l.disk (g.D.Disk.moment l.disk) 0)
