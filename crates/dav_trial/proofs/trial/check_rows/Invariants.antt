use Rattle.std.proofs.Common.{ℕ, List}
use Rattle.dav_store.specs.Rows.{IsReading}
use Rattle.dav_store.specs.View.{journal_end}
use Rattle.dav_trial.proofs.trial.check_rows.Given as goal

abbrev pub invariant-loop-number : goal.invariant-loop-number
invariant-loop-number g l =
    (g.D.Disk.honest l.disk → g.D.Disk.honest l.initial.disk)
    × (g.D.Disk.honest l.disk → (rows : List (List ℕ)) → IsReading rows (journal_end l.initial.journal) (g.D.Disk.seen l.initial.disk 0) (g.D.Disk.past l.initial.disk (g.D.Disk.moment l.initial.disk) 0)
    → (now : List (List ℕ)) × IsReading now (journal_end l.journal) (g.D.Disk.seen l.disk 0) (g.D.Disk.past l.disk (g.D.Disk.moment l.disk) 0))
