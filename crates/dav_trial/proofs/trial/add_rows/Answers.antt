use Rattle.std.proofs.Common.{◌≡◌, ℕ, List, sym, arith}
use Rattle.dav_disk.specs.Disk.{Doubt}
use Rattle.dav_store.specs.Rows.{IsReady}
use Rattle.dav_store.specs.View.{journal_end}
use Rattle.dav_trial.proofs.Staying.{doubt_stays, stays}
use Rattle.dav_trial.proofs.trial.add_rows.Goals as goal

pub append-requires-clause-ready : goal.append-requires-clause-ready
append-requires-clause-ready g c h =
    let apart : 0 ≡ c.file_of-file.result → ⊥ = λ is. omega (arith, is, c.file_of-file.ensures) in
    stays (IsReady (journal_end c.loop-number.journal)) (g.D.Disk.seen c.loop-number.disk 0) (g.D.Disk.seen c.keep.new.disk 0)
    (g.D.Disk.past c.loop-number.disk (g.D.Disk.moment c.loop-number.disk) 0) (g.D.Disk.past c.keep.new.disk (g.D.Disk.moment c.keep.new.disk) 0)
    (c.keep.ensures.others h 0 apart) (doubt_stays (c.keep.ensures.touches h) 0 apart) (c.loop-number.invariant (c.keep.ensures.keeps h))
