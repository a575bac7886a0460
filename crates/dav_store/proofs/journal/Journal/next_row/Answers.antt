use Rattle.std.proofs.Common.{◌≡◌, ◌+◌, min, length, arith}
use Rattle.dav_store.proofs.ReadingLemmas.{reads_on}
use Rattle.dav_store.proofs.journal.Journal.next_row.Goals as goal

pub returns-in-Some-clause-reading : goal.returns-in-Some-clause-reading
returns-in-Some-clause-reading g c h rows r =
    let d0 = c.args.disk.now in
    let d1 = c.row_at.new.disk in
    let touches = c.row_at.ensures.touches h in
    let has = rw c.in-Some.is at c.in_ok-row_at.ensures.row h in
    let counted : c.pass.new.self.end ≡ min (c.args.self.now.end + (length c.in-Some.row + 3)) 18446744073709551615 = omega (arith, c.pass.ensures.end, c.len.ensures) in
    let none = touches.others (g.D.Disk.moment d1) 0 touches.later (omega arith) (λ never. never) in
    reads_on rows c.in-Some.row c.args.self.now.end c.pass.new.self.end (g.D.Disk.seen d0 0) (g.D.Disk.seen d1 0) (g.D.Disk.past d0 (g.D.Disk.moment d0) 0) (g.D.Disk.past d1 (g.D.Disk.moment d1) 0)
    r has (c.row_at.ensures.seen h 0) none (g.met.D.Disk.fits d0 (c.row_at.ensures.keeps h) 0) counted
