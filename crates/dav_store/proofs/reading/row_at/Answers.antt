use Rattle.std.proofs.Common.{◌+◌, ℕ, List, take, drop, refl, ◌∙◌, ap}
use Rattle.dav_store.proofs.ReadingLemmas.{has_row}
use Rattle.dav_store.proofs.reading.row_at.Goals as goal

pub returns-in_ok-payload-in-Long-clause-row : goal.returns-in_ok-payload-in-Long-clause-row
returns-in_ok-payload-in-Long-clause-row g c h =
    let j = c.in-Long.ensures in
    let p = c.in_ok-payload-in-Long.ensures.bytes h in
    let n = c.in-Long.len in
    let before = c.payload_of.ensures.keeps h in
    let same = c.read.ensures.seen before 0 in
    let read = p.0 ∙ ap (λ (l : List ℕ). take n (drop (c.args.gate + 3) l)) same in
    has_row (g.D.Disk.seen c.args.disk.now 0) c.read.new.buf _ c.args.gate c.in_ok-count.count n j.0 j.1 j.2 j.3 c.in_ok-payload-in-Long.payload
    (c.in_ok-count.ensures.bytes before) (c.in_ok-count.ensures.count before) refl j.4 j.5 j.6 j.7 j.8 j.9 read p.1
