use Rattle.std.proofs.Common.{ℕ, List, [], ◌∷◌, drop, sym, ◌∙◌, subst}
use Rattle.dav_store.specs.Rows.{IsReading, HasRow}
use Rattle.dav_store.specs.Start.{IsHead}
use Rattle.dav_store.proofs.StartLemmas.{ok_weaker, err_weaker, broken_lacks, other_lacks, reads_none, same_fault}
use Rattle.dav_store.proofs.journal.Journal.open.Goals as goal

pub returns-in-Ok-Some-clause-refused : goal.returns-in-Ok-Some-clause-refused
returns-in-Ok-Some-clause-refused g c h stands =
    let has = rw c.in-Ok-Some.field-0-is at c.in-Ok-Some.ensures.row h in
    err_weaker c.with_head.result c.with_head.ensures.refused
    (λ e why at is. (same_fault at e why.0 is, other_lacks c.args.self.end c.in-Ok-Some.row (g.D.Disk.seen c.args.disk.now 0) c.requires.fresh stands has.1 why.1))

pub returns-in-Ok-Some-clause-reading : goal.returns-in-Ok-Some-clause-reading
returns-in-Ok-Some-clause-reading g c h durable =
    let d0 = c.args.disk.now in
    let d1 = c.next_row.new.disk in
    let row = c.in-Ok-Some.row in
    let reading = rw c.in-Ok-Some.field-0-is at c.in-Ok-Some.ensures.reading h in
    let one = reading [] (reads_none c.args.self.end (g.D.Disk.seen d0 0) (g.D.Disk.past d0 (g.D.Disk.moment d0) 0) c.requires.fresh durable) in
    ok_weaker c.with_head.result c.with_head.ensures.head (λ j is.
    subst (λ (n : ℕ). IsReading (j.head ∷ []) n (g.D.Disk.seen d1 0) (g.D.Disk.past d1 (g.D.Disk.moment d1) 0)) (sym is.2)
    (subst (λ (r : List ℕ). IsReading (r ∷ []) c.next_row.new.self.end (g.D.Disk.seen d1 0) (g.D.Disk.past d1 (g.D.Disk.moment d1) 0)) (sym is.0) one))

pub returns-in-Ok-Some-clause-opened : goal.returns-in-Ok-Some-clause-opened
returns-in-Ok-Some-clause-opened g c h =
    let seen = g.D.Disk.seen c.args.disk.now 0 in
    let has = rw c.in-Ok-Some.field-0-is at c.in-Ok-Some.ensures.row h in
    let here = subst (λ (n : ℕ). HasRow c.in-Ok-Some.row (drop n seen)) c.requires.fresh has.1 in
    ok_weaker c.with_head.result c.with_head.ensures.head (λ j is. (subst IsHead (sym is.0) is.1, subst (λ (r : List ℕ). HasRow r seen) (sym is.0) here))

pub returns-in-Err-clause-refused : goal.returns-in-Err-clause-refused
returns-in-Err-clause-refused g c h stands at is =
    let broken = c.in-Err.ensures.broken h at is in
    (broken.0 ∙ c.requires.fresh, broken_lacks c.args.self.end (g.D.Disk.seen c.args.disk.now 0) c.requires.fresh stands broken.1)
