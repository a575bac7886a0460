use Rattle.std.proofs.Common.{◌≡◌, ℕ, List, [], ◌∷◌, ◌++◌, inl, inr, sym, ◌∙◌, subst}
use Rattle.dav_index.specs.Bounds.{IsWithin}
use Rattle.dav_index.specs.declared.table.Table.{Table}
use Rattle.dav_recorder.specs.Opening.{IsNoRecord, IsBadRow, IsRead}
use Rattle.dav_recorder.specs.Recovers.{rows_of}
use Rattle.dav_recorder.proofs.StartLemmas.{reads_more, bad_row}
use Rattle.dav_recorder.proofs.reading.next_record.Goals as goal

pub returns-in-Ok-clause-more : goal.returns-in-Ok-clause-more
returns-in-Ok-clause-more g c h row url records is =
    let disk = c.next_row.new.disk in
    let reading = rw c.in-Ok-Some.field-0-is at c.in-Ok-Some.ensures.reading h in
    let got = c.in-Ok.ensures.record in (
      got.0,
      subst (λ (t : Table). IsRead url (records ++ got.0 ∷ []) t c.next_row.new.self.end (g.D.Disk.seen disk 0) (g.D.Disk.past disk (g.D.Disk.moment disk) 0)) (sym got.3)
          (reads_more got.0 c.in-Ok-Some.payload is got.1 (sym c.as_slice.ensures ∙ got.2) (subst IsWithin got.3 got.4) (reading (rows_of url records) is.reading)),
    )

pub returns-in-Ok-Some-clause-refused : goal.returns-in-Ok-Some-clause-refused
returns-in-Ok-Some-clause-refused g c h place why url records is =
    let seen = g.D.Disk.seen c.args.disk.now 0 in
    let end = c.args.journal.now.end in
    let has = rw c.in-Ok-Some.field-0-is at c.in-Ok-Some.ensures.row h in
    let no = c.in-Err-replay_row.ensures.refused place why in
    let at_end : place ≡ end = no.0 ∙ has.0 in
    subst (λ (n : ℕ). IsBadRow url n seen) (sym at_end)
    (bad_row is (inr (c.in-Ok-Some.payload, has.1, subst (λ (l : List ℕ). IsNoRecord c.args.table.now l) c.as_slice.ensures no.1)))

pub returns-clause-refused : goal.returns-clause-refused
returns-clause-refused g c h place why url records is =
    let seen = g.D.Disk.seen c.args.disk.now 0 in
    let broken = c.in-Err.ensures.broken h place why in
    subst (λ (n : ℕ). IsBadRow url n seen) (sym broken.0) (bad_row is (inl broken.1))
