use Rattle.std.proofs.Common.{rules, ◌≡◌, ◌≢◌, ℕ, ◌≤◌, List, [], ◌∷◌, inl, sym, ◌∙◌, ap, subst, arith}
use Rattle.dav_disk.proofs.Stretch.{touches_join, touches_wider}
use Rattle.dav_store.specs.Rows.{IsReading, IsAtRest}
use Rattle.dav_store.specs.Start.{head_of}
use Rattle.dav_deeds.specs.declared.fault.DeskFault.{DeskFault}
use Rattle.dav_recorder.specs.Opening.{IsStartFault, IsOther}
use Rattle.dav_recorder.proofs.StartLemmas.{start_fault, other_fault, opening_images, opened_images, opened_index, bad_before, same_table, consistent}
use Rattle.dav_index.proofs.LawLemmas.{record_same}
use Rattle.dav_recorder.proofs.IndexLemmas.{replayed_index}
use Rattle.dav_recorder.proofs.opening.open.Goals as goal

pub returns-in-Err-clause-any_moment : goal.returns-in-Err-clause-any_moment
returns-in-Err-clause-any_moment g c h table bodies all =
    let head_is : c.as_slice.result.now ≡ head_of c.args.url.now = c.as_slice.ensures ∙ c.in_ok-head.ensures.text ∙ ap (λ (l : List ℕ). head_of l) c.as_bytes.ensures.value in
    opening_images c.args.url.now c.as_slice.result.now table bodies (g.D.Disk.seen c.args.disk.now) head_is all (λ f. g.met.D.Disk.reads c.args.disk.now (c.start.ensures.keeps h) f)
    (c.start.ensures.touches h) (c.start.ensures.stays h) (c.start.ensures.any_moment h)

pub returns-in-Err-clause-fault : goal.returns-in-Err-clause-fault
returns-in-Err-clause-fault g c =
    let file = g.D.Disk.seen c.args.disk.now 0 in
    let before = g.D.Disk.faults c.args.disk.now in
    let now = g.D.Disk.faults c.start.new.disk in
    subst (λ (e : DeskFault). IsStartFault (g.D.Disk.honest c.start.new.disk) c.args.url.now file before now e) (sym c.fault_of.ensures)
    (start_fault (g.D.Disk.honest c.start.new.disk) c.args.url.now file before before now c.in-Err.fault (omega arith) c.in-Err.ensures.cause.rose (λ h at why. inl (c.in-Err.ensures.refused h at why)) c.in-Err.ensures.undamaged)

pub returns-then-ne-clause-any_moment : goal.returns-then-ne-clause-any_moment
returns-then-ne-clause-any_moment g c h table bodies all =
    let head_is : c.as_slice.result.now ≡ head_of c.args.url.now = c.as_slice.ensures ∙ c.in_ok-head.ensures.text ∙ ap (λ (l : List ℕ). head_of l) c.as_bytes.ensures.value in
    opening_images c.args.url.now c.as_slice.result.now table bodies (g.D.Disk.seen c.args.disk.now) head_is all (λ f. g.met.D.Disk.reads c.args.disk.now (c.start.ensures.keeps h) f)
    (c.start.ensures.touches h) (c.start.ensures.stays h) (c.start.ensures.any_moment h)

pub returns-then-ne-clause-fault : goal.returns-then-ne-clause-fault
returns-then-ne-clause-fault g c =
    let text : head_of c.as_bytes.result.now ≡ head_of c.args.url.now = ap (λ (l : List ℕ). head_of l) c.as_bytes.ensures.value in
    let head_is : c.as_slice.result.now ≡ head_of c.args.url.now = c.as_slice.ensures ∙ c.in_ok-head.ensures.text ∙ text in
    let asked_is : c.as_slice-2.result.now ≡ head_of c.args.url.now = c.as_slice-2.ensures ∙ c.in_ok-head.ensures.text ∙ text in
    let differ : c.head-2.result.now ≢ c.as_slice-2.result.now = search rules in
    other_fault (g.D.Disk.honest c.start.new.disk) c.args.url.now c.in-Ok.journal.head (g.D.Disk.seen c.args.disk.now 0) (g.D.Disk.faults c.args.disk.now) (g.D.Disk.faults c.start.new.disk) c.other_server.result
    (λ same. differ (c.head-2.ensures ∙ same ∙ sym asked_is)) (λ h none. (c.in-Ok.ensures.made h none).0 ∙ head_is) c.in-Ok.ensures.opened c.in-Ok.ensures.short
    (subst (λ (l : List ℕ). IsOther c.args.url.now l c.other_server.result) c.head-then-ne.ensures c.other_server.ensures)

pub returns-in-Ok-read_table-clause-table : goal.returns-in-Ok-read_table-clause-table
returns-in-Ok-read_table-clause-table g c h table bodies all =
    let h_start = c.read_table.ensures.keeps h in
    let url = c.args.url.now in
    let d0 = c.args.disk.now in
    let d1 = c.start.new.disk in
    let d2 = c.read_table.new.disk in
    let text : head_of c.as_bytes.result.now ≡ head_of url = ap (λ (l : List ℕ). head_of l) c.as_bytes.ensures.value in
    let head_is : c.as_slice.result.now ≡ head_of url = c.as_slice.ensures ∙ c.in_ok-head.ensures.text ∙ text in
    let same : c.head-2.result.now ≡ c.as_slice-2.result.now = search rules in
    let found : c.in-Ok.journal.head ≡ head_of url = sym c.head-2.ensures ∙ same ∙ c.as_slice-2.ensures ∙ c.in_ok-head.ensures.text ∙ text in
    let reading = subst (λ (l : List ℕ). IsReading (l ∷ []) c.in-Ok.journal.end (g.D.Disk.seen d1 0) (g.D.Disk.past d1 (g.D.Disk.moment d1) 0)) found (c.in-Ok.ensures.reading h_start) in
    let is = c.in-Ok-read_table.ensures.read h url reading in
    let images = opened_images url c.as_slice.result.now table bodies (g.D.Disk.seen d0) head_is all (λ f. g.met.D.Disk.reads d0 (c.start.ensures.keeps h_start) f)
    (c.start.ensures.touches h_start) (c.start.ensures.stays h_start) (c.start.ensures.any_moment h_start) (c.read_table.ensures.touches h) in
    let now = g.D.Disk.moment d2 in
    let lo : g.D.Disk.moment d0 ≤ now = omega (arith, (c.start.ensures.touches h_start).later, (c.read_table.ensures.touches h).later) in
    let opened = c.in-Ok-read_table.opened in (
      same_table record_same url table opened.table bodies (g.D.Disk.past d2 now) (g.D.Disk.seen d2) opened.journal.end (λ image left. images now image lo (omega arith) left) (λ f. g.met.D.Disk.reads d2 h f) is,
      consistent record_same url table opened.table bodies (g.D.Disk.past d2 now) (g.D.Disk.seen d2) opened.journal.end (λ image left. images now image lo (omega arith) left) (λ f. g.met.D.Disk.reads d2 h f) is,
    )

pub returns-in-Ok-read_table-clause-any_moment : goal.returns-in-Ok-read_table-clause-any_moment
returns-in-Ok-read_table-clause-any_moment g c h table bodies all =
    let h_start = c.read_table.ensures.keeps h in
    let head_is : c.as_slice.result.now ≡ head_of c.args.url.now = c.as_slice.ensures ∙ c.in_ok-head.ensures.text ∙ ap (λ (l : List ℕ). head_of l) c.as_bytes.ensures.value in
    opened_images c.args.url.now c.as_slice.result.now table bodies (g.D.Disk.seen c.args.disk.now) head_is all (λ f. g.met.D.Disk.reads c.args.disk.now (c.start.ensures.keeps h_start) f)
    (c.start.ensures.touches h_start) (c.start.ensures.stays h_start) (c.start.ensures.any_moment h_start) (c.read_table.ensures.touches h)

pub returns-in-Ok-read_table-clause-opened : goal.returns-in-Ok-read_table-clause-opened
returns-in-Ok-read_table-clause-opened g c h =
    let h_start = c.read_table.ensures.keeps h in
    let url = c.args.url.now in
    let d1 = c.start.new.disk in
    let text : head_of c.as_bytes.result.now ≡ head_of url = ap (λ (l : List ℕ). head_of l) c.as_bytes.ensures.value in
    let head_is : c.as_slice.result.now ≡ head_of url = c.as_slice.ensures ∙ c.in_ok-head.ensures.text ∙ text in
    let same : c.head-2.result.now ≡ c.as_slice-2.result.now = search rules in
    let found : c.in-Ok.journal.head ≡ head_of url = sym c.head-2.ensures ∙ same ∙ c.as_slice-2.ensures ∙ c.in_ok-head.ensures.text ∙ text in
    let reading = subst (λ (l : List ℕ). IsReading (l ∷ []) c.in-Ok.journal.end (g.D.Disk.seen d1 0) (g.D.Disk.past d1 (g.D.Disk.moment d1) 0)) found (c.in-Ok.ensures.reading h_start) in
    let is = c.in-Ok-read_table.ensures.read h url reading in (
      c.in-Ok.ensures.short h_start,
      opened_index (g.D.Disk.seen c.args.disk.now 0) is (c.read_table.ensures.seen h 0) (c.in-Ok.ensures.same h_start)
          (λ none. subst (λ (l : List ℕ). IsAtRest (l ∷ []) c.in-Ok.journal.end (g.D.Disk.seen d1 0) (g.D.Disk.past d1 (g.D.Disk.moment d1) 0)) head_is (c.in-Ok.ensures.made h_start none).1),
    )

pub returns-in-Ok-read_table-clause-touches : goal.returns-in-Ok-read_table-clause-touches
returns-in-Ok-read_table-clause-touches g c h = touches_join (c.start.ensures.touches (c.read_table.ensures.keeps h)) (touches_wider (c.read_table.ensures.touches h) (λ f never. absurd never))

pub returns-clause-any_moment : goal.returns-clause-any_moment
returns-clause-any_moment g c h table bodies all =
    let h_start = c.read_table.ensures.keeps h in
    let head_is : c.as_slice.result.now ≡ head_of c.args.url.now = c.as_slice.ensures ∙ c.in_ok-head.ensures.text ∙ ap (λ (l : List ℕ). head_of l) c.as_bytes.ensures.value in
    opened_images c.args.url.now c.as_slice.result.now table bodies (g.D.Disk.seen c.args.disk.now) head_is all (λ f. g.met.D.Disk.reads c.args.disk.now (c.start.ensures.keeps h_start) f)
    (c.start.ensures.touches h_start) (c.start.ensures.stays h_start) (c.start.ensures.any_moment h_start) (c.read_table.ensures.touches h)

pub returns-clause-fault : goal.returns-clause-fault
returns-clause-fault g c =
    let url = c.args.url.now in
    let d1 = c.start.new.disk in
    let file = g.D.Disk.seen c.args.disk.now 0 in
    let before = g.D.Disk.faults c.args.disk.now in
    let now = g.D.Disk.faults c.read_table.new.disk in
    let text : head_of c.as_bytes.result.now ≡ head_of url = ap (λ (l : List ℕ). head_of l) c.as_bytes.ensures.value in
    let head_is : c.as_slice.result.now ≡ head_of url = c.as_slice.ensures ∙ c.in_ok-head.ensures.text ∙ text in
    let same : c.head-2.result.now ≡ c.as_slice-2.result.now = search rules in
    let found : c.in-Ok.journal.head ≡ head_of url = sym c.head-2.ensures ∙ same ∙ c.as_slice-2.ensures ∙ c.in_ok-head.ensures.text ∙ text in
    subst (λ (e : DeskFault). IsStartFault (g.D.Disk.honest c.read_table.new.disk) url file before now e) (sym c.fault_of-in-Err-read_table.ensures)
    (start_fault (g.D.Disk.honest c.read_table.new.disk) url file before (g.D.Disk.faults d1) now c.in-Err-read_table.fault c.start.ensures.cause.later c.in-Err-read_table.ensures.cause.rose
    (λ h at why.
    let h_start = c.read_table.ensures.keeps h in
    let reading = subst (λ (l : List ℕ). IsReading (l ∷ []) c.in-Ok.journal.end (g.D.Disk.seen d1 0) (g.D.Disk.past d1 (g.D.Disk.moment d1) 0)) found (c.in-Ok.ensures.reading h_start) in
    bad_before file (c.in-Ok.ensures.short h_start) (c.in-Err-read_table.ensures.refused h at why url reading) (c.in-Ok.ensures.same h_start)
    (λ none. subst (λ (l : List ℕ). IsAtRest (l ∷ []) c.in-Ok.journal.end (g.D.Disk.seen d1 0) (g.D.Disk.past d1 (g.D.Disk.moment d1) 0)) head_is (c.in-Ok.ensures.made h_start none).1))
    c.in-Err-read_table.ensures.undamaged)

pub returns-clause-touches : goal.returns-clause-touches
returns-clause-touches g c h = touches_join (c.start.ensures.touches (c.read_table.ensures.keeps h)) (touches_wider (c.read_table.ensures.touches h) (λ f never. absurd never))

pub returns-in-Ok-read_table-clause-indexed : goal.returns-in-Ok-read_table-clause-indexed
returns-in-Ok-read_table-clause-indexed g c = replayed_index c.args.url.now c.in-Ok-read_table.opened.table c.requires c.in-Ok-read_table.ensures.replayed
