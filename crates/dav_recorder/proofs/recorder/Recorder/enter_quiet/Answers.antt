use Rattle.std.proofs.Common.{◌≡◌, ℕ, ◌∷◌, [], ◌++◌, inl, refl, sym, ◌∙◌, ap, subst, arith}
use Rattle.dav_store.specs.Rows.{IsReady}
use Rattle.dav_index.specs.Bounds.{bodies_of}
use Rattle.dav_deeds.specs.Legal.{table_after}
use Rattle.dav_recorder.specs.Planned.{kept_table}
use Rattle.dav_recorder.specs.Recovers.{rows_of}
use Rattle.dav_recorder.specs.Survives.{IsLive}
use Rattle.dav_recorder.specs.declared.recorder.Recorder.{Recorder}
use Rattle.dav_recorder.proofs.LiveLemmas.{stamped, kept_quiet, left_before, live_on, quiet_images}
use Rattle.std.specs.List.{Contains}
use Rattle.dav_recorder.specs.Files.{ChangesOnly, AreEmpty}
use Rattle.dav_recorder.proofs.recorder.Recorder.enter_quiet.Goals as goal

pub returns-in-Ok-clause-ready : goal.returns-in-Ok-clause-ready
returns-in-Ok-clause-ready g c h_end ready =
    let h = subst (λ (d : Recorder g.row.D.Denot). g.D.Disk.honest d.disk) c.push.ensures.rest h_end in
    subst (λ (d : Recorder g.row.D.Denot). IsReady d.journal.end (g.D.Disk.seen d.disk 0) (g.D.Disk.past d.disk (g.D.Disk.moment d.disk) 0)) (sym c.push.ensures.rest) (c.release.ensures.ready h c.args.self.now.journal.end ready)

pub returns-in-Ok-clause-live : goal.returns-in-Ok-clause-live
returns-in-Ok-clause-live g c h_end url opening start given legal quiet is =
    let h = subst (λ (d : Recorder g.row.D.Denot). g.D.Disk.honest d.disk) c.push.ensures.rest h_end in
    let old = c.args.self.now in
    let t = table_after opening old.trace.steps.items in
    let table = kept_table t in
    let k = is.consistent in
    let disk = c.release.new.disk in
    let new : Recorder g.row.D.Denot = record { disk = disk; journal = old.journal; bodies = c.release.new.bodies; trace = c.push.new.self.trace; under = old.under; dead = old.dead } in
    let grown : c.push.new.self.trace.steps.items ≡ old.trace.steps.items ++ stamped c.args.step (g.D.Disk.moment disk) ∷ [] =
    c.push.ensures.items ∙ ap (λ (n : ℕ). old.trace.steps.items ++ stamped c.args.step n ∷ []) c.calls.ensures in
    let images = quiet_images k (g.D.Disk.past disk) (g.D.Disk.moment old.disk) (g.D.Disk.moment disk)
    (c.release.ensures.any_moment h (rows_of url k.records) (bodies_of table) given old.journal.end quiet.spared k.safe) in
    subst (λ (d : Recorder g.row.D.Denot). IsLive g.D.Disk.moment g.D.Disk.seen g.D.Disk.past url opening start given d) (sym c.push.ensures.rest)
    (live_on g.D.Disk.moment g.D.Disk.seen g.D.Disk.past url opening start given old is new (c.release.ensures.touches h) c.args.step legal table (kept_quiet t c.args.step quiet.record_is)
    (λ n image lo hi left. inl (images n image lo hi left))
    (record { records = k.records; replays = k.replays; safe = c.release.ensures.safe h (rows_of url k.records) (bodies_of table) given old.journal.end quiet.spared k.safe }) grown is.idle)

pub returns-in-Err-clause-left : goal.returns-in-Err-clause-left
returns-in-Err-clause-left g c h url opening start given quiet is =
    let old = c.args.self.now in
    let table = kept_table (table_after opening old.trace.steps.items) in
    let k = is.consistent in
    let disk = c.release.new.disk in
    left_before g.D.Disk.moment g.D.Disk.seen g.D.Disk.past url opening start given old is _ (c.release.ensures.touches h)
    (quiet_images k (g.D.Disk.past disk) (g.D.Disk.moment old.disk) (g.D.Disk.moment disk) (c.release.ensures.any_moment h (rows_of url k.records) (bodies_of table) given old.journal.end quiet.spared k.safe)) refl refl

pub returns-in-Ok-clause-changes : goal.returns-in-Ok-clause-changes
returns-in-Ok-clause-changes g c h_end =
    let h = subst (λ (d : Recorder g.row.D.Denot). g.D.Disk.honest d.disk) c.push.ensures.rest h_end in
    subst (λ (d : Recorder g.row.D.Denot). ChangesOnly g.D.Disk.moment g.D.Disk.seen g.D.Disk.past (Contains c.args.freed.now) c.args.self.now.disk d.disk) (sym c.push.ensures.rest) (record { touches = c.release.ensures.touches h; others = c.release.ensures.others h })

pub returns-in-Err-clause-changes : goal.returns-in-Err-clause-changes
returns-in-Err-clause-changes g c h = record { touches = c.release.ensures.touches h; others = c.release.ensures.others h }

pub returns-in-Ok-clause-emptied : goal.returns-in-Ok-clause-emptied
returns-in-Ok-clause-emptied g c h_end =
    let h = subst (λ (d : Recorder g.row.D.Denot). g.D.Disk.honest d.disk) c.push.ensures.rest h_end in
    subst (λ (d : Recorder g.row.D.Denot). AreEmpty c.args.freed.now (g.D.Disk.seen d.disk) (g.D.Disk.past d.disk (g.D.Disk.moment d.disk))) (sym c.push.ensures.rest) (c.in-Ok.ensures.emptied h)

pub returns-in-Ok-clause-counts : goal.returns-in-Ok-clause-counts
returns-in-Ok-clause-counts g c =
    let same = ap (λ (r : Recorder g.row.D.Denot). g.D.Disk.moment r.disk) c.push.ensures.rest in
    record { later = omega (arith, same, c.in-Ok.ensures.counts.later); all = omega (arith, same, c.in-Ok.ensures.counts.all); no_more = omega (arith, same, c.in-Ok.ensures.counts.no_more) }
