use Rattle.std.proofs.Common.{◌≡◌, inl, ℕ, ◌∷◌, [], ◌++◌, refl, sym, ◌∙◌, ap, subst, arith}
use Rattle.dav_store.specs.Rows.{IsReady}
use Rattle.dav_index.specs.Tables.{replay}
use Rattle.dav_deeds.specs.Legal.{table_after}
use Rattle.dav_recorder.specs.Planned.{kept_table}
use Rattle.dav_recorder.specs.Survives.{IsLive}
use Rattle.dav_recorder.specs.declared.recorder.Recorder.{Recorder}
use Rattle.dav_recorder.proofs.LiveLemmas.{stamped, kept_after, left_before, left_under, live_on}
use Rattle.dav_recorder.specs.Files.{ChangesOnly, AreEmpty, IsStored}
use Rattle.dav_recorder.specs.Stands.{IsWritten}
use Rattle.dav_recorder.proofs.recorder.Recorder.enter.Goals as goal

pub returns-in-Ok-clause-ready : goal.returns-in-Ok-clause-ready
returns-in-Ok-clause-ready g c h_end =
    let h = subst (λ (d : Recorder g.row.D.Denot). g.D.Disk.honest d.disk) c.push.ensures.rest h_end in
    subst (λ (d : Recorder g.row.D.Denot). IsReady d.journal.end (g.D.Disk.seen d.disk 0) (g.D.Disk.past d.disk (g.D.Disk.moment d.disk) 0)) (sym c.push.ensures.rest) (c.in-Ok.ensures.ready h)

pub returns-in-Ok-clause-live : goal.returns-in-Ok-clause-live
returns-in-Ok-clause-live g c h_end url opening start given legal planned is =
    let h = subst (λ (d : Recorder g.row.D.Denot). g.D.Disk.honest d.disk) c.push.ensures.rest h_end in
    let old = c.args.self.now in
    let t = table_after opening old.trace.steps.items in
    let after = replay (kept_table t) planned.r in
    let new : Recorder g.row.D.Denot = record { disk = c.commit.new.disk; journal = c.commit.new.journal; bodies = c.commit.new.bodies; trace = c.push.new.self.trace; under = old.under; dead = old.dead } in
    let grown : c.push.new.self.trace.steps.items ≡ old.trace.steps.items ++ stamped c.args.step (g.D.Disk.moment c.commit.new.disk) ∷ [] =
    c.push.ensures.items ∙ ap (λ (n : ℕ). old.trace.steps.items ++ stamped c.args.step n ∷ []) c.calls.ensures in
    subst (λ (d : Recorder g.row.D.Denot). IsLive g.D.Disk.moment g.D.Disk.seen g.D.Disk.past url opening start given d) (sym c.push.ensures.rest)
    (live_on g.D.Disk.moment g.D.Disk.seen g.D.Disk.past url opening start given old is new (c.commit.ensures.touches h) c.args.step legal after (kept_after t c.args.step planned.r planned.record_is)
    (c.commit.ensures.any_moment h url (kept_table t) after planned.r given planned.due is.consistent)
    (c.in-Ok.ensures.consistent h url (kept_table t) after planned.r given planned.due is.consistent) grown is.idle)

pub returns-in-Err-Before-clause-left : goal.returns-in-Err-Before-clause-left
returns-in-Err-Before-clause-left g c h url opening start given legal planned is =
    let old = c.args.self.now in
    let t = table_after opening old.trace.steps.items in
    let early = rw c.in-Err-Before.field-0-is at c.in-Err-Before.ensures.before h in
    left_before g.D.Disk.moment g.D.Disk.seen g.D.Disk.past url opening start given old is _ (c.commit.ensures.touches h)
    (early refl url (kept_table t) (replay (kept_table t) planned.r) planned.r given planned.due is.consistent) refl refl

pub returns-in-Err-Under-clause-left : goal.returns-in-Err-Under-clause-left
returns-in-Err-Under-clause-left g c h url opening start given legal planned is =
    let old = c.args.self.now in
    let t = table_after opening old.trace.steps.items in
    let after = replay (kept_table t) planned.r in
    left_under g.D.Disk.moment g.D.Disk.seen g.D.Disk.past url opening start given old is _ (c.commit.ensures.touches h) c.args.step legal after (kept_after t c.args.step planned.r planned.record_is)
    (c.commit.ensures.any_moment h url (kept_table t) after planned.r given planned.due is.consistent) c.calls-in-Err-Under.result refl refl

pub returns-in-Ok-clause-changes : goal.returns-in-Ok-clause-changes
returns-in-Ok-clause-changes g c h_end =
    let h = subst (λ (d : Recorder g.row.D.Denot). g.D.Disk.honest d.disk) c.push.ensures.rest h_end in
    subst (λ (d : Recorder g.row.D.Denot). ChangesOnly g.D.Disk.moment g.D.Disk.seen g.D.Disk.past (IsWritten c.args.fresh c.args.freed.now) c.args.self.now.disk d.disk) (sym c.push.ensures.rest) (record { touches = c.commit.ensures.touches h; others = c.commit.ensures.others h })

pub returns-in-Err-Before-clause-changes : goal.returns-in-Err-Before-clause-changes
returns-in-Err-Before-clause-changes g c h = record { touches = c.commit.ensures.touches h; others = c.commit.ensures.others h }

pub returns-in-Err-Under-clause-changes : goal.returns-in-Err-Under-clause-changes
returns-in-Err-Under-clause-changes g c h = record { touches = c.commit.ensures.touches h; others = c.commit.ensures.others h }

pub returns-in-Err-Before-clause-under : goal.returns-in-Err-Before-clause-under
returns-in-Err-Before-clause-under g c = let unbegun = rw c.in-Err-Before.field-0-is at c.in-Err-Before.ensures.unbegun in inl (unbegun refl, refl)

pub returns-in-Ok-clause-stored : goal.returns-in-Ok-clause-stored
returns-in-Ok-clause-stored g c h_end =
    let h = subst (λ (d : Recorder g.row.D.Denot). g.D.Disk.honest d.disk) c.push.ensures.rest h_end in
    subst (λ (d : Recorder g.row.D.Denot). IsStored c.args.fresh c.args.bytes.now c.args.freed.now (g.D.Disk.seen d.disk) (g.D.Disk.past d.disk (g.D.Disk.moment d.disk))) (sym c.push.ensures.rest) (c.in-Ok.ensures.stored h)

pub returns-in-Ok-clause-emptied : goal.returns-in-Ok-clause-emptied
returns-in-Ok-clause-emptied g c h_end =
    let h = subst (λ (d : Recorder g.row.D.Denot). g.D.Disk.honest d.disk) c.push.ensures.rest h_end in
    subst (λ (d : Recorder g.row.D.Denot). AreEmpty c.args.freed.now (g.D.Disk.seen d.disk) (g.D.Disk.past d.disk (g.D.Disk.moment d.disk))) (sym c.push.ensures.rest) (c.in-Ok.ensures.emptied h)

pub returns-in-Ok-clause-counts : goal.returns-in-Ok-clause-counts
returns-in-Ok-clause-counts g c =
    let same = ap (λ (r : Recorder g.row.D.Denot). g.D.Disk.moment r.disk) c.push.ensures.rest in
    record { later = omega (arith, same, c.in-Ok.ensures.counts.later); all = omega (arith, same, c.in-Ok.ensures.counts.all); no_more = omega (arith, same, c.in-Ok.ensures.counts.no_more) }
