use Rattle.std.proofs.Common.{◌≤◌, Some, arith, refl, sym, ◌∙◌, ap, subst}
use Rattle.dav_disk.specs.Disk.{AllStay}
use Rattle.dav_store.specs.Rows.{IsReady}
use Rattle.dav_deeds.specs.declared.fault.DeskFault.{DeskFault}
use Rattle.dav_recorder.specs.Opening.{IsFetchFault, IsUndamaged}
use Rattle.dav_recorder.specs.Survives.{IsLive}
use Rattle.dav_recorder.specs.declared.recorder.Recorder.{Recorder}
use Rattle.dav_recorder.proofs.LiveLemmas.{live_looks}
use Rattle.dav_recorder.proofs.Standing.{rest_moves}
use Rattle.dav_recorder.proofs.StartLemmas.{fetch_fault, fetch_undamaged, dead_of, starved_of}
use Rattle.dav_recorder.specs.Files.{ChangesOnly}
use Rattle.dav_recorder.proofs.recorder.Recorder.fetch.Goals as goal

pub returns-in-Ok-clause-live : goal.returns-in-Ok-clause-live
returns-in-Ok-clause-live g c h url opening start given is =
    live_looks g.D.Disk.moment g.D.Disk.seen g.D.Disk.past url opening start given c.args.self.now is _ (c.fetch.ensures.touches h) (c.fetch.ensures.seen h 0) refl refl refl

pub returns-in-Err-clause-live : goal.returns-in-Err-clause-live
returns-in-Err-clause-live g c h_end url opening start given is =
    let h = subst (λ (d : Recorder g.row.D.Denot). g.D.Disk.honest d.disk) c.fail.ensures.rest h_end in
    let new : Recorder g.row.D.Denot = record { disk = c.fetch.new.disk; journal = c.args.self.now.journal; bodies = c.fetch.new.self; trace = c.args.self.now.trace; under = c.args.self.now.under; dead = c.fail.new.self.dead } in
    subst (λ (d : Recorder g.row.D.Denot). IsLive g.D.Disk.moment g.D.Disk.seen g.D.Disk.past url opening start given d) (sym c.fail.ensures.rest)
    (live_looks g.D.Disk.moment g.D.Disk.seen g.D.Disk.past url opening start given c.args.self.now is new (c.fetch.ensures.touches h) (c.fetch.ensures.seen h 0) refl refl refl)

pub returns-in-Err-clause-fault : goal.returns-in-Err-clause-fault
returns-in-Err-clause-fault g c =
    let d0 = c.args.self.now.disk in
    let d1 = c.fetch.new.disk in
    let file = g.D.Disk.seen d0 c.args.id.now.file in
    subst (λ (d : g.row.D.Denot). IsFetchFault (g.D.Disk.honest d) c.args.id.now file (g.D.Disk.faults d0) (g.D.Disk.faults d) c.fail.result) (sym (ap (λ (r : Recorder g.row.D.Denot). r.disk) c.fail.ensures.rest))
    (subst (λ (e : DeskFault). IsFetchFault (g.D.Disk.honest d1) c.args.id.now file (g.D.Disk.faults d0) (g.D.Disk.faults d1) e) (sym c.fail.ensures.fault)
    (fetch_fault (g.D.Disk.honest d1) c.args.id.now file (g.D.Disk.faults d0) (g.D.Disk.faults d1) c.in-Err.fault c.in-Err.ensures.cause.rose c.in-Err.ensures.damaged))

pub returns-in-Err-clause-stopped : goal.returns-in-Err-clause-stopped
returns-in-Err-clause-stopped g c differs =
    c.fail.ensures.dead ∙ dead_of c.args.self.now.dead c.in-Err.fault (λ is. differs (c.fail.ensures.fault ∙ is)) ∙ ap (λ (e : DeskFault). Some e) (sym c.fail.ensures.fault)

pub returns-in-Err-clause-starved : goal.returns-in-Err-clause-starved
returns-in-Err-clause-starved g c is =
    let both = starved_of c.args.self.now.dead c.in-Err.fault (sym c.fail.ensures.fault ∙ is) in
    (ap (λ (d : Recorder g.row.D.Denot). d.disk) c.fail.ensures.rest ∙ c.in-Err.ensures.starved both.0, c.fail.ensures.dead ∙ both.1)

pub returns-in-Err-clause-ready : goal.returns-in-Err-clause-ready
returns-in-Err-clause-ready g c h_end ready =
    let h = subst (λ (d : Recorder g.row.D.Denot). g.D.Disk.honest d.disk) c.fail.ensures.rest h_end in
    let d0 = c.args.self.now.disk in
    let d1 = c.fetch.new.disk in
    let touches = c.fetch.ensures.touches h in
    let still = rest_moves ready.1 (c.fetch.ensures.seen h 0) (touches.others (g.D.Disk.moment d1) 0 touches.later (omega arith) (λ never. never)) in
    subst (λ (d : Recorder g.row.D.Denot). IsReady d.journal.end (g.D.Disk.seen d.disk 0) (g.D.Disk.past d.disk (g.D.Disk.moment d.disk) 0)) (sym c.fail.ensures.rest) (ready.0, still)

pub returns-in-Err-clause-faults : goal.returns-in-Err-clause-faults
returns-in-Err-clause-faults g c =
    subst (λ (d : Recorder g.row.D.Denot). g.D.Disk.faults c.args.self.now.disk ≤ g.D.Disk.faults d.disk) (sym c.fail.ensures.rest) c.fetch.ensures.cause.later

pub returns-in-Err-clause-trace : goal.returns-in-Err-clause-trace
returns-in-Err-clause-trace g c = (ap (λ (d : Recorder g.row.D.Denot). d.trace) c.fail.ensures.rest, ap (λ (d : Recorder g.row.D.Denot). d.under) c.fail.ensures.rest)

pub returns-in-Err-clause-seen : goal.returns-in-Err-clause-seen
returns-in-Err-clause-seen g c h_end =
    let h = subst (λ (d : Recorder g.row.D.Denot). g.D.Disk.honest d.disk) c.fail.ensures.rest h_end in
    subst (λ (d : Recorder g.row.D.Denot). AllStay (g.D.Disk.seen c.args.self.now.disk) (g.D.Disk.seen d.disk)) (sym c.fail.ensures.rest) (c.fetch.ensures.seen h)

pub returns-in-Ok-clause-changes : goal.returns-in-Ok-clause-changes
returns-in-Ok-clause-changes g c h = record { touches = c.fetch.ensures.touches h; others = λ f out. c.fetch.ensures.seen h f }

pub returns-in-Err-clause-changes : goal.returns-in-Err-clause-changes
returns-in-Err-clause-changes g c h_end =
    let h = subst (λ (d : Recorder g.row.D.Denot). g.D.Disk.honest d.disk) c.fail.ensures.rest h_end in
    subst (λ (d : Recorder g.row.D.Denot). ChangesOnly g.D.Disk.moment g.D.Disk.seen g.D.Disk.past (λ _. ⊥) c.args.self.now.disk d.disk) (sym c.fail.ensures.rest) (record { touches = c.fetch.ensures.touches h; others = λ f out. c.fetch.ensures.seen h f })

pub returns-in-Err-clause-undamaged : goal.returns-in-Err-clause-undamaged
returns-in-Err-clause-undamaged g c h_end url opening start given is named =
    let h = subst (λ (d : Recorder g.row.D.Denot). g.D.Disk.honest d.disk) c.fail.ensures.rest h_end in
    let d0 = c.args.self.now.disk in
    let id = c.args.id.now in
    let held = is.consistent.safe.kept id named in
    subst IsUndamaged (sym c.fail.ensures.fault)
    (fetch_undamaged (g.D.Disk.honest c.fetch.new.disk) h id (g.D.Disk.seen d0 id.file) (given id.file) c.in-Err.fault c.in-Err.ensures.damaged
    (held.begins (g.D.Disk.seen d0 id.file) (g.met.D.Disk.reads d0 (c.fetch.ensures.keeps h) id.file)) held.is_body)

pub returns-in-Err-clause-counts : goal.returns-in-Err-clause-counts
returns-in-Err-clause-counts g c =
    let same = ap (λ (r : Recorder g.row.D.Denot). g.D.Disk.moment r.disk) c.fail.ensures.rest in
    record { later = omega (arith, same, c.in-Err.ensures.counts.later); all = tt; no_more = omega (arith, same, c.in-Err.ensures.counts.no_more) }
