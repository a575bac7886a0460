use Rattle.std.proofs.Common.{◌≤◌, sym, subst, arith}
use Rattle.dav_disk.specs.Disk.{IsOutcome}
use Rattle.dav_disk.proofs.Outcomes.{settled_only}
use Rattle.dav_disk.proofs.Stretch.{leaves_begin, leaves_goes, leaves_stays}
use Rattle.dav_store.proofs.starting.look.Goals as goal

pub returns-clause-any_moment : goal.returns-clause-any_moment
returns-clause-any_moment g c h =
    let d0 = c.args.disk.now in
    let s0 = g.D.Disk.seen d0 0 in
    let p0 = g.D.Disk.past d0 (g.D.Disk.moment d0) 0 in
    let none = leaves_begin (g.D.Disk.past d0) 0 (g.D.Disk.moment d0) (IsOutcome p0) (λ x left. left) in
    let h2 = c.read.ensures.keeps h in
    let h1 = c.size.ensures.keeps h2 in
    let h0 = c.sync.ensures.keeps h1 in
    let synced = c.in_ok-sync.ensures.durable h1 in
    let sized = c.size.ensures.time h2 in
    let one = leaves_goes none synced (λ x left. subst (IsOutcome p0) (sym (settled_only s0 x left)) (g.met.D.Disk.reads d0 h0 0)) in
    let two = leaves_stays synced.later one sized in
    let later : g.D.Disk.moment d0 ≤ g.D.Disk.moment c.size.new.self = omega (arith, synced.later, sized.later) in
    leaves_stays later two (c.read.ensures.time h)
