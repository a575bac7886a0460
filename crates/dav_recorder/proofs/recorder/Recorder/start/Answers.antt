use Rattle.std.proofs.Common.{◌≡◌, ap, sym, subst}
use Rattle.dav_store.specs.declared.journal.Journal.{Journal}
use Rattle.dav_recorder.specs.Stands.{EachImage}
use Rattle.dav_recorder.specs.Recovers.{Recovers}
use Rattle.dav_recorder.proofs.LiveLemmas.{live_begin_at}
use Rattle.dav_recorder.specs.Files.{ChangesOnly}
use Rattle.dav_recorder.proofs.recorder.Recorder.start.Goals as goal

pub returns-in-Ok-clause-live : goal.returns-in-Ok-clause-live
returns-in-Ok-clause-live g c h_end table given all =
    let h = subst g.D.Disk.honest c.begin.ensures.disk h_end in
    let both = c.in-Ok.ensures.table h table given all in
    let touches = c.open.ensures.touches h in (
      both.0,
      live_begin_at g.D.Disk.moment g.D.Disk.seen g.D.Disk.past c.args.url.now table (g.D.Disk.moment c.args.disk) given c.begin.result c.open.new.disk c.in-Ok.opened.journal.end
          c.begin.ensures.disk (ap (λ (j : Journal). j.end) c.begin.ensures.journal) touches.later both.1 (c.open.ensures.any_moment h table given all) c.begin.ensures.none c.begin.ensures.idle,
    )

pub returns-in-Ok-clause-any_moment : goal.returns-in-Ok-clause-any_moment
returns-in-Ok-clause-any_moment g c table given all h_end =
    let h = subst g.D.Disk.honest c.begin.ensures.disk h_end in
    subst (λ (d : g.row.D.Denot). EachImage (g.D.Disk.past d) (g.D.Disk.moment c.args.disk) (g.D.Disk.moment d) (Recovers c.args.url.now table given)) (sym c.begin.ensures.disk) (c.open.ensures.any_moment h table given all)

pub returns-in-Err-clause-any_moment : goal.returns-in-Err-clause-any_moment
returns-in-Err-clause-any_moment g c table given all h = c.open.ensures.any_moment h table given all

pub returns-in-Ok-clause-changes : goal.returns-in-Ok-clause-changes
returns-in-Ok-clause-changes g c h_end =
    let h = subst g.D.Disk.honest c.begin.ensures.disk h_end in
    subst (λ (d : g.row.D.Denot). ChangesOnly g.D.Disk.moment g.D.Disk.seen g.D.Disk.past (λ f. f ≡ 0) c.args.disk d) (sym c.begin.ensures.disk) (record { touches = c.open.ensures.touches h; others = c.open.ensures.others h })

pub returns-in-Err-clause-changes : goal.returns-in-Err-clause-changes
returns-in-Err-clause-changes g c h = record { touches = c.open.ensures.touches h; others = c.open.ensures.others h }
