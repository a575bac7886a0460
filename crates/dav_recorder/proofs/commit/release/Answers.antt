use Rattle.std.proofs.Common.{get_or, arith, refl}
use Rattle.std.specs.List.{Contains}
use Rattle.dav_disk.proofs.Stretch.{touches_begin}
use Rattle.dav_recorder.proofs.Standing.{stands_now, next_file, touches_file, free_goes, ready_goes}
use Rattle.dav_recorder.proofs.Filing.{empties_next, rest_goes}
use Rattle.dav_recorder.proofs.commit.release.Goals as goal

pub loop-file-init : goal.loop-file-init
loop-file-init g c = record {
  still = λ h rows holds given end spared safe. (safe, stands_now (g.D.Disk.past c.args.disk.now) (g.D.Disk.moment c.args.disk.now) safe);
  ready = λ h end ready. ready;
  touches = λ h. touches_begin (Contains c.args.freed.now) (g.D.Disk.moment c.args.disk.now) (g.D.Disk.past c.args.disk.now);
  others = λ h f out. refl;
  emptied = λ h j d lt. absurd (omega (arith, lt));
  keeps = λ h. h;
  moments = omega arith;
  faults = omega arith;
}

pub loop-file-preserved : goal.loop-file-preserved
loop-file-preserved g c =
    let file = get_or c.args.freed.now c.loop-file.file-index 0 in
    let next = next_file c.args.freed.now c.loop-file.file-index c.requires.apart c.loop-file-test.true in
    record {
      still = λ h rows holds given end spared safe.
          free_goes file c.args.freed.now next.0 next.1 (c.release.ensures.touches h) rows holds given end (g.D.Disk.seen c.loop-file.disk) (g.D.Disk.seen c.release.new.disk)
          (c.release.ensures.others h) spared (c.loop-file.invariant.still (c.release.ensures.keeps h) rows holds given end spared safe);
      ready = λ h end ready. ready_goes file next.1 (c.release.ensures.touches h) end (g.D.Disk.seen c.loop-file.disk) (g.D.Disk.seen c.release.new.disk) (c.release.ensures.others h) (c.loop-file.invariant.ready (c.release.ensures.keeps h) end ready);
      touches = λ h. touches_file c.args.freed.now file (c.loop-file.invariant.touches (c.release.ensures.keeps h)) next.0 (c.release.ensures.touches h);
      others = λ h. rest_goes c.args.freed.now file (g.D.Disk.seen c.args.disk.now) (g.D.Disk.seen c.loop-file.disk) (g.D.Disk.seen c.release.new.disk) next.0 (c.loop-file.invariant.others (c.release.ensures.keeps h)) (c.release.ensures.others h);
      emptied = λ h. empties_next c.args.freed.now c.loop-file.file-index (g.D.Disk.seen c.loop-file.disk) (g.D.Disk.seen c.release.new.disk) c.loop-file-test.true (c.release.ensures.touches h) (c.release.ensures.others h)
          (c.in_ok-release.ensures.seen h, c.in_ok-release.ensures.empty h) (c.loop-file.invariant.emptied (c.release.ensures.keeps h));
      keeps = λ h. c.loop-file.invariant.keeps (c.release.ensures.keeps h);
      moments = omega (arith, c.loop-file.invariant.moments, c.in_ok-release.ensures.counts.all);
      faults = omega (arith, c.loop-file.invariant.faults, c.release.ensures.cause.later);
    }

pub returns-in_err-release-clause-safe : goal.returns-in_err-release-clause-safe
returns-in_err-release-clause-safe g c h rows holds given end spared safe =
    let file = get_or c.args.freed.now c.loop-file.file-index 0 in
    let next = next_file c.args.freed.now c.loop-file.file-index c.requires.apart c.loop-file-test.true in
    (free_goes file c.args.freed.now next.0 next.1 (c.release.ensures.touches h) rows holds given end (g.D.Disk.seen c.loop-file.disk) (g.D.Disk.seen c.release.new.disk)
    (c.release.ensures.others h) spared (c.loop-file.invariant.still (c.release.ensures.keeps h) rows holds given end spared safe)).0

pub returns-in_err-release-clause-any_moment : goal.returns-in_err-release-clause-any_moment
returns-in_err-release-clause-any_moment g c h rows holds given end spared safe =
    let file = get_or c.args.freed.now c.loop-file.file-index 0 in
    let next = next_file c.args.freed.now c.loop-file.file-index c.requires.apart c.loop-file-test.true in
    (free_goes file c.args.freed.now next.0 next.1 (c.release.ensures.touches h) rows holds given end (g.D.Disk.seen c.loop-file.disk) (g.D.Disk.seen c.release.new.disk)
    (c.release.ensures.others h) spared (c.loop-file.invariant.still (c.release.ensures.keeps h) rows holds given end spared safe)).1

pub returns-in_err-release-clause-ready : goal.returns-in_err-release-clause-ready
returns-in_err-release-clause-ready g c h end ready =
    let file = get_or c.args.freed.now c.loop-file.file-index 0 in
    let next = next_file c.args.freed.now c.loop-file.file-index c.requires.apart c.loop-file-test.true in
    ready_goes file next.1 (c.release.ensures.touches h) end (g.D.Disk.seen c.loop-file.disk) (g.D.Disk.seen c.release.new.disk) (c.release.ensures.others h) (c.loop-file.invariant.ready (c.release.ensures.keeps h) end ready)

pub returns-in_err-release-clause-touches : goal.returns-in_err-release-clause-touches
returns-in_err-release-clause-touches g c h =
    let file = get_or c.args.freed.now c.loop-file.file-index 0 in
    let next = next_file c.args.freed.now c.loop-file.file-index c.requires.apart c.loop-file-test.true in
    touches_file c.args.freed.now file (c.loop-file.invariant.touches (c.release.ensures.keeps h)) next.0 (c.release.ensures.touches h)

pub returns-clause-safe : goal.returns-clause-safe
returns-clause-safe g c h rows holds given end spared safe = (c.loop-file.invariant.still h rows holds given end spared safe).0

pub returns-clause-any_moment : goal.returns-clause-any_moment
returns-clause-any_moment g c h rows holds given end spared safe = (c.loop-file.invariant.still h rows holds given end spared safe).1

pub returns-in_err-release-clause-others : goal.returns-in_err-release-clause-others
returns-in_err-release-clause-others g c h =
    let file = get_or c.args.freed.now c.loop-file.file-index 0 in
    let next = next_file c.args.freed.now c.loop-file.file-index c.requires.apart c.loop-file-test.true in
    rest_goes c.args.freed.now file (g.D.Disk.seen c.args.disk.now) (g.D.Disk.seen c.loop-file.disk) (g.D.Disk.seen c.release.new.disk) next.0 (c.loop-file.invariant.others (c.release.ensures.keeps h)) (c.release.ensures.others h)
