use Rattle.dav_recorder.proofs.Standing.{stands_now, none_held, keep_stands, keep_held}
use Rattle.std.proofs.Common.{ℕ, [], Option, refl, sym, subst}
use Rattle.dav_recorder.specs.Stands.{IsFile}
use Rattle.dav_recorder.proofs.Filing.{stored_none, stored_some}
use Rattle.dav_recorder.proofs.commit.keep.Goals as goal

pub returns-in-None-clause-held : goal.returns-in-None-clause-held
returns-in-None-clause-held g c h rows holds holds_after given end adding safe =
    (safe, none_held adding c.in-None.is (g.D.Disk.past c.args.disk.now (g.D.Disk.moment c.args.disk.now)) safe.kept)

pub returns-in-None-clause-any_moment : goal.returns-in-None-clause-any_moment
returns-in-None-clause-any_moment g c h rows holds holds_after given end adding safe = stands_now (g.D.Disk.past c.args.disk.now) (g.D.Disk.moment c.args.disk.now) safe

pub returns-in_ok-keep-in-Some-clause-held : goal.returns-in_ok-keep-in-Some-clause-held
returns-in_ok-keep-in-Some-clause-held g c h rows holds holds_after given end adding safe =
    keep_held c.in-Some.file c.args.fresh (c.keep.ensures.touches h) c.in-Some.is (c.requires.apart c.in-Some.file c.in-Some.is) rows holds holds_after given c.args.bytes.now end (g.D.Disk.seen c.args.disk.now)
    adding safe (g.D.Disk.seen c.keep.new.disk) (c.keep.ensures.others h) (c.in_ok-keep-in-Some.ensures.kept h)

pub returns-in_ok-keep-in-Some-clause-any_moment : goal.returns-in_ok-keep-in-Some-clause-any_moment
returns-in_ok-keep-in-Some-clause-any_moment g c h rows holds holds_after given end adding safe =
    keep_stands c.in-Some.file c.args.fresh (c.keep.ensures.touches h) c.in-Some.is (c.requires.apart c.in-Some.file c.in-Some.is) rows holds holds_after given c.args.bytes.now end (g.D.Disk.seen c.args.disk.now) adding safe

pub returns-in-None-clause-others : goal.returns-in-None-clause-others
returns-in-None-clause-others g c h f out = refl

pub returns-in-None-clause-stored : goal.returns-in-None-clause-stored
returns-in-None-clause-stored g c h = stored_none c.args.fresh c.args.bytes.now [] (g.D.Disk.seen c.args.disk.now) (g.D.Disk.past c.args.disk.now (g.D.Disk.moment c.args.disk.now)) c.in-None.is

pub returns-in_ok-keep-in-Some-clause-others : goal.returns-in_ok-keep-in-Some-clause-others
returns-in_ok-keep-in-Some-clause-others g c h f out = c.keep.ensures.others h f (λ same. out (subst (λ (o : Option ℕ). IsFile o f) (sym c.in-Some.is) same))

pub returns-in_err-keep-in-Some-clause-others : goal.returns-in_err-keep-in-Some-clause-others
returns-in_err-keep-in-Some-clause-others g c h f out = c.keep.ensures.others h f (λ same. out (subst (λ (o : Option ℕ). IsFile o f) (sym c.in-Some.is) same))

pub returns-in_ok-keep-in-Some-clause-stored : goal.returns-in_ok-keep-in-Some-clause-stored
returns-in_ok-keep-in-Some-clause-stored g c h = stored_some c.args.fresh c.in-Some.file c.args.bytes.now [] (g.D.Disk.seen c.keep.new.disk) (g.D.Disk.past c.keep.new.disk (g.D.Disk.moment c.keep.new.disk)) c.in-Some.is (c.in_ok-keep-in-Some.ensures.seen h, c.in_ok-keep-in-Some.ensures.kept h)
