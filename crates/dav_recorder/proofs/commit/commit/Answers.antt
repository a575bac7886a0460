use Rattle.dav_index.specs.Bounds.{bodies_of}
use Rattle.dav_recorder.specs.Recovers.{rows_of}
use Rattle.dav_recorder.proofs.DueLemmas.{on_ok_then, on_err_then, due_done, due_before, due_either}
use Rattle.dav_recorder.proofs.commit.commit.Goals as goal

pub returns-clause-consistent : goal.returns-clause-consistent
returns-clause-consistent g c h = on_ok_then c.commit_rows.result (c.commit_rows.ensures.safe h) (λ safe url before after r given due is.
    due_done due is c.commit_rows.new.journal.end (g.D.Disk.seen c.commit_rows.new.disk) (g.D.Disk.past c.commit_rows.new.disk (g.D.Disk.moment c.commit_rows.new.disk))
    (safe (rows_of url is.records) (bodies_of before) (bodies_of after) given due.bodies_are is.safe))

pub returns-clause-any_moment : goal.returns-clause-any_moment
returns-clause-any_moment g c h url before after r given due is =
    due_either due is (g.D.Disk.past c.commit_rows.new.disk) (g.D.Disk.moment c.args.disk.now) (g.D.Disk.moment c.commit_rows.new.disk)
    (c.commit_rows.ensures.any_moment h (rows_of url is.records) (bodies_of before) (bodies_of after) given due.bodies_are is.safe)

pub returns-clause-before : goal.returns-clause-before
returns-clause-before g c h = on_err_then c.commit_rows.result (c.commit_rows.ensures.before h) (λ stop images early url before after r given due is.
    due_before due is (g.D.Disk.past c.commit_rows.new.disk) (g.D.Disk.moment c.args.disk.now) (g.D.Disk.moment c.commit_rows.new.disk)
    (images early (rows_of url is.records) (bodies_of before) (bodies_of after) given due.bodies_are is.safe))
