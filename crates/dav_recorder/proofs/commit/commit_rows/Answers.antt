use Rattle.std.proofs.Common.{[], ◌∷◌, ◌++◌, inl, inr, ◌∙◌, arith}
use Rattle.std.proofs.lemmas.Bool.{false≢true}
use Rattle.dav_recorder.specs.Stands.{StandsEither}
use Rattle.dav_recorder.proofs.Standing.{images_join, row_images, row_done}
use Rattle.dav_recorder.proofs.Filing.{rest_after, stored_after, stored_row}
use Rattle.dav_recorder.proofs.commit.commit_rows.Goals as goal

pub returns-in-Err-append-clause-any_moment : goal.returns-in-Err-append-clause-any_moment
returns-in-Err-append-clause-any_moment g c h rows holds holds_after given is safe =
    let end = c.args.journal.now.end in
    let held = c.in-Ok.ensures.held (c.append.ensures.keeps h) rows holds holds_after given end is.adding safe in
    row_images rows c.args.row.now holds holds_after given (c.keep.ensures.any_moment (c.append.ensures.keeps h) rows holds holds_after given end is.adding safe) (c.append.ensures.touches h) held.0.kept held.1 (c.append.ensures.any_moment h rows held.0.index)

pub returns-in-Ok-release-clause-safe : goal.returns-in-Ok-release-clause-safe
returns-in-Ok-release-clause-safe g c h rows holds holds_after given is safe =
    let h_row = c.release.ensures.keeps h in
    let h_body = c.append.ensures.keeps h_row in
    let held = c.in-Ok.ensures.held h_body rows holds holds_after given c.args.journal.now.end is.adding safe in
    let after = row_done (c.append.ensures.touches h_row) rows c.args.row.now holds holds_after given held.0.kept held.1 c.append.new.self.end (g.D.Disk.seen c.append.new.disk) (c.in-Ok-append.ensures.appended h_row rows held.0.index) in
    c.release.ensures.safe h (rows ++ c.args.row.now ∷ []) holds_after given c.append.new.self.end is.spared after

pub returns-in-Ok-release-clause-any_moment : goal.returns-in-Ok-release-clause-any_moment
returns-in-Ok-release-clause-any_moment g c h rows holds holds_after given is safe =
    let h_row = c.release.ensures.keeps h in
    let h_body = c.append.ensures.keeps h_row in
    let end = c.args.journal.now.end in
    let held = c.in-Ok.ensures.held h_body rows holds holds_after given end is.adding safe in
    let after = row_done (c.append.ensures.touches h_row) rows c.args.row.now holds holds_after given held.0.kept held.1 c.append.new.self.end (g.D.Disk.seen c.append.new.disk) (c.in-Ok-append.ensures.appended h_row rows held.0.index) in
    images_join (StandsEither rows holds (rows ++ c.args.row.now ∷ []) holds_after given)
    (row_images rows c.args.row.now holds holds_after given (c.keep.ensures.any_moment h_body rows holds holds_after given end is.adding safe) (c.append.ensures.touches h_row) held.0.kept held.1 (c.append.ensures.any_moment h_row rows held.0.index))
    (c.release.ensures.touches h).before
    (λ k image lo hi left. inr (c.release.ensures.any_moment h (rows ++ c.args.row.now ∷ []) holds_after given c.append.new.self.end is.spared after k image lo hi left))

pub returns-in-Err-release-clause-any_moment : goal.returns-in-Err-release-clause-any_moment
returns-in-Err-release-clause-any_moment g c h rows holds holds_after given is safe =
    let h_row = c.release.ensures.keeps h in
    let h_body = c.append.ensures.keeps h_row in
    let end = c.args.journal.now.end in
    let held = c.in-Ok.ensures.held h_body rows holds holds_after given end is.adding safe in
    let after = row_done (c.append.ensures.touches h_row) rows c.args.row.now holds holds_after given held.0.kept held.1 c.append.new.self.end (g.D.Disk.seen c.append.new.disk) (c.in-Ok-append.ensures.appended h_row rows held.0.index) in
    images_join (StandsEither rows holds (rows ++ c.args.row.now ∷ []) holds_after given)
    (row_images rows c.args.row.now holds holds_after given (c.keep.ensures.any_moment h_body rows holds holds_after given end is.adding safe) (c.append.ensures.touches h_row) held.0.kept held.1 (c.append.ensures.any_moment h_row rows held.0.index))
    (c.release.ensures.touches h).before
    (λ k image lo hi left. inr (c.release.ensures.any_moment h (rows ++ c.args.row.now ∷ []) holds_after given c.append.new.self.end is.spared after k image lo hi left))

pub returns-in-Err-clause-others : goal.returns-in-Err-clause-others
returns-in-Err-clause-others g c h f out = c.keep.ensures.others h f (λ is. out (inr (inl is)))

pub returns-in-Err-clause-unbegun : goal.returns-in-Err-clause-unbegun
returns-in-Err-clause-unbegun g c is = record {
  has_body = λ none. false≢true (c.in-Err.ensures.none none);
  early = c.keep.ensures.counts.no_more;
  changes = λ h. record { touches = c.keep.ensures.touches h; others = c.keep.ensures.others h };
}

pub returns-in-Err-append-clause-begun : goal.returns-in-Err-append-clause-begun
returns-in-Err-append-clause-begun g c is = record {
  late = omega (arith, c.in-Ok.ensures.counts.all, c.append.ensures.counts.later);
  stored = λ h. stored_row c.args.fresh c.args.bytes.now c.args.freed.now (g.D.Disk.seen c.keep.new.disk) (g.D.Disk.seen c.append.new.disk) c.requires.fresh_apart (c.in-Ok.ensures.stored (c.append.ensures.keeps h)) (c.append.ensures.touches h) (c.append.ensures.others h);
}

pub returns-in-Err-release-clause-begun : goal.returns-in-Err-release-clause-begun
returns-in-Err-release-clause-begun g c is = record {
  late = omega (arith, c.in-Ok.ensures.counts.all, c.in-Ok-append.ensures.counts.all, c.release.ensures.counts.later);
  stored = λ h. stored_after c.args.fresh c.args.bytes.now c.args.freed.now (g.D.Disk.seen c.keep.new.disk) (g.D.Disk.seen c.append.new.disk) (g.D.Disk.seen c.release.new.disk) c.requires.fresh_apart (c.in-Ok.ensures.stored (c.append.ensures.keeps (c.release.ensures.keeps h))) (c.append.ensures.touches (c.release.ensures.keeps h)) (c.append.ensures.others (c.release.ensures.keeps h)) (c.release.ensures.touches h) (c.release.ensures.others h);
}

pub returns-in-Err-append-clause-others : goal.returns-in-Err-append-clause-others
returns-in-Err-append-clause-others g c h f out = c.append.ensures.others h f (λ first. out (inl first)) ∙ c.keep.ensures.others (c.append.ensures.keeps h) f (λ is. out (inr (inl is)))

pub returns-in-Ok-release-clause-others : goal.returns-in-Ok-release-clause-others
returns-in-Ok-release-clause-others g c h = rest_after c.args.fresh c.args.freed.now (g.D.Disk.seen c.args.disk.now) (g.D.Disk.seen c.keep.new.disk) (g.D.Disk.seen c.append.new.disk) (g.D.Disk.seen c.release.new.disk) (c.keep.ensures.others (c.append.ensures.keeps (c.release.ensures.keeps h))) (c.append.ensures.others (c.release.ensures.keeps h)) (c.release.ensures.others h)

pub returns-in-Err-release-clause-others : goal.returns-in-Err-release-clause-others
returns-in-Err-release-clause-others g c h = rest_after c.args.fresh c.args.freed.now (g.D.Disk.seen c.args.disk.now) (g.D.Disk.seen c.keep.new.disk) (g.D.Disk.seen c.append.new.disk) (g.D.Disk.seen c.release.new.disk) (c.keep.ensures.others (c.append.ensures.keeps (c.release.ensures.keeps h))) (c.append.ensures.others (c.release.ensures.keeps h)) (c.release.ensures.others h)

pub returns-in-Ok-release-clause-stored : goal.returns-in-Ok-release-clause-stored
returns-in-Ok-release-clause-stored g c h = stored_after c.args.fresh c.args.bytes.now c.args.freed.now (g.D.Disk.seen c.keep.new.disk) (g.D.Disk.seen c.append.new.disk) (g.D.Disk.seen c.release.new.disk) c.requires.fresh_apart (c.in-Ok.ensures.stored (c.append.ensures.keeps (c.release.ensures.keeps h))) (c.append.ensures.touches (c.release.ensures.keeps h)) (c.append.ensures.others (c.release.ensures.keeps h)) (c.release.ensures.touches h) (c.release.ensures.others h)
