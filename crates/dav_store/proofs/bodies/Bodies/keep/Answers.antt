use Rattle.std.proofs.Common.{◌≡◌, List, ℕ, ◌+◌, [], ◌++◌, length, ◌∙◌, ap, arith}
use Rattle.std.proofs.lemmas.List.{append-nil, drop_all}
use Rattle.dav_disk.specs.Disk.{settled, overwritten}
use Rattle.dav_disk.proofs.Stretch.{doubt_now}
use Rattle.dav_store.proofs.bodies.Bodies.keep.Goals as goal

over_none : (bytes : List ℕ) → overwritten [] 0 bytes ≡ bytes
over_none bytes = ap (λ (l : List ℕ). bytes ++ l) (drop_all (0 + length bytes) [] (omega arith)) ∙ append-nil bytes

pub returns-clause-kept : goal.returns-clause-kept
returns-clause-kept g c h =
    let h2 = c.sync.ensures.keeps h in
    let h1 = c.write_at.ensures.keeps h2 in
    let written : g.D.Disk.seen c.write_at.new.self c.args.file ≡ c.args.bytes.now =
    c.in_ok-write_at.ensures.written h2 ∙ ap (λ (s : List ℕ). overwritten s 0 c.args.bytes.now) (c.in_ok-cut.ensures.cut h1) ∙ over_none c.args.bytes.now in
    doubt_now (c.in_ok-sync.ensures.durable h) c.in_ok-sync.ensures.counts.one_more ∙ ap settled written
