use Rattle.std.proofs.Common.{take, sym, subst}
use Rattle.dav_disk.specs.Image.{Shows}
use Rattle.dav_disk.specs.Record.{FileState, state_of}
use Rattle.dav_disk.proofs.Recording.{one_step}
use Rattle.dav_disk.proofs.image.standing_of.Goals as goal

pub loop-call-preserved : goal.loop-call-preserved
loop-call-preserved c =
    let calls = c.args.calls.now in
    let i = c.loop-call.call-index in
    let r = c.standing_after-standing.result in
    let step = one_step c.args.file calls i c.call-item.result c.loop-call-test.true c.call-item.is in
    subst (λ (s : FileState). Shows r.seen.now r.synced.now r.least r.greatest s) (sym step)
    (c.standing_after-standing.ensures (state_of c.args.file (take i calls)) c.loop-call.invariant)
