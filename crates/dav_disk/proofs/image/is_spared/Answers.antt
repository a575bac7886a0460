use Rattle.std.proofs.Common.{◌↔◌, IsTrue, take, sym, subst}
use Rattle.dav_disk.specs.Disk.{IsOutside}
use Rattle.dav_disk.specs.Record.{FileState, state_of}
use Rattle.dav_disk.proofs.Recording.{one_step}
use Rattle.dav_disk.proofs.image.is_spared.Goals as goal

pub loop-call-preserved : goal.loop-call-preserved
loop-call-preserved c =
    let calls = c.args.calls.now in
    let i = c.loop-call.call-index in
    let step = one_step c.args.file calls i c.call-item.result c.loop-call-test.true c.call-item.is in
    subst (λ (s : FileState). IsTrue c.spared_after-spared.result ↔ IsOutside c.args.place s.doubt.changes) (sym step)
    (c.spared_after-spared.ensures (state_of c.args.file (take i calls)) c.loop-call.invariant)
