use Rattle.std.proofs.Common.{take, sym, ◌∙◌, ap}
use Rattle.dav_disk.specs.Record.{FileState, state_of}
use Rattle.dav_disk.proofs.Recording.{one_step}
use Rattle.dav_disk.proofs.mem_disk.content_of.Goals as goal

pub loop-call-preserved : goal.loop-call-preserved
loop-call-preserved c =
    let calls = c.args.calls.now in
    let i = c.loop-call.call-index in
    let step = one_step c.args.file calls i c.call-item.result c.loop-call-test.true c.call-item.is in
    sym (ap (λ (s : FileState). s.seen) step ∙ c.content_after-seen.ensures (state_of c.args.file (take i calls)) (sym c.loop-call.invariant))
