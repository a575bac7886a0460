use Rattle.std.proofs.Common.{arith}
use Rattle.dav_disk.proofs.Replay.{recorded_with, sound_now}
use Rattle.dav_disk.proofs.modelled.ModelledDisk.cut.Goals as goal

pub invariant_of-self-2 : goal.invariant_of-self-2
invariant_of-self-2 g c =
    let history = g.C.Calls.history c.args.self.now.calls in
    let new = g.C.Calls.history c.cut-answer.new.self in
    let recorded = recorded_with _ history new c.args.self.now.count c.cut-answer.ensures c.args.self.now.recorded in
    record { recorded = recorded; counted = omega (arith, recorded, c.args.self.now.recorded, c.args.self.now.counted, c.if-self.false); sound = sound_now g.S.Start.files new }
