use Rattle.std.proofs.Common.{length-drop, rules, true, false}
use Rattle.std.proofs.lemmas.List.{take_all}
use Rattle.dav_machine.specs.Devices.{one_device}
use Rattle.dav_machine.specs.Machine.{give}
use Rattle.dav_edge.specs.Whole.{Sends}
use Rattle.dav_edge.proofs.Sending.{on_same, on_then, sends_some, sends_failed, sends_all}
use Rattle.dav_edge.proofs.whole.put_whole.Goals as goal

pub loop-rest-init : goal.loop-rest-init
loop-rest-init g c = on_same _ (Sends c.args.bytes.now)

pub returns-in_default : goal.returns-in_default
returns-in_default g c =
    on_then _ _ _ (Sends c.args.bytes.now) (Sends c.loop-rest.rest.now) (give one_device false) c.loop-rest.invariant
    (sends_failed _ _ c.loop-rest.rest.now c.in_default.field-0 (search rules) c.in_default.ensures.log)

pub loop-rest-preserved : goal.loop-rest-preserved
loop-rest-preserved g c =
    on_then _ _ _ (Sends c.args.bytes.now) (Sends c.loop-rest.rest.now) (Sends _) c.loop-rest.invariant
    (sends_some _ _ c.loop-rest.rest.now _ c.in-Ok.count (take_all _ _ (search (rules, length-drop))) (search rules) c.in-Ok.ensures.log)

pub returns : goal.returns
returns g c =
    on_then _ _ _ (Sends c.args.bytes.now) (Sends c.loop-rest.rest.now) (give one_device true) c.loop-rest.invariant
    (sends_all _ c.loop-rest.rest.now (search rules))
