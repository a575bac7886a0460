use Rattle.std.proofs.Common.{Err, refl, sym, ap}
use Rattle.dav_upload.specs.declared.did.UploadFault.{UploadFault}
use Rattle.dav_upload.specs.Drain.{Turned, idle, stopped, took}
use Rattle.dav_upload.proofs.turns.make_turn.Goals as goal

pub returns-in-Err-clause-turned : goal.returns-in-Err-clause-turned
returns-in-Err-clause-turned g c = stopped c.in-Err.fault c.in-Err.ensures.asked refl (ap (λ (f : UploadFault). let r : Turned = Err f in r) c.fault_of.ensures)

pub returns-in-Some-clause-turned : goal.returns-in-Some-clause-turned
returns-in-Some-clause-turned g c = took c.ask.new.desk c.in-Ok.answer c.in-Some.job c.in-Ok.ensures.asked (sym c.in-Some.ensures) c.send.ensures.sent

pub returns-in-None-clause-turned : goal.returns-in-None-clause-turned
returns-in-None-clause-turned g c = idle c.in-Ok.answer c.in-Ok.ensures.asked (sym c.in-None.ensures) refl refl
