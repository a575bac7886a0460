use Rattle.std.proofs.Common.{Ok, refl}
use Rattle.dav_upload.proofs.SentJobs.{sends_put, sends_noted, sends_so}
use Rattle.dav_upload.proofs.ending.send_job.Goals as goal

pub returns-in-Ok-clause-done : goal.returns-in-Ok-clause-done
returns-in-Ok-clause-done g c =
    sends_noted c.args.base.now c.args.job _ _ (Ok c.done_of.result)
    (sends_so c.args.base.now c.args.job _ _ c.in-Ok.came c.done_of.result c.in-Ok.ensures c.done_of.ensures) c.done_of.result refl

pub returns-in-Ok-clause-put : goal.returns-in-Ok-clause-put
returns-in-Ok-clause-put g c =
    sends_put c.args.base.now c.args.job _ _ (Ok c.done_of.result)
    (sends_so c.args.base.now c.args.job _ _ c.in-Ok.came c.done_of.result c.in-Ok.ensures c.done_of.ensures)
