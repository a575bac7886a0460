use Rattle.dav_disk.proofs.Replay.{sync_settles}
use Rattle.dav_disk.proofs.modelled.ModelledDisk.sync.Goals as goal

pub returns-clause-durable : goal.returns-clause-durable
returns-clause-durable g c _ =
    rw c.counted-2.ensures.same (sync_settles g.S.Start.files c.args.file (g.C.Calls.history c.args.self.now.calls) (g.C.Calls.history c.sync-answer.new.self) c.sync-answer.result c.sync-answer.ensures)
