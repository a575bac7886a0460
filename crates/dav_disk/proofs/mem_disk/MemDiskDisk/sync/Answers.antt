use Rattle.std.proofs.Common.{not}
use Rattle.std.proofs.lemmas.Result.{on_ok_weaker}
use Rattle.dav_disk.proofs.Recording.{fair_now, fair_sync, sync_seen, sync_settles, sync_fails, sync_done, sync_not_done}
use Rattle.dav_disk.proofs.mem_disk.MemDiskDisk.sync.Goals as goal

pub record-requires : goal.record-requires
record-requires c = fair_sync c.args.self.now.calls.items c.args.file (not c.is_to_fail-fails.result) (fair_now c.args.self.now.first c.args.self.now.calls.items c.args.self.now.exact)

pub returns-clause-seen : goal.returns-clause-seen
returns-clause-seen c _ = sync_seen c.args.self.now.calls.items c.record.new.self.calls.items c.args.file _ c.record.ensures.either

pub returns-clause-durable : goal.returns-clause-durable
returns-clause-durable c _ =
    let calls = c.args.self.now.calls.items in
    let new = c.record.new.self.calls.items in
    let fails = c.is_to_fail-fails.result in
    on_ok_weaker c.record.result (λ p. sync_settles c.args.self.now.first c.record.new.self.first calls new c.args.file c.record.ensures.first (sync_done calls new c.args.file fails p.0 p.1)) c.record.ensures.ok

pub returns-clause-failed : goal.returns-clause-failed
returns-clause-failed c _ err =
    let calls = c.args.self.now.calls.items in
    let new = c.record.new.self.calls.items in
    let fails = c.is_to_fail-fails.result in
    sync_fails c.args.self.now.first c.record.new.self.first calls new c.args.file c.record.ensures.first (sync_not_done calls new c.args.file fails (c.record.ensures.failed err))
