use Rattle.dav_disk.proofs.Recording.{fair_now, fair_look, look_seen, look_passes}
use Rattle.dav_disk.proofs.mem_disk.MemDiskDisk.size.Goals as goal

pub record-requires : goal.record-requires
record-requires c = fair_look c.args.self.now.calls.items (fair_now c.args.self.now.first c.args.self.now.calls.items c.args.self.now.exact)

pub returns-in_err-record-clause-seen : goal.returns-in_err-record-clause-seen
returns-in_err-record-clause-seen c _ = look_seen c.args.self.now.calls.items c.record.new.self.calls.items c.record.ensures.either

pub returns-in_err-record-clause-time : goal.returns-in_err-record-clause-time
returns-in_err-record-clause-time c _ = look_passes c.args.self.now.first c.record.new.self.first c.args.self.now.calls.items c.record.new.self.calls.items c.args.file c.record.ensures.first c.record.ensures.either

pub returns-clause-seen : goal.returns-clause-seen
returns-clause-seen c _ = look_seen c.args.self.now.calls.items c.record.new.self.calls.items c.record.ensures.either

pub returns-clause-time : goal.returns-clause-time
returns-clause-time c _ = look_passes c.args.self.now.first c.record.new.self.first c.args.self.now.calls.items c.record.new.self.calls.items c.args.file c.record.ensures.first c.record.ensures.either
