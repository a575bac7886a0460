use Rattle.dav_disk.proofs.Recording.{fair_look, fair_now}
use Rattle.dav_disk.proofs.mem_disk.MemDisk.refuse.Goals as goal

pub record-requires : goal.record-requires
record-requires c = fair_look c.args.self.now.calls.items (fair_now c.args.self.now.first c.args.self.now.calls.items c.args.self.now.exact)
