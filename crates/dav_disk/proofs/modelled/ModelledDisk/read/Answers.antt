use Rattle.dav_disk.proofs.Replay.{read_count, read_bytes}
use Rattle.dav_disk.proofs.modelled.ModelledDisk.read.Goals as goal

pub returns-clause-count : goal.returns-clause-count
returns-clause-count g c honest =
    let read = c.read-answer in
    rw c.counted-2.ensures.same (read_count g.S.Start.files c.args.file (g.C.Calls.history c.args.self.now.calls) (g.C.Calls.history read.new.self) c.args.at c.args.buf.now read.new.buf read.auto.buf honest read.result read.ensures.within read.ensures.noted)

pub returns-clause-bytes : goal.returns-clause-bytes
returns-clause-bytes g c honest =
    let read = c.read-answer in
    rw c.counted-2.ensures.same (read_bytes g.S.Start.files c.args.file (g.C.Calls.history c.args.self.now.calls) (g.C.Calls.history read.new.self) c.args.at c.args.buf.now read.new.buf read.auto.buf honest read.result read.ensures.within read.ensures.rest read.ensures.noted)
