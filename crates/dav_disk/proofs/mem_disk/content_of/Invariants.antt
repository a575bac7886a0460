use Rattle.std.proofs.Common.{◌≡◌, take}
use Rattle.dav_disk.specs.Record.{state_of}
use Rattle.dav_disk.proofs.mem_disk.content_of.Given as goal

abbrev pub invariant-loop-call : goal.invariant-loop-call
invariant-loop-call l = l.seen ≡ (state_of l.file (take l.call-index l.calls)).seen
