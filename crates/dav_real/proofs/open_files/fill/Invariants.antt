use Rattle.std.proofs.Common.{◌≤◌, length}
use Rattle.dav_real.proofs.open_files.fill.Given as goal

abbrev pub invariant-loop : goal.invariant-loop
invariant-loop g l = l.filled ≤ length l.buf
