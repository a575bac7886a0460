use Rattle.std.proofs.Common.{◌≡◌, ◌<◌, ℕ, length}
use Rattle.dav_disk.specs.Image.{IsPicked}
use Rattle.dav_disk.specs.Record.{state_of}
use Rattle.dav_disk.proofs.image.picked.Given as goal

abbrev pub invariant-loop-i : goal.invariant-loop-i
invariant-loop-i l = record {
  long : length l.bytes.items ≡ l.i;
  each : (k : ℕ) → k < l.i → IsPicked (state_of l.file l.calls) l.synced l.wish l.bytes.items k;
}
