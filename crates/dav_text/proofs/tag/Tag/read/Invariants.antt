use Rattle.std.proofs.Common.{◌≡◌, ◌≤◌, length, take}
use Rattle.dav_text.proofs.tag.Tag.read.Given as goal

abbrev pub invariant-loop-i : goal.invariant-loop-i
invariant-loop-i l = record { copied : take l.i l.bytes ≡ take l.i l.value; long : length l.bytes ≡ 128 }
