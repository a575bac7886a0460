use Rattle.std.proofs.Common.{◌≡◌, ℕ, ◌<◌, ◌≤◌, take}
use Rattle.dav_head.specs.Limit.{feeds, IsFree}
use Rattle.dav_head.proofs.limit.free_bytes.Given as goal

-- so many line feeds are in the bytes so far, each of which is within the limit
abbrev pub invariant-loop-i : goal.invariant-loop-i
invariant-loop-i l = record {
  found : l.found ≡ feeds (take l.i l.bytes);
  few : l.found ≤ 130;
  free : (place : ℕ) → place < l.i → IsFree l.before l.bytes place;
}
