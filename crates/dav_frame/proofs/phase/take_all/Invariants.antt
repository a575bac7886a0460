use Rattle.std.proofs.Common.{◌≤◌, ◌-◌, length, drop}
use Rattle.dav_frame.specs.Reading.{Leads, IsSound, Counts, bytes_read}
use Rattle.dav_frame.proofs.phase.take_all.Given as goal

-- the phase so far is where the bytes so far lead
abbrev pub invariant-loop-used : goal.invariant-loop-used
invariant-loop-used l = record {
  inside : l.used ≤ length l.piece;
  sound : IsSound l.now;
  counts : Counts (bytes_read l.fn.phase) l.used l.now;
  leads : Leads l.fn.phase l.piece l.now (drop l.used l.piece);
}

abbrev pub decreases-loop-used : goal.decreases-loop-used
decreases-loop-used l = length l.piece - l.used
