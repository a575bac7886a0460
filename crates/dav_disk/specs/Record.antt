-- What the record of a disk in memory says of its files.
use Rattle.std.specs.Prelude.{ℕ, ◌+◌, ◌-◌, ◌<◌, List, [], ◌∷◌, length, take, Bool, true, false, if◌then◌else◌, ◌==◌}
use Rattle.dav_disk.specs.Disk.{Doubt, IsOutcome, settled, with_change, after_cut}
use Rattle.dav_disk.specs.declared.call.Call.{Call}
use Rattle.dav_disk.specs.declared.call.Call.TheVariants.{Look, Write, Cut, Sync}

-- what a read gives of a file, and what is in doubt of it
pub record FileState : Type 0 where
  pub seen : List ℕ
  pub doubt : Doubt

abbrev pub missing : FileState
missing = record { seen = []; doubt = settled [] }

-- after a call on this very file; a call that failed holds what stood there before it
abbrev pub after_call : Call → FileState → FileState
after_call Look s = s
after_call (Write file change end next) s = record { seen = next.items; doubt = with_change change end s.doubt }
after_call (Cut file len next) s = record { seen = next.items; doubt = after_cut len s.doubt }
after_call (Sync file true) s = record { seen = s.seen; doubt = settled s.seen }
after_call (Sync file false) s = s

-- the call is on that file
abbrev pub is_on : ℕ → Call → Bool
is_on f Look = false
is_on f (Write file change end next) = file == f
is_on f (Cut file len next) = file == f
is_on f (Sync file done) = file == f

abbrev pub stepped : ℕ → Call → FileState → FileState
stepped f call s = if is_on f call then after_call call s else s

abbrev pub run_from : ℕ → FileState → List Call → FileState
run_from f s [] = s
run_from f s (call ∷ calls) = run_from f (stepped f call s) calls

-- a file after these calls
abbrev pub state_of : ℕ → List Call → FileState
state_of f calls = run_from f missing calls

abbrev pub seen_of : List Call → ℕ → List ℕ
seen_of calls f = (state_of f calls).seen

-- what was in doubt at a moment, where the record begins at another
abbrev pub past_of : ℕ → List Call → ℕ → ℕ → Doubt
past_of first calls k f = (state_of f (take (k - first) calls)).doubt

-- what stands in each file is one of the outcomes of a stop
pub record IsFair (calls : List Call) : Type 0 where
  pub reads : (f : ℕ) → IsOutcome (state_of f calls).doubt (state_of f calls).seen
  pub fits : (f : ℕ) → length (state_of f calls).seen < 18446744073709551616

-- at each moment so far
pub record IsRecord (first : ℕ) (calls : List Call) : Type 0 where
  pub each : (k : ℕ) → IsFair (take k calls)
  pub reads : (f : ℕ) → IsOutcome (past_of first calls (first + length calls) f) (seen_of calls f)
  pub fits : (f : ℕ) → length (seen_of calls f) < 18446744073709551616
  pub counted : first + length calls < 18446744073709551616
