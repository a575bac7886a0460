-- The device calls on a folder of numbered files with their answers, and what they make of what the files held.
use Rattle.std.specs.Prelude.{◌≡◌, ℕ, ◌+◌, ◌-◌, ◌<◌, Bool, true, ◌&&◌, if◌then◌else◌, ◌==◌, leb, List, [], ◌∷◌, length, take, drop}
use Rattle.dav_disk.specs.Disk.{Doubt, IsOutcome, settled, after_write, after_cut, overwritten}
use Rattle.dav_disk.specs.Record.{FileState}

-- A call with its answer: of which file, what was asked, and whether it went. A size has the length that came; a read its
-- place, the room for bytes and those that came; a write its place, and its bytes last; a cut its length.
pub data Event : Type 0 where
  measured : ℕ → Bool → ℕ → Event
  gave : ℕ → ℕ → ℕ → Bool → List ℕ → Event
  wrote : ℕ → ℕ → Bool → List ℕ → Event
  shortened : ℕ → ℕ → Bool → Event
  flushed : ℕ → Bool → Event

abbrev pub file_of : Event → ℕ
file_of (measured file went size) = file
file_of (gave file at room went bytes) = file
file_of (wrote file at went bytes) = file
file_of (shortened file len went) = file
file_of (flushed file went) = file

-- the model takes a write of n bytes that begins within the file and ends below 2^64
abbrev pub is_taken : ℕ → ℕ → ℕ → Bool
is_taken at n size = leb at size && leb (at + n) 18446744073709551615

-- What a call makes of its file. One that failed leaves what a read gives, and so does a write that the model does not
-- take; a write and a cut that failed leave in doubt what they might have touched, and a sync that failed settles nothing.
abbrev pub after_event : Event → FileState → FileState
after_event (measured file went size) s = s
after_event (gave file at room went bytes) s = s
after_event (wrote file at went bytes) s = record { seen = if went && is_taken at (length bytes) (length s.seen) then overwritten s.seen at bytes else s.seen; doubt = after_write at (length bytes) (length s.seen) s.doubt }
after_event (shortened file len went) s = record { seen = if went then take len s.seen else s.seen; doubt = after_cut len s.doubt }
after_event (flushed file went) s = record { seen = s.seen; doubt = if went then settled s.seen else s.doubt }

-- a file after these calls, of which the newest comes first
abbrev pub state_of : (ℕ → FileState) → ℕ → List Event → FileState
state_of start f [] = start f
state_of start f (event ∷ earlier) = if file_of event == f then after_event event (state_of start f earlier) else state_of start f earlier

abbrev pub seen_of : (ℕ → FileState) → List Event → ℕ → List ℕ
seen_of start history f = (state_of start f history).seen

-- what was in doubt when there had been k calls
abbrev pub past_of : (ℕ → FileState) → List Event → ℕ → ℕ → Doubt
past_of start history k f = (state_of start f (drop (length history - k) history)).doubt

-- what stands in a file is one of the outcomes of a stop, and no longer than the greatest u64
pub record IsSound (s : FileState) : Type 0 where
  pub reads : IsOutcome s.doubt s.seen
  pub fits : length s.seen < 18446744073709551616

-- The answer is the model's, where a read gives these bytes of the file: a size and a read that went gave what stands
-- there. A write, a cut and a sync are taken at their word.
abbrev pub Agrees : Event → List ℕ → Type 0
Agrees (measured file went size) seen = went ≡ true → size ≡ length seen
Agrees (gave file at room went bytes) seen = went ≡ true → bytes ≡ take room (drop at seen)
Agrees (wrote file at went bytes) seen = Unit {0}
Agrees (shortened file len went) seen = Unit {0}
Agrees (flushed file went) seen = Unit {0}

-- Each answer so far is that of a folder whose files held this at the start.
abbrev pub IsHonest : (ℕ → FileState) → List Event → Type 0
IsHonest start [] = (f : ℕ) → IsSound (start f)
IsHonest start (event ∷ earlier) = Agrees event (seen_of start earlier (file_of event)) × IsHonest start earlier

-- each file is sound after these calls
pub record IsSoundNow (start : ℕ → FileState) (history : List Event) : Type 0 where
  pub reads : (f : ℕ) → IsOutcome (past_of start history (length history) f) (seen_of start history f)
  pub fits : (f : ℕ) → length (seen_of start history f) < 18446744073709551616
