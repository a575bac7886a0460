-- What a stop may leave of the files of a disk, at each moment so far.
use Rattle.std.specs.Prelude.{◌≡◌, ◌⊎◌, ℕ, ◌+◌, ◌<◌, ◌≤◌, max, min, List, [], ◌∷◌, ◌++◌, length, get_or, take, drop, leb, if◌then◌else◌, Result, IsErr, OnOk}
use Rattle.dav_machine.specs.Log.{Rose}
use Rattle.dav_disk.specs.declared.change.Change.{Change}
use Rattle.dav_disk.specs.declared.change.Change.TheVariants.{Span, Tail}

-- What is in doubt of one file: the bytes that its last good sync settled (none before the first), what was
-- touched since then, and the least and the greatest length that it had since then.
pub record Doubt : Type 0 where
  pub synced : List ℕ
  pub changes : List Change
  pub least : ℕ
  pub greatest : ℕ

-- no change touched the byte at this place
abbrev pub IsOutside : ℕ → List Change → Type 0
IsOutside i [] = Unit {0}
IsOutside i (Span from end ∷ changes) = ((i < from) ⊎ (end ≤ i)) × IsOutside i changes
IsOutside i (Tail from ∷ changes) = (i < from) × IsOutside i changes

-- A stop may leave these bytes of the file: a length within the bounds, and each byte that was not touched as the last
-- sync settled it. The others may be anything, each by itself.
pub record IsOutcome (doubt : Doubt) (bytes : List ℕ) : Type 0 where
  pub no_shorter : doubt.least ≤ length bytes
  pub no_longer : length bytes ≤ doubt.greatest
  pub kept : (i : ℕ) → i < length bytes → IsOutside i doubt.changes → get_or bytes i 0 ≡ get_or doubt.synced i 0

-- nothing is in doubt
abbrev pub settled : List ℕ → Doubt
settled bytes = record { synced = bytes; changes = []; least = length bytes; greatest = length bytes }

-- what a write of n bytes touches in a file of this size: its range, or all from its place on where it ends past the
-- old end
abbrev pub touched_by_write : ℕ → ℕ → ℕ → Change
touched_by_write at n size = if leb (at + n) size then Span at (at + n) else Tail at

-- this was touched, and the file may have reached that length
abbrev pub with_change : Change → ℕ → Doubt → Doubt
with_change change end doubt = record { synced = doubt.synced; changes = change ∷ doubt.changes; least = doubt.least; greatest = max doubt.greatest end }

-- after a write of n bytes; one that would end past the greatest u64 touches nothing
abbrev pub after_write : ℕ → ℕ → ℕ → Doubt → Doubt
after_write at n size doubt = if leb (at + n) 18446744073709551615 then with_change (touched_by_write at n size) (at + n) doubt else doubt

-- after a cut to this length
abbrev pub after_cut : ℕ → Doubt → Doubt
after_cut len doubt = record { synced = doubt.synced; changes = Tail len ∷ doubt.changes; least = min doubt.least len; greatest = doubt.greatest }

-- the old bytes with these written over them at a place
abbrev pub overwritten : List ℕ → ℕ → List ℕ → List ℕ
overwritten old at bytes = take at old ++ bytes ++ drop (at + length bytes) old

-- One device call between two moments, on one file, with this doubt after it: what was in doubt at the moments before
-- stays, and the other files stay as they were. Where no moment passed, nothing changed.
pub record Passes (from to : ℕ) (old new : ℕ → ℕ → Doubt) (file : ℕ) (doubt : Doubt) : Type 0 where
  pub later : from ≤ to
  pub before : (k f : ℕ) → k ≤ from → new k f ≡ old k f
  pub others : (k f : ℕ) → from < k → k ≤ to → (f ≡ file → ⊥) → new k f ≡ old from f
  pub here : (k : ℕ) → from < k → k ≤ to → new k file ≡ doubt

-- several calls between two moments, which changed files of F alone
pub record Touches (F : ℕ → Type 0) (from to : ℕ) (old new : ℕ → ℕ → Doubt) : Type 0 where
  pub later : from ≤ to
  pub before : (k f : ℕ) → k ≤ from → new k f ≡ old k f
  pub others : (k f : ℕ) → from ≤ k → k ≤ to → (F f → ⊥) → new k f ≡ old from f

-- what a stop at each moment of a stretch leaves of one file has P
abbrev pub LeavesOnly : (ℕ → ℕ → Doubt) → ℕ → ℕ → ℕ → (List ℕ → Type 0) → Type 0
LeavesOnly past file from to P = (k : ℕ) (bytes : List ℕ) → from ≤ k → k ≤ to → IsOutcome (past k file) bytes → P bytes

-- an image of all files, a missing one being empty: each of them by itself
abbrev pub IsImage : (ℕ → Doubt) → (ℕ → List ℕ) → Type 0
IsImage doubts image = (f : ℕ) → IsOutcome (doubts f) (image f)

-- a stop at some moment from m on, up to now, may have left this image
abbrev pub MightLeave : (ℕ → ℕ → Doubt) → ℕ → ℕ → (ℕ → List ℕ) → Type 0
MightLeave past now m image = (k : ℕ) × (m ≤ k) × (k ≤ now) × IsImage (past k) image

-- the other files read as before
abbrev pub OthersStay : ℕ → (ℕ → List ℕ) → (ℕ → List ℕ) → Type 0
OthersStay file old new = (f : ℕ) → (f ≡ file → ⊥) → new f ≡ old f

-- all files read as before
abbrev pub AllStay : (ℕ → List ℕ) → (ℕ → List ℕ) → Type 0
AllStay old new = (f : ℕ) → new f ≡ old f

-- a device call adds one to the moment, but one that failed may have added nothing
pub record IsCounted {T E : Type 0} (before now : ℕ) (result : Result T E) : Type 0 where
  pub later : before ≤ now
  pub one_more : OnOk result (now ≡ before + 1)
  pub no_more : now ≤ before + 1

-- the count of faults never falls, and a call that failed raised it
pub record HasCause {T E : Type 0} (before now : ℕ) (result : Result T E) : Type 0 where
  pub later : before ≤ now
  pub rose : IsErr result → Rose before now
