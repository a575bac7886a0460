-- The bytes of a line that has begun, as far as they are kept.
use Rattle.std.specs.Prelude.{◌≡◌, ◌<◌, ℕ, List, length}
use Rattle.dav_run.specs.declared.pending.Fits.{Fits}
use Rattle.dav_run.specs.declared.pending.Fits.TheVariants.{Whole, TooLong, NoMemory}
use Rattle.dav_run.specs.declared.pending.Pending.{Pending}
use Rattle.dav_run.specs.declared.pending.TheConstants.{LINE_LIMIT}

abbrev pub HoldsAs : Fits → List ℕ → List ℕ → Type 0
HoldsAs Whole bytes line = bytes ≡ line
HoldsAs TooLong bytes line = LINE_LIMIT < length line
HoldsAs NoMemory bytes line = 0 < length line

-- these are the bytes of the line, or the line is longer than a command can be, or there was want of memory
abbrev pub Holds : Pending → List ℕ → Type 0
Holds pending line = HoldsAs pending.fits pending.bytes.items line
