-- The real devices, as far as std tells what a reader still holds and what a writer has taken.
use Rattle.std.specs.Prelude.{◌≡◌, ℕ, Option, None, Some}
use Rattle.dav_edge.specs.Device.{DeviceLog}

-- the log of a device that tells no call, and counts its faults
abbrev pub quiet : ℕ → DeviceLog
quiet faults = record { told = None; faults = faults }

-- What a call does to the connection that stands, if one does: it goes on standing, and this holds of it
-- before and after. Where none stands none does afterwards.
abbrev pub Stands : {S : Type 0} → (S → S → Type 0) → Option S → Option S → Type 0
Stands Does None now = now ≡ None
Stands Does (Some before) None = ⊥
Stands Does (Some before) (Some now) = Does before now
