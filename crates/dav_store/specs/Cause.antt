-- Why a call on the store may give up.
use Rattle.std.specs.Prelude.{◌≡◌, ◌≤◌, ℕ, Result, IfErr}
use Rattle.dav_machine.specs.Log.{Rose}
use Rattle.dav_store.specs.declared.fault.StoreFault.{StoreFault}
use Rattle.dav_store.specs.declared.fault.StoreFault.TheVariants.{Disk, NotACache, Damaged, Memory}

-- the disk's count of faults didn't fall, and it rose where the call answered Disk
pub record IsCaused {T : Type 0} (before now : ℕ) (result : Result T StoreFault) : Type 0 where
  pub later : before ≤ now
  pub rose : IfErr result (λ e. e ≡ Disk → Rose before now)

-- the call gave up for its disk alone
abbrev pub OnlyDisk : {T : Type 0} → Result T StoreFault → Type 0
OnlyDisk result = IfErr result (λ e. e ≡ Disk)

-- no body is told to be damaged
abbrev pub IsNoDamage : StoreFault → Type 0
IsNoDamage Disk = Unit {0}
IsNoDamage (NotACache at) = Unit {0}
IsNoDamage (Damaged file stored found) = ⊥
IsNoDamage Memory = Unit {0}
