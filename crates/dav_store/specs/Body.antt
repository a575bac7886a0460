-- Bodies, and what becomes of a damaged one.
use Rattle.std.specs.Prelude.{◌≡◌, ◌≢◌, ℕ, ◌≤◌, List, length, take}
use Rattle.sha2.specs.Sha256.{sha256}
use Rattle.dav_store.specs.declared.body_id.BodyId.{BodyId}
use Rattle.dav_store.specs.declared.fault.StoreFault.{StoreFault}
use Rattle.dav_store.specs.declared.fault.StoreFault.TheVariants.{Disk, NotACache, Damaged, Memory}

-- these bytes as a body in that file
abbrev pub id_of : ℕ → List ℕ → BodyId
id_of file bytes = record { file = file; len = length bytes; sum = sha256 bytes }

-- found is the SHA-256 of the bytes that were read of the body, which are the first of its file where the disk is honest
pub record IsSumOf (honest : Type 0) (id : BodyId) (file : List ℕ) (found : List ℕ) : Type 0 where
  pub bytes : List ℕ
  pub no_longer : length bytes ≤ id.len
  pub is_sum : found ≡ sha256 bytes
  pub first : honest → bytes ≡ take id.len file

-- a fetch of a body of this file may answer that fault: Damaged only where the sums differ, and then with both
abbrev pub IsDamage : Type 0 → BodyId → List ℕ → StoreFault → Type 0
IsDamage honest id bytes Disk = Unit {0}
IsDamage honest id bytes (NotACache at) = ⊥
IsDamage honest id bytes (Damaged file stored found) = (file ≡ id.file) × (stored ≡ id.sum) × (found ≢ stored) × IsSumOf honest id bytes found
IsDamage honest id bytes Memory = Unit {0}
