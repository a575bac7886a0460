-- Which files of a disk calls change, and what they hold then.
use Rattle.std.specs.Prelude.{◌≡◌, ℕ, List, [], Option}
use Rattle.std.specs.List.{All, Contains}
use Rattle.dav_disk.specs.Disk.{Doubt, Touches, settled}
use Rattle.dav_recorder.specs.Stands.{IsFile}

-- all files but those of F read as before
abbrev pub RestStays : (ℕ → Type 0) → (ℕ → List ℕ) → (ℕ → List ℕ) → Type 0
RestStays F old new = (f : ℕ) → (F f → ⊥) → new f ≡ old f

-- from one state of a disk to another files of F alone changed: the others read as before, and a stop left of them what it left before
pub record ChangesOnly {D : Type 0} (moment : D → ℕ) (seen : D → ℕ → List ℕ) (past : D → ℕ → ℕ → Doubt) (F : ℕ → Type 0) (old new : D) : Type 0 where
  pub touches : Touches F (moment old) (moment new) (past old) (past new)
  pub others : RestStays F (seen old) (seen new)

-- the file has these bytes, and a stop leaves them
abbrev pub Holds : List ℕ → (ℕ → List ℕ) → (ℕ → Doubt) → ℕ → Type 0
Holds bytes seen doubts f = (seen f ≡ bytes) × (doubts f ≡ settled bytes)

-- the files are empty, and a stop leaves them so
abbrev pub AreEmpty : List ℕ → (ℕ → List ℕ) → (ℕ → Doubt) → Type 0
AreEmpty freed seen doubts = All (Holds [] seen doubts) freed

-- the file of a new body, if there is one, has its bytes, unless it is one of those that are emptied
abbrev pub IsStored : Option ℕ → List ℕ → List ℕ → (ℕ → List ℕ) → (ℕ → Doubt) → Type 0
IsStored fresh bytes freed seen doubts = (f : ℕ) → IsFile fresh f → (Contains freed f → ⊥) → Holds bytes seen doubts f
