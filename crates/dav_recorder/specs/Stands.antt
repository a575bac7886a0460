-- The rows of an index with the bodies that they name, and the images that hold both.
use Rattle.std.specs.Prelude.{◌≡◌, ◌⊎◌, ℕ, ◌≤◌, List, take, Option, Some, None}
use Rattle.std.specs.List.{Contains}
use Rattle.dav_disk.specs.Disk.{Doubt, IsOutcome, IsImage}
use Rattle.dav_store.specs.Body.{id_of}
use Rattle.dav_store.specs.Rows.{Spells, IsAtRest}
use Rattle.dav_store.specs.declared.body_id.BodyId.{BodyId}

-- each body that the list holds has this property
abbrev pub EachBody : List BodyId → (BodyId → Type 0) → Type 0
EachBody holds P = (id : BodyId) → Contains holds id → P id

-- the bytes given for its file have the body's length and SHA-256
abbrev pub IsGiven : (ℕ → List ℕ) → BodyId → Type 0
IsGiven bodies id = id ≡ id_of id.file (bodies id.file)

-- in the image the body's file begins with the bytes given for it
abbrev pub IsIn : (ℕ → List ℕ) → (ℕ → List ℕ) → BodyId → Type 0
IsIn bodies image id = IsGiven bodies id × (take id.len (image id.file) ≡ bodies id.file)

-- whatever a stop leaves of its file begins with the bytes given for it
pub record IsHeld (bodies : ℕ → List ℕ) (doubts : ℕ → Doubt) (id : BodyId) : Type 0 where
  pub is_body : IsGiven bodies id
  pub apart : 2 ≤ id.file
  pub begins : (c : List ℕ) → IsOutcome (doubts id.file) c → take id.len c ≡ bodies id.file

-- the image has these rows, and each of these bodies
pub record Stands (rows : List (List ℕ)) (holds : List BodyId) (bodies : ℕ → List ℕ) (image : ℕ → List ℕ) : Type 0 where
  pub index : Spells rows (image 0)
  pub kept : EachBody holds (IsIn bodies image)

-- all of it is on the disk
pub record IsSafe (rows : List (List ℕ)) (holds : List BodyId) (bodies : ℕ → List ℕ) (end : ℕ) (seen : ℕ → List ℕ) (doubts : ℕ → Doubt) : Type 0 where
  pub index : IsAtRest rows end (seen 0) (doubts 0)
  pub kept : EachBody holds (IsHeld bodies doubts)

-- every image that a stop at a moment of a stretch may leave has this property
abbrev pub EachImage : (ℕ → ℕ → Doubt) → ℕ → ℕ → ((ℕ → List ℕ) → Type 0) → Type 0
EachImage past from to P = (k : ℕ) (image : ℕ → List ℕ) → from ≤ k → k ≤ to → IsImage (past k) image → P image

-- the image has the rows and the bodies from before, or those from after
abbrev pub StandsEither : List (List ℕ) → List BodyId → List (List ℕ) → List BodyId → (ℕ → List ℕ) → (ℕ → List ℕ) → Type 0
StandsEither rows holds rows_after holds_after bodies image = Stands rows holds bodies image ⊎ Stands rows_after holds_after bodies image

-- there is such a file, and it is this one
abbrev pub IsFile : Option ℕ → ℕ → Type 0
IsFile None f = ⊥
IsFile (Some file) f = f ≡ file

-- the index, the file of a new body, or one that is emptied
abbrev pub IsWritten : Option ℕ → List ℕ → ℕ → Type 0
IsWritten fresh freed f = (f ≡ 0) ⊎ (IsFile fresh f ⊎ Contains freed f)

-- no body of the list is kept in one of these files
abbrev pub Spares : List ℕ → List BodyId → Type 0
Spares freed holds = EachBody holds (λ id. Contains freed id.file → ⊥)

-- What a new row and a new body add. The file for the new body is that of none from before, and its bytes are the ones given
-- for that file; a body from after is one from before, or the new one.
pub record IsAdding (holds holds_after : List BodyId) (bodies : ℕ → List ℕ) (fresh : Option ℕ) (bytes : List ℕ) : Type 0 where
  pub given : (f : ℕ) → IsFile fresh f → bodies f ≡ bytes
  pub apart : EachBody holds (λ id. IsFile fresh id.file → ⊥)
  pub named : EachBody holds_after (λ id. Contains holds id ⊎ (IsFile fresh id.file × (id ≡ id_of id.file bytes)))

-- the same, and files are emptied that are none of a body from after
pub record IsCommit (holds holds_after : List BodyId) (bodies : ℕ → List ℕ) (fresh : Option ℕ) (bytes : List ℕ) (freed : List ℕ) : Type 0 where
  pub adding : IsAdding holds holds_after bodies fresh bytes
  pub spared : Spares freed holds_after
