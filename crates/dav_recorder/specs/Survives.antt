-- What a stop leaves of a desk: the table after a front of its steps.
use Rattle.std.specs.Prelude.{◌≡◌, ◌⊎◌, ℕ, ◌<◌, ◌≤◌, List, [], ◌∷◌, ◌++◌, Option, Some, None}
use Rattle.dav_disk.specs.Disk.{Doubt, IsImage}
use Rattle.dav_index.specs.Items.{Every}
use Rattle.dav_deeds.specs.DeskTable.{DeskTable, reopened}
use Rattle.dav_deeds.specs.Legal.{Legal, table_after}
use Rattle.dav_deeds.specs.declared.deed.Step.{Step}
use Rattle.dav_recorder.specs.Recovers.{Recovers, IsConsistent}
use Rattle.dav_recorder.specs.declared.recorder.Recorder.{Recorder}

-- these steps are the first ones, and each further one came later than that moment
pub record IsFront (m : ℕ) (steps done : List Step) : Type 0 where
  pub rest : List Step
  pub split : steps ≡ done ++ rest
  pub later : Every (λ (s : Step). m < s.moment) rest

-- these are all steps, and the one of which a part is on the disk
abbrev pub HasUnder : Option Step → List Step → List Step → Type 0
HasUnder under steps done = (s : Step) × (under ≡ Some s) × (done ≡ steps ++ s ∷ [])

-- the image recovers to the table after steps among which is each that ended up to that moment
pub record Survives (url : List ℕ) (opening : DeskTable) (steps : List Step) (under : Option Step) (bodies : ℕ → List ℕ) (m : ℕ) (image : ℕ → List ℕ) : Type 0 where
  pub done : List Step
  pub some_of : IsFront m steps done ⊎ HasUnder under steps done
  pub recovers : Recovers url (reopened (table_after opening done)).index bodies image

-- at each moment of a stretch
abbrev pub SurviveAll : (ℕ → ℕ → Doubt) → ℕ → ℕ → List ℕ → DeskTable → List Step → Option Step → (ℕ → List ℕ) → Type 0
SurviveAll past start now url opening steps under bodies =
    (k : ℕ) (image : ℕ → List ℕ) → start ≤ k → k ≤ now → IsImage (past k) image → Survives url opening steps under bodies k image

-- the steps, and the one of which a part is on the disk
abbrev pub with_under : List Step → Option Step → List Step
with_under steps None = steps
with_under steps (Some s) = steps ++ s ∷ []

-- A desk that began with this table at that moment, between two steps: its steps are legal, the table after them is on the
-- disk, and what a stop left since it began is the table after a front of them.
pub record IsLive {D : Type 0} (moment : D → ℕ) (seen : D → ℕ → List ℕ) (past : D → ℕ → ℕ → Doubt) (url : List ℕ) (opening : DeskTable) (start : ℕ) (bodies : ℕ → List ℕ) (desk : Recorder D) : Type 0 where
  pub begun : start ≤ moment desk.disk
  pub legal : Legal opening desk.trace.steps.items
  pub consistent : IsConsistent url (reopened (table_after opening desk.trace.steps.items)).index bodies desk.journal.end (seen desk.disk) (past desk.disk (moment desk.disk))
  pub survive : SurviveAll (past desk.disk) start (moment desk.disk) url opening desk.trace.steps.items None bodies
  pub idle : desk.under ≡ None

-- A desk that the disk stopped.
pub record IsLeft {D : Type 0} (moment : D → ℕ) (past : D → ℕ → ℕ → Doubt) (url : List ℕ) (opening : DeskTable) (start : ℕ) (bodies : ℕ → List ℕ) (desk : Recorder D) : Type 0 where
  pub legal : Legal opening (with_under desk.trace.steps.items desk.under)
  pub survive : SurviveAll (past desk.disk) start (moment desk.disk) url opening desk.trace.steps.items desk.under bodies
