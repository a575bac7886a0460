-- What a stop leaves of the bytes closed last, with the requests that a wire tells.
use Rattle.std.specs.Prelude.{◌≡◌, ◌⊎◌, ℕ, List, ◌++◌, Option, Some, None, Contains}
use Rattle.dav_edge.specs.Device.{Happened}
use Rattle.dav_text.specs.Path.{PathParts}
use Rattle.dav_uri.specs.Target.{BaseParts}
use Rattle.dav_store.specs.declared.body_id.BodyId.{BodyId}
use Rattle.dav_index.specs.Tables.{queued_at}
use Rattle.dav_index.specs.declared.lost.LostItem.{LostItem}
use Rattle.dav_index.specs.declared.table.Table.{Table}
use Rattle.dav_deeds.specs.declared.deed.Step.{Step}
use Rattle.dav_deeds.specs.DeskTable.{DeskTable, reopened}
use Rattle.dav_deeds.specs.Legal.{table_after}
use Rattle.dav_deeds.specs.Fate.{Fate, Queued, Sent, Lost, story, IsSentAt, IsLostAs}
use Rattle.dav_recorder.specs.Stands.{IsIn}
use Rattle.dav_recorder.specs.Recovers.{Recovers}
use Rattle.dav_recorder.specs.Survives.{IsFront, HasUnder}
use Rattle.dav_upload.specs.Backs.{HasPut, Backs}

-- the step at this place settled the job that was taken with this very body, and until then the last request on the wire was
-- that of the job: the bytes went whole, with the precondition due as the job was taken, and the server did what was asked
pub record WasSent (base : BaseParts) (bodies : ℕ → List ℕ) (opening : DeskTable) (steps : List Step) (events : List Happened) (path : PathParts) (place : ℕ) (body : BodyId) : Type 0 where
  pub settled : IsSentAt opening steps path place body
  pub until : List Happened
  pub later : List Happened
  pub split : events ≡ until ++ later
  pub put : HasPut base bodies settled.flight until

-- what a table, an image of the disk and the calls of a wire hold of a path whose body closed last has this fate
abbrev pub HasKept : BaseParts → (ℕ → List ℕ) → DeskTable → List Step → List Happened → Table → (ℕ → List ℕ) → PathParts → Option BodyId → Fate → Type 0
HasKept base bodies opening steps events t image path None fate = Unit {0}
HasKept base bodies opening steps events t image path (Some body) Queued = (queued_at path t.entries ≡ Some body) × IsIn bodies image body
HasKept base bodies opening steps events t image path (Some body) (Sent place) = WasSent base bodies opening steps events path place body
HasKept base bodies opening steps events t image path (Some body) (Lost number) = IsLostAs t path number body × IsIn bodies image body

-- the bytes closed last of each path are in the image and queued, or were sent whole, or are in the image and among the lost
-- files; and what was lost before is still there, with its bytes
pub record KeepsBytes (base : BaseParts) (bodies : ℕ → List ℕ) (opening : DeskTable) (steps : List Step) (events : List Happened) (t : Table) (image : ℕ → List ℕ) : Type 0 where
  pub last_close : (path : PathParts) → HasKept base bodies opening steps events t image path (story opening steps path).last (story opening steps path).fate
  pub lost_stays : (item : LostItem) → Contains opening.index.lost item → Contains t.lost item × IsIn bodies image item.body

-- the image recovers to the table after steps among which is each that ended up to that moment, each of these that tells bytes to
-- be sent has its request, and the bytes closed last of each path in them are kept
pub record Outlives (base : BaseParts) (url : List ℕ) (bodies : ℕ → List ℕ) (opening : DeskTable) (steps : List Step) (under : Option Step) (events : List Happened) (m : ℕ) (image : ℕ → List ℕ) : Type 0 where
  pub done : List Step
  pub some_of : IsFront m steps done ⊎ HasUnder under steps done
  pub recovers : Recovers url (reopened (table_after opening done)).index bodies image
  pub backs : Backs base bodies opening done events
  pub kept : KeepsBytes base bodies opening done events (reopened (table_after opening done)).index image
