-- What a stop at any moment of a run leaves.
use Rattle.std.specs.Prelude.{◌≡◌, ◌⊎◌, ◌≤◌, ◌<◌, ℕ, List, [], ◌∷◌, ◌++◌, map, length, Option}
use Rattle.dav_disk.specs.Disk.{Doubt, MightLeave}
use Rattle.dav_edge.specs.Device.{Happened, DeviceLog, Grew, given as bytes_given}
use Rattle.dav_text.specs.Path.{PathParts}
use Rattle.dav_recorder.specs.Opening.{IsFetchFault, IsStartFault, IsIndexOf}
use Rattle.dav_recorder.specs.Survives.{with_under}
use Rattle.dav_deeds.specs.DeskTable.{started}
use Rattle.dav_store.specs.declared.body_id.BodyId.{BodyId}
use Rattle.dav_deeds.specs.declared.deed.Step.{Step}
use Rattle.dav_deeds.specs.declared.fault.DeskFault.{DeskFault}
use Rattle.dav_index.specs.declared.table.Table.{Table}
use Rattle.dav_uri.specs.Target.{BaseParts}
use Rattle.dav_upload.specs.Outlives.{Outlives}
use Rattle.dav_run.specs.declared.ended.Status.{Status}
use Rattle.dav_run.specs.declared.ended.Status.TheVariants.{Done, Faults, Input, Output}
use Rattle.dav_run.specs.Words.{IsBase}
use Rattle.dav_run.specs.Line.{lines_of}
use Rattle.dav_run.specs.Kept.{Told, line_of, IsClose, IsStoreOf, closings}

-- the bytes of the line that the step is of are those in the file of its body
pub record HasItsBytes (bodies : ℕ → List ℕ) (told : Told) (s : Step) : Type 0 where
  pub is : IsStoreOf told s
  pub bytes : bodies is.file ≡ is.bytes

-- Each of these steps is of a line of its own, in the order of the lines, with the bytes of the line in the file of its body; and each line
-- that was answered `closed` has one.
abbrev pub BytesAre : (ℕ → List ℕ) → List Told → List Step → Type 0
BytesAre bodies [] steps = steps ≡ []
BytesAre bodies (told ∷ more) steps =
    (((path : PathParts) (bytes : List ℕ) → IsClose told path bytes → ⊥) × BytesAre bodies more steps)
    ⊎ ((s : Step) × (rest : List Step) × (steps ≡ s ∷ rest) × HasItsBytes bodies told s × BytesAre bodies more rest)

-- The disk's images each recovered to one table before the run, with these bytes in the files of its bodies. The lines of the input that were
-- carried out closed paths in the order of the steps, each with its own bytes in a new file. For each moment since the disk was given, and each
-- image that a stop may have left from it on: it recovers to the table after a front of the steps that has each one that ended up to then,
-- or to that after all and the step under way; and the bytes closed last of each path are queued, or were sent whole with the
-- precondition that was due as they were taken, and a reply said that the server did what was asked, or they are lost.
pub record Headline (source_old source_new up_old up_new : DeviceLog) (past : ℕ → ℕ → Doubt) (start now : ℕ) (base : BaseParts) (table : Table) (given : ℕ → List ℕ) (steps : List Step) (under : Option Step) : Type 0 where
  pub heard : List Happened
  pub gave : Grew source_old source_new heard
  pub told : List Told
  pub rest : List (List ℕ)
  pub lines : lines_of (bytes_given heard) ≡ map line_of told ++ rest
  pub bodies : ℕ → List ℕ
  pub before : (file : ℕ) → file < table.next_file → bodies file ≡ given file
  pub stores : BytesAre bodies told (closings (with_under steps under))
  pub events : List Happened
  pub wire : Grew up_old up_new events
  pub always : (m : ℕ) (image : ℕ → List ℕ) → start ≤ m → MightLeave past now m image → Outlives base base.text bodies (started table) steps under events m image

-- the bytes of a body that was to be sent were found to be others
pub record IsDamage (honest : Type 0) (seen : ℕ → List ℕ) (before now : ℕ) (fault : DeskFault) : Type 0 where
  pub body : BodyId
  pub cause : IsFetchFault honest body (seen body.file) before now fault

-- why there was no cache for a run with these words: its index is none for the base, or a body is damaged
abbrev pub IsCacheCause : Type 0 → List (List ℕ) → (ℕ → List ℕ) → (ℕ → List ℕ) → ℕ → ℕ → DeskFault → Type 0
IsCacheCause honest words seen seen_now before now fault =
    ((base : BaseParts) × IsBase words base × IsStartFault honest base.text (seen 0) before now fault) ⊎ IsDamage honest seen_now before now fault

-- at these statuses the index was one of the base's URL
abbrev pub IsGoing : Status → Type 0
IsGoing status = (status ≡ Done) ⊎ ((status ≡ Faults) ⊎ ((status ≡ Input) ⊎ (status ≡ Output)))

abbrev pub HasIndex : List (List ℕ) → List ℕ → Type 0
HasIndex words file = (base : BaseParts) → IsBase words base → (table : Table) × ((length file < 1099511627776) × IsIndexOf base.text table file)
