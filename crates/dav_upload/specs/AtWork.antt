-- A desk on a disk that keeps the model, with the calls of the uploader's wire behind its steps.
use Rattle.std.specs.Prelude.{◌≡◌, ℕ, ◌≤◌, List, None, Result, Ok, Err}
use Rattle.dav_disk.specs.Disk.{MightLeave}
use Rattle.dav_edge.specs.Device.{Happened, DeviceLog, Grew}
use Rattle.dav_uri.specs.Target.{BaseParts}
use Rattle.dav_deeds.specs.DeskTable.{DeskTable}
use Rattle.dav_recorder.specs.Survives.{with_under}
use Rattle.dav_desk.specs.declared.desk.Desk.{Desk}
use Rattle.dav_upload.specs.declared.did.UploadFault.{UploadFault}
use Rattle.dav_upload.specs.declared.did.UploadFault.TheVariants as faults
use Rattle.dav_upload.specs.Desks.{DiskView, Works, Stops}
use Rattle.dav_upload.specs.Outlives.{Outlives}
use Rattle.dav_upload.specs.Turns.{Backed}

-- the desk works, and since the wire's log was this one each of its steps that tells bytes to be sent has its request on the wire
pub record IsAtWork {D : Type 0} (view : DiskView D) (base : BaseParts) (url : List ℕ) (opening : DeskTable) (start : ℕ) (given : ℕ → List ℕ) (begun wire : DeviceLog) (desk : Desk D) : Type 0 where
  pub idle : opening.job ≡ None
  pub working : Works view url opening start given desk
  pub backed : Backed base given opening desk.recorder.trace.steps.items begun wire

-- the desk was stopped, and the same of its steps and the one under way
pub record IsAtEnd {D : Type 0} (view : DiskView D) (base : BaseParts) (url : List ℕ) (opening : DeskTable) (start : ℕ) (given : ℕ → List ℕ) (begun wire : DeviceLog) (desk : Desk D) : Type 0 where
  pub idle : opening.job ≡ None
  pub left : Stops view url opening start given desk
  pub backed : Backed base given opening (with_under desk.recorder.trace.steps.items desk.recorder.under) begun wire

-- where the desk stands behind turns: it works, unless it is the desk that stopped them
abbrev pub IsAfter : {X D : Type 0} → Result X UploadFault → DiskView D → BaseParts → List ℕ → DeskTable → ℕ → (ℕ → List ℕ) → DeviceLog → DeviceLog → Desk D → Type 0
IsAfter (Ok x) view base url opening start given begun wire desk = IsAtWork view base url opening start given begun wire desk
IsAfter (Err (faults.Desk fault)) view base url opening start given begun wire desk = IsAtEnd view base url opening start given begun wire desk
IsAfter (Err faults.Memory) view base url opening start given begun wire desk = IsAtWork view base url opening start given begun wire desk

-- for every moment since the desk began, and every image that a stop may have left from it on, the bytes closed last of each path
-- are in the image, or were sent whole by the wire's calls
pub record AllOutlive {D : Type 0} (view : DiskView D) (base : BaseParts) (url : List ℕ) (opening : DeskTable) (start : ℕ) (given : ℕ → List ℕ) (begun wire : DeviceLog) (desk : Desk D) : Type 0 where
  pub events : List Happened
  pub grew : Grew begun wire events
  pub each : (m : ℕ) (image : ℕ → List ℕ) → start ≤ m → MightLeave (view.past desk.recorder.disk) (view.moment desk.recorder.disk) m image
      → Outlives base url given opening desk.recorder.trace.steps.items desk.recorder.under events m image
