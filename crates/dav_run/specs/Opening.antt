-- How the desk of a run starts, and why there is none.
use Rattle.std.specs.Prelude.{◌≡◌, ◌≤◌, ◌<◌, ℕ, List, [], length, None}
use Rattle.dav_recorder.specs.Opening.{IsIndexOf, IsStartFault}
use Rattle.dav_recorder.specs.Recovers.{Recovers, AllRecover}
use Rattle.dav_recorder.specs.Stands.{EachImage}
use Rattle.dav_deeds.specs.DeskTable.{started}
use Rattle.dav_deeds.specs.Sound.{IsSound}
use Rattle.dav_deeds.specs.declared.fault.DeskFault.{DeskFault}
use Rattle.dav_index.specs.declared.table.Table.{Table}
use Rattle.dav_desk.specs.declared.desk.Desk.{Desk}
use Rattle.dav_upload.specs.Desks.{DiskView, Works}

-- A desk that has started over the disk for this URL. Its table is the one that the disk's index spells; where each image recovers to one
-- table, it is that one, and the desk works.
pub record HasStarted {D : Type 0} (view : DiskView D) (url : List ℕ) (disk : D) (first : Desk D) : Type 0 where
  pub table : first.table ≡ started first.table.index
  pub sound : IsSound first.table
  pub steps : first.recorder.trace.steps.items ≡ []
  pub under : first.recorder.under ≡ None
  pub dead : first.recorder.dead ≡ None
  pub no_fewer : view.faults disk ≤ view.faults first.recorder.disk
  pub keeps : view.honest first.recorder.disk → view.honest disk
  pub opened : view.honest first.recorder.disk → (length (view.seen disk 0) < 1099511627776) × IsIndexOf url first.table.index (view.seen disk 0)
  pub works : view.honest first.recorder.disk → (table : Table) (given : ℕ → List ℕ) → AllRecover url table given (view.past disk (view.moment disk))
      → (first.table ≡ started table) × Works view url (started table) (view.moment disk) given first

-- A desk that has not started, and why. Where each image recovered to one table, each since then does.
pub record HasNotStarted {D : Type 0} (view : DiskView D) (url : List ℕ) (disk now : D) (fault : DeskFault) : Type 0 where
  pub cause : IsStartFault (view.honest now) url (view.seen disk 0) (view.faults disk) (view.faults now) fault
  pub no_fewer : view.faults disk ≤ view.faults now
  pub keeps : view.honest now → view.honest disk
  pub recover : view.honest now → (table : Table) (given : ℕ → List ℕ) → AllRecover url table given (view.past disk (view.moment disk))
      → EachImage (view.past now) (view.moment disk) (view.moment now) (Recovers url table given)
