-- The one clause of the code of a whole run.
use Rattle.std.specs.Prelude.{◌≡◌, ◌⊎◌, ℕ, List, [], Bool, false, Option, None, Err}
use Rattle.dav_machine.specs.Log.{any_failed}
use Rattle.dav_machine.specs.Machine.{Does}
use Rattle.dav_edge.specs.Device.{Happened, DeviceLog, Grew, given, is_failure}
use Rattle.dav_deeds.specs.declared.deed.Step.{Step}
use Rattle.dav_deeds.specs.declared.fault.DeskFault.{DeskFault}
use Rattle.dav_deeds.specs.declared.fault.DeskFault.TheVariants.{Memory}
use Rattle.dav_uri.specs.Target.{BaseParts}
use Rattle.dav_desk.specs.declared.desk.Desk.{Desk}
use Rattle.dav_upload.specs.Desks.{DiskView}
use Rattle.dav_run.specs.declared.ended.Ended.{Ended}
use Rattle.dav_run.specs.declared.ended.Status.{Status}
use Rattle.dav_run.specs.Words.{IsBase}
use Rattle.dav_run.specs.Devices.{Made, all, AllGrew}
use Rattle.dav_run.specs.Kept.{EndHeard}
use Rattle.dav_run.specs.Opening.{HasStarted, HasNotStarted}
use Rattle.dav_run.specs.Run.{Ending, Opened, Runs, RunsFrom, RunsOn}
use Rattle.dav_run.specs.Shell.{State}

-- how a run ends, without the steps
abbrev pub end_of : Status → Ended → Ending
end_of status ended = record { status = status; lost = ended.lost; starved = ended.starved; done = ended.done }

-- What the source gave, and a run behind it over a desk, from this state on.
pub record RanOn {D : Type 0} (view : DiskView D) (base : BaseParts) (source_old source_new out_old out_new up_old up_new : DeviceLog) (desk_old desk_new : Desk D) (before : State) (end : Ending) : Type 0 where
  pub heard : List Happened
  pub gave : Grew source_old source_new heard
  pub ended : EndHeard end.status heard
  pub does : Does all (AllGrew view out_old out_new up_old up_new desk_old desk_new) (RunsFrom base (given heard) (any_failed is_failure heard) before) end

-- calls came on top of the log of the sink, and nothing else was called
pub record SinkGrew (old new : DeviceLog) (made : Made) : Type 0 where
  pub out : Grew old new made.out
  pub up : made.up ≡ []
  pub desk : made.desk ≡ []

-- A desk was started over the disk, the run went on over it, and it left this.
pub record Started {D : Type 0} (view : DiskView D) (words : List (List ℕ)) (bytes : List ℕ) (failed : Bool) (out_old out_new up_old up_new : DeviceLog) (disk_old disk_new : D) (steps : List Step) (under : Option Step) (end : Ending) : Type 0 where
  pub base : BaseParts
  pub named : IsBase words base
  pub first : Desk D
  pub last : Desk D
  pub start : HasStarted view base.text disk_old first
  pub disk : disk_new ≡ last.recorder.disk
  pub steps_are : steps ≡ last.recorder.trace.steps.items
  pub under_is : under ≡ last.recorder.under
  pub does : Does all (AllGrew view out_old out_new up_old up_new first last) (RunsOn base first.table bytes failed) end

-- how it went where no desk was started: for want of memory or of a base the disk was not called, or the start was refused
pub data Unstarted {D : Type 0} (view : DiskView D) (words : List (List ℕ)) (disk_old disk_new : D) : Opened → Type 0 where
  uncalled : disk_new ≡ disk_old → Unstarted view words disk_old disk_new (Err Memory)
  refused : (base : BaseParts) (fault : DeskFault) → IsBase words base → HasNotStarted view base.text disk_old disk_new fault → Unstarted view words disk_old disk_new (Err fault)

-- No desk was started; nothing but the sink was called.
pub record NotStarted {D : Type 0} (view : DiskView D) (words : List (List ℕ)) (out_old out_new up_old up_new : DeviceLog) (disk_old disk_new : D) (steps : List Step) (under : Option Step) (end : Ending) : Type 0 where
  pub opened : Opened
  pub start : Unstarted view words disk_old disk_new opened
  pub steps_are : steps ≡ []
  pub under_is : under ≡ None
  pub wire : up_new ≡ up_old
  pub does : Does all (SinkGrew out_old out_new) (Runs words [] false opened) end

-- What the source gave, and a run over it.
pub record Ran {D : Type 0} (view : DiskView D) (words : List (List ℕ)) (source_old source_new out_old out_new up_old up_new : DeviceLog) (disk_old disk_new : D) (steps : List Step) (under : Option Step) (end : Ending) : Type 0 where
  pub heard : List Happened
  pub gave : Grew source_old source_new heard
  pub ended : EndHeard end.status heard
  pub does : Started view words (given heard) (any_failed is_failure heard) out_old out_new up_old up_new disk_old disk_new steps under end
      ⊎ ((heard ≡ []) × NotStarted view words out_old out_new up_old up_new disk_old disk_new steps under end)
