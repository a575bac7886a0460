-- What a planned step changes in the table of a desk.
use Rattle.std.specs.Prelude.{◌≡◌, ℕ, ◌+◌, List, Bool, true, false, Option, Some, None}
use Rattle.dav_index.specs.Ready.{IsReady}
use Rattle.dav_index.specs.Records.{IsRecord}
use Rattle.dav_index.specs.declared.record.Record.{Record}
use Rattle.dav_index.specs.declared.table.Table.{Table}
use Rattle.dav_deeds.specs.declared.answer.Flight.{Flight}
use Rattle.dav_deeds.specs.declared.answer.Told.{Told}
use Rattle.dav_deeds.specs.declared.answer.Told.TheVariants.{Idle}
use Rattle.dav_deeds.specs.declared.ask.Ask.{Ask}
use Rattle.dav_deeds.specs.declared.ask.Who.{Who}
use Rattle.dav_deeds.specs.declared.deed.Deed.{Deed}
use Rattle.dav_deeds.specs.declared.plan.Change.{Change}
use Rattle.dav_deeds.specs.declared.plan.NextJob.{NextJob}
use Rattle.dav_deeds.specs.declared.plan.NextJob.TheVariants.{Same, Taken, Ended}
use Rattle.dav_deeds.specs.declared.plan.Noting.{Noting}
use Rattle.dav_deeds.specs.declared.plan.Planned.{Planned}
use Rattle.dav_deeds.specs.declared.plan.Waits.{Waits}
use Rattle.dav_deeds.specs.Answers.{is_idle, kind_told}
use Rattle.dav_deeds.specs.DeskTable.{DeskTable}
use Rattle.dav_deeds.specs.Effects.{Wait, Effect, after, effect_of}
use Rattle.dav_deeds.specs.Legal.{IsDeed, deed_of}
use Rattle.dav_deeds.specs.Made.{answer_by, row_of}

-- the record can be noted as the next one of the table
pub record CanNote (t : Table) (r : Record) (n : Noting) : Type 0 where
  pub what : n.what ≡ r
  pub is_record : IsRecord r
  pub row : n.row ≡ t.records + 1
  pub ready : IsReady t r n.prepared

-- what is put on record, if anything, can be noted
abbrev pub Notes : Table → Option Record → Option Noting → Type 0
Notes t None None = Unit {0}
Notes t None (Some n) = ⊥
Notes t (Some r) None = ⊥
Notes t (Some r) (Some n) = CanNote t r n

-- how the bytes of a path wait from then on, if that changes
abbrev pub IsWaiting : Option Wait → Option Waits → Type 0
IsWaiting None None = Unit {0}
IsWaiting None (Some w) = ⊥
IsWaiting (Some wait) None = ⊥
IsWaiting (Some wait) (Some w) = (w.path ≡ wait.path) × (w.waiting ≡ wait.waiting)

-- the job in flight, and the number of jobs so far
abbrev pub job_with : Option Flight → NextJob → Option Flight
job_with job Same = job
job_with job (Taken flight) = Some flight
job_with job Ended = None

abbrev pub jobs_with : ℕ → NextJob → ℕ
jobs_with jobs Same = jobs
jobs_with jobs (Taken flight) = flight.number
jobs_with jobs Ended = jobs

-- the change is the one of this effect
pub record IsChange (t : DeskTable) (e : Effect) (c : Change) : Type 0 where
  pub noting : Notes t.index e.on_record c.noting
  pub waits : IsWaiting e.waits c.waits
  pub job : e.job ≡ job_with t.job c.job
  pub jobs : e.jobs ≡ jobs_with t.jobs c.job
  pub stopping : e.stopping ≡ c.stopping

-- the change is one of a deed that an ask may be
pub record CanChange (t : DeskTable) (c : Change) : Type 0 where
  pub now : ℕ
  pub deed : Deed
  pub is_deed : IsDeed t deed
  pub change : IsChange t (effect_of t now deed) c

-- the step with this effect, the row of its record, and its change
pub record IsPlannedBy (t : DeskTable) (who : Who) (now : ℕ) (deed : Deed) (e : Effect) (planned : Planned) (row : List ℕ) : Type 0 where
  pub is_deed : IsDeed t deed
  pub stands : is_idle (kind_told e.told) ≡ false
  pub step : planned.made.step ≡ record { who = who; now = now; deed = deed; mark = e.mark; told = e.told; moment = 0 }
  pub answer : planned.made.answer ≡ answer_by e.mark e.told
  pub released : planned.made.released.items ≡ e.released
  pub row_is : row ≡ row_of e.on_record
  pub change : IsChange t e planned.change

-- the step that the ask is, or nothing where it is a take that finds nothing
abbrev pub IsPlan : DeskTable → Who → ℕ → Ask → Option Planned → List ℕ → Type 0
IsPlan t who now ask None row = ((effect_of t now (deed_of t ask)).told ≡ Some Idle) × (after t now (deed_of t ask) ≡ t)
IsPlan t who now ask (Some planned) row = IsPlannedBy t who now (deed_of t ask) (effect_of t now (deed_of t ask)) planned row
