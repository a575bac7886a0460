-- What the code of a step gives.
use Rattle.std.specs.Prelude.{◌≡◌, ℕ, Bool, true, List, [], Option, Some, None, Result, Ok, Err, if◌then◌else◌}
use Rattle.dav_text.specs.Path.{PathParts}
use Rattle.dav_store.specs.declared.body_id.BodyId.{BodyId}
use Rattle.dav_index.specs.Item.{Item}
use Rattle.dav_index.specs.Items.{goes_with}
use Rattle.dav_index.specs.Records.{IsRecord, text_of}
use Rattle.dav_index.specs.declared.record.Record.{Record}
use Rattle.dav_index.specs.declared.table.Table.{Table}
use Rattle.dav_deeds.specs.declared.answer.Fated.{Fated}
use Rattle.dav_deeds.specs.declared.answer.Fated.TheVariants.{Clean, Superseded, Waits, Lost}
use Rattle.dav_deeds.specs.declared.answer.Flight.{Flight}
use Rattle.dav_deeds.specs.declared.answer.Told.{Told}
use Rattle.dav_deeds.specs.declared.answer.Told.TheVariants.{Idle}
use Rattle.dav_deeds.specs.declared.ask.Ask.{Ask}
use Rattle.dav_deeds.specs.declared.ask.Who.{Who}
use Rattle.dav_deeds.specs.declared.deed.Deed.{Deed}
use Rattle.dav_deeds.specs.declared.deed.Mark.{Mark}
use Rattle.dav_deeds.specs.declared.deed.Mark.TheVariants as marks
use Rattle.dav_deeds.specs.declared.fault.DeskFault.{DeskFault}
use Rattle.dav_deeds.specs.declared.fault.DeskFault.TheVariants.{Memory}
use Rattle.dav_deeds.specs.declared.made.Made.{Made}
use Rattle.dav_deeds.specs.DeskTable.{DeskTable}
use Rattle.dav_deeds.specs.Effects.{Wait, Effect, is_flying, waiting_at, changed, effect_of}
use Rattle.dav_deeds.specs.Legal.{deed_of}

-- the answer, or why the deed was refused
abbrev pub fault_by : Mark → DeskFault
fault_by (marks.Refused fault) = fault
fault_by mark = Memory

abbrev pub answer_by : Mark → Option Told → Result Told DeskFault
answer_by mark (Some told) = Ok told
answer_by mark None = Err (fault_by mark)

-- the row of a record, and no bytes where there is none
abbrev pub row_of : Option Record → List ℕ
row_of None = []
row_of (Some r) = text_of r

-- what is to be put on record is a record
abbrev pub AreRecords : Option Record → Type 0
AreRecords None = Unit {0}
AreRecords (Some r) = IsRecord r

-- the bytes of the job count as tried, where the desk is about to end
abbrev pub tried_by : Bool → Table → Flight → Option Wait
tried_by stopping index flight =
    if stopping then
    Some (record {
      path = flight.path;
      waiting = record {
        attempts = (waiting_at flight.path index.entries).attempts;
        due = (waiting_at flight.path index.entries).due;
        tried = true;
      };
    })
    else None

-- how the bytes of the job wait, where that became of them
abbrev pub wait_by : Flight → Bool → Fated → Option Wait
wait_by flight tried Clean = None
wait_by flight tried Superseded = None
wait_by flight tried (Waits attempts due) = Some (record { path = flight.path; waiting = record { attempts = attempts; due = due; tried = tried } })
wait_by flight tried (Lost number) = None

-- the file of a body, unless it is that of the job in flight
abbrev pub file_unless : Option Flight → Option BodyId → Option ℕ
file_unless job None = None
file_unless job (Some body) = if is_flying job body.file then None else Some body.file

-- the file of the entry's body, where the entry goes with the path
abbrev pub file_going : Option Flight → PathParts → Bool → Item → Option ℕ
file_going job path below item = if goes_with path below item then file_unless job item.entry.body else None

-- the step with this effect, the row of its record, and the table after it
pub record IsMadeBy (t : DeskTable) (who : Who) (now : ℕ) (deed : Deed) (e : Effect) (made : Made) (row : List ℕ) (u : DeskTable) : Type 0 where
  pub step : made.step ≡ record { who = who; now = now; deed = deed; mark = e.mark; told = e.told; moment = 0 }
  pub answer : made.answer ≡ answer_by e.mark e.told
  pub released : made.released.items ≡ e.released
  pub row_is : row ≡ row_of e.on_record
  pub after : u ≡ changed t e

-- the step that the ask is, or nothing where it is a take that finds nothing
abbrev pub IsMade : DeskTable → Who → ℕ → Ask → Option Made → List ℕ → DeskTable → Type 0
IsMade t who now ask None row u = ((effect_of t now (deed_of t ask)).told ≡ Some Idle) × (u ≡ t)
IsMade t who now ask (Some made) row u = IsMadeBy t who now (deed_of t ask) (effect_of t now (deed_of t ask)) made row u
