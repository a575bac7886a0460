-- What a call of a desk comes to, by how it went: its steps, the table after it and its answer.
use Rattle.std.specs.Prelude.{ℕ, List, [], ◌∷◌, Option, Some, None, Result, Ok, Err, if◌then◌else◌}
use Rattle.dav_deeds.specs.DeskTable.{DeskTable}
use Rattle.dav_deeds.specs.Answers.{answer_of, kind_told, is_idle}
use Rattle.dav_deeds.specs.Effects.{after, mark_of, told_of}
use Rattle.dav_deeds.specs.Legal.{deed_of}
use Rattle.dav_deeds.specs.Made.{answer_by}
use Rattle.dav_deeds.specs.declared.answer.Answer.{Answer}
use Rattle.dav_deeds.specs.declared.answer.Told.{Told}
use Rattle.dav_deeds.specs.declared.ask.Ask.{Ask}
use Rattle.dav_deeds.specs.declared.ask.Who.{Who}
use Rattle.dav_deeds.specs.declared.deed.Step.{Step}
use Rattle.dav_deeds.specs.declared.fault.DeskFault.{DeskFault}
use Rattle.dav_deeds.specs.declared.fault.DeskFault.TheVariants.{Memory}

-- how a call went: to its end, be it a refusal; it was stopped for good by the disk, or by a damaged body; or there was no memory
pub data Verdict : Type 0 where
  Went : Verdict
  Stopped : DeskFault → Verdict
  Starved : Verdict

-- the step that the ask is, where it ended at this moment of the disk
abbrev pub step_of : DeskTable → Who → ℕ → Ask → ℕ → Step
step_of t who now ask moment = record {
  who = who;
  now = now;
  deed = deed_of t ask;
  mark = mark_of t now (deed_of t ask);
  told = told_of t now (deed_of t ask);
  moment = moment;
}

-- this step alone, and none where it is a take that found nothing
abbrev pub unless_idle : Option Told → Step → List Step
unless_idle told s = if is_idle (kind_told told) then [] else s ∷ []

-- the steps by which the trace grows
abbrev pub steps_by : Verdict → DeskTable → Who → ℕ → Ask → ℕ → List Step
steps_by Went t who now ask moment = unless_idle (told_of t now (deed_of t ask)) (step_of t who now ask moment)
steps_by (Stopped fault) t who now ask moment = []
steps_by Starved t who now ask moment = []

-- the table after the call
abbrev pub table_by : Verdict → DeskTable → ℕ → Ask → DeskTable
table_by Went t now ask = after t now (deed_of t ask)
table_by (Stopped fault) t now ask = t
table_by Starved t now ask = t

-- what was told with these bytes, or why the ask was refused
abbrev pub with_bytes : Result Told DeskFault → List ℕ → Result Answer DeskFault
with_bytes (Ok told) bytes = Ok (answer_of told bytes)
with_bytes (Err fault) bytes = Err fault

-- the answer, these being the bytes of the body that is told, if one is
abbrev pub result_by : Verdict → DeskTable → ℕ → Ask → List ℕ → Result Answer DeskFault
result_by Went t now ask bytes = with_bytes (answer_by (mark_of t now (deed_of t ask)) (told_of t now (deed_of t ask))) bytes
result_by (Stopped fault) t now ask bytes = Err fault
result_by Starved t now ask bytes = Err Memory
