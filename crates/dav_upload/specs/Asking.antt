-- A desk as a device: what it is asked, how each ask goes, and what comes of it.
use Rattle.std.specs.Prelude.{ℕ, List, [], ◌∷◌, ◌++◌, Option, Result}
use Rattle.dav_machine.specs.Log.{Event, event}
use Rattle.dav_machine.specs.Devices.{one_device}
use Rattle.dav_machine.specs.Machine.{Machine, Calls, give}
use Rattle.dav_deeds.specs.DeskTable.{DeskTable}
use Rattle.dav_deeds.specs.Effects.{told_of}
use Rattle.dav_deeds.specs.Legal.{deed_of}
use Rattle.dav_deeds.specs.declared.answer.Answer.{Answer}
use Rattle.dav_deeds.specs.declared.answer.Told.{Told}
use Rattle.dav_deeds.specs.declared.ask.Ask.{Ask}
use Rattle.dav_deeds.specs.declared.ask.Who.{Who}
use Rattle.dav_deeds.specs.declared.deed.Step.{Step}
use Rattle.dav_deeds.specs.declared.fault.DeskFault.{DeskFault}
use Rattle.dav_desk.specs.Verdict.{Verdict, steps_by, table_by, result_by}

-- who asks what, and when
pub record Asking : Type 0 where
  pub who : Who
  pub now : ℕ
  pub ask : Ask

abbrev pub asking : Who → ℕ → Ask → Asking
asking who now ask = record { who = who; now = now; ask = ask }

-- how an ask goes, and the bytes of the body that is told, if one is
pub record Met : Type 0 where
  pub verdict : Verdict
  pub bytes : List ℕ

abbrev pub Asked : Type 0
Asked = Event Asking Met

-- the answer, or why there is none
abbrev pub Answered : Type 0
Answered = Result Answer DeskFault

abbrev pub table_met : DeskTable → Asking → Met → DeskTable
table_met t a met = table_by met.verdict t a.now a.ask

abbrev pub answer_met : DeskTable → Asking → Met → Answered
answer_met t a met = result_by met.verdict t a.now a.ask met.bytes

-- what it tells where it goes
abbrev pub told_met : DeskTable → Asking → Option Told
told_met t a = told_of t a.now (deed_of t a.ask)

-- the steps by which the trace grows; their moments are left out
abbrev pub steps_met : DeskTable → Asking → Met → List Step
steps_met t a met = steps_by met.verdict t a.who a.now a.ask 0

-- the table after these asks
abbrev pub table_through : DeskTable → List Asked → DeskTable
table_through t [] = t
table_through t (e ∷ es) = table_through (table_met t e.asked e.answer) es

-- the steps that these asks add to the trace, without their moments
abbrev pub steps_through : DeskTable → List Asked → List Step
steps_through t [] = []
steps_through t (e ∷ es) = steps_met t e.asked e.answer ++ steps_through (table_met t e.asked e.answer) es

-- one ask: how it goes is the next answer. What comes of it is the desk's answer, and the table then
abbrev pub Asks : DeskTable → Asking → Machine (List Asked) (List Met) (Answered × DeskTable)
Asks t a [] run = ⊥
Asks t a (met ∷ more) run = Calls (event a met) (give one_device (answer_met t a met, table_met t a met) more) run
