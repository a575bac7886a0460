-- What asks of a desk add to its trace, and what they say of bytes.
use Rattle.std.specs.Prelude.{◌≡◌, ℕ, List, [], ◌∷◌, ◌++◌, Option, Some, None}
use Rattle.dav_deeds.specs.DeskTable.{DeskTable}
use Rattle.dav_deeds.specs.declared.deed.Step.{Step}
use Rattle.dav_deeds.specs.declared.fault.DeskFault.{DeskFault}
use Rattle.dav_desk.specs.Verdict.{Verdict, Went, Stopped, Starved, step_of}
use Rattle.dav_desk.specs.Working.{AreGiven}
use Rattle.dav_upload.specs.Asking.{Asked, told_met, answer_met, table_met, table_through}
use Rattle.dav_upload.specs.Desks.{HasSumIf}

-- a step without its moment
abbrev pub still : Step → Step
still s = record s { moment = 0 }

-- one of the asks was stopped, and this is its step
pub record IsUnder (t : DeskTable) (asked : List Asked) (s : Step) : Type 0 where
  pub before : List Asked
  pub stopped : Asked
  pub since : List Asked
  pub split : asked ≡ before ++ stopped ∷ since
  pub fault : DeskFault
  pub verdict : stopped.answer.verdict ≡ Stopped fault
  pub step : still s ≡ step_of (table_through t before) stopped.asked.who stopped.asked.now stopped.asked.ask 0

-- the step under way, if there is one, is that of an ask that was stopped
abbrev pub IsUnderIf : DeskTable → List Asked → Option Step → Type 0
IsUnderIf t asked None = Unit {0}
IsUnderIf t asked (Some s) = IsUnder t asked s

-- what is to hold of an ask, and of those behind it unless it was stopped
abbrev pub GivenBy : Verdict → Type 0 → Type 0 → Type 0
GivenBy Went now later = now × later
GivenBy (Stopped fault) now later = now
GivenBy Starved now later = later

-- the bytes of each ask are given for the file of its new body, up to the ask that was stopped
abbrev pub AllGiven : (ℕ → List ℕ) → DeskTable → List Asked → Type 0
AllGiven given t [] = Unit {0}
AllGiven given t (e ∷ es) = GivenBy e.answer.verdict (AreGiven t given e.asked.ask) (AllGiven given (table_met t e.asked e.answer) es)

-- each job was told with bytes that have the SHA-256 of its body
abbrev pub AllSummed : DeskTable → List Asked → Type 0
AllSummed t [] = Unit {0}
AllSummed t (e ∷ es) = HasSumIf (told_met t e.asked) (answer_met t e.asked e.answer) × AllSummed (table_met t e.asked e.answer) es
