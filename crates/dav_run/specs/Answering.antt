-- How the code of the shell carries out a line on the desk.
use Rattle.std.specs.Prelude.{ℕ, List, [], Some, None, Result, Ok, Err}
use Rattle.dav_disk.specs.Disk.{Doubt}
use Rattle.dav_machine.specs.Devices.{one_device}
use Rattle.dav_machine.specs.Machine.{Does}
use Rattle.dav_text.specs.Path.{IsPath}
use Rattle.dav_deeds.specs.declared.fault.DeskFault.{DeskFault}
use Rattle.dav_deeds.specs.declared.fault.DeskFault.TheVariants as faults
use Rattle.dav_desk.specs.Working.{IsReadied}
use Rattle.dav_desk.specs.declared.desk.Desk.{Desk}
use Rattle.dav_upload.specs.Asking.{Asked}
use Rattle.dav_upload.specs.Desks.{DiskView, WereAsked}
use Rattle.dav_upload.specs.Resting.{IsResting}
use Rattle.dav_run.specs.declared.shell.Said.{Said}
use Rattle.dav_run.specs.declared.shell.Said.TheVariants.{Nothing, Text, Syntax, Limit, Memory}
use Rattle.dav_run.specs.declared.shell.Shell.{Shell}
use Rattle.dav_run.specs.Shell.{State, Lined, DeskMachine, Lines, syntax_line, limit_line, memory_line}

-- the text that is printed, where this is the text of the shell
abbrev pub said_text : Said → List ℕ → List ℕ
said_text Nothing text = []
said_text Text text = text
said_text Syntax text = syntax_line
said_text (Limit which) text = limit_line which
said_text Memory text = memory_line

-- what a line comes to, by what is said or the fault that stopped the desk
abbrev pub lined_of : Result Said DeskFault → List ℕ → State → Lined
lined_of (Ok said) text now = record { printed = said_text said text; now = now; fault = None }
lined_of (Err fault) text now = record { printed = []; now = now; fault = Some fault }

-- the asks of the desk ran the machine to its end
abbrev pub DoesDesk : {D R : Type 0} → DiskView D → Desk D → Desk D → DeskMachine R → R → Type 0
DoesDesk view old new machine r = Does one_device (λ (asked : List Asked). WereAsked view asked old new) machine r

-- the line was carried out on the desk
abbrev pub DoesLine : {D : Type 0} → DiskView D → Desk D → Desk D → State → List ℕ → Result Said DeskFault → List ℕ → State → Type 0
DoesLine view old new before line said text now = DoesDesk view old new (Lines before line) (lined_of said text now)

-- the current path is one, the desk can be asked, and no job is in flight
pub record IsFit {D : Type 0} (honest : D → Type 0) (moment : D → ℕ) (seen : D → ℕ → List ℕ) (past : D → ℕ → ℕ → Doubt) (shell : Shell D) : Type 0 where
  pub path : IsPath shell.current
  pub readied : IsReadied honest moment seen past shell.desk
  pub resting : IsResting shell.desk.table

-- the path that is to be forgotten first is a path
abbrev pub HasPath : DeskFault → Type 0
HasPath (faults.Crowded oldest) = IsPath oldest
HasPath faults.Disk = Unit {0}
HasPath (faults.NotACache at) = Unit {0}
HasPath (faults.Damaged file kept found) = Unit {0}
HasPath (faults.OtherServer kept asked) = Unit {0}
HasPath (faults.Queued path) = Unit {0}
HasPath (faults.NoSuchJob number) = Unit {0}
HasPath (faults.Limit which) = Unit {0}
HasPath faults.Memory = Unit {0}
