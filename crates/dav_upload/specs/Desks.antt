-- What asks do to a desk over a disk.
use Rattle.std.specs.Prelude.{◌≡◌, ◌≢◌, ℕ, ◌≤◌, List, [], ◌∷◌, ◌++◌, Option, Ok, Err, None}
use Rattle.dav_machine.specs.Log.{event}
use Rattle.dav_disk.specs.Disk.{Doubt}
use Rattle.dav_deeds.specs.DeskTable.{DeskTable}
use Rattle.dav_deeds.specs.Legal.{IsAsk}
use Rattle.dav_deeds.specs.declared.answer.Told.{Told}
use Rattle.dav_deeds.specs.declared.ask.Ask.{Ask}
use Rattle.dav_deeds.specs.declared.ask.Who.TheVariants.{Uploader}
use Rattle.dav_desk.specs.declared.desk.Desk.{Desk}
use Rattle.dav_desk.specs.Verdict.{steps_by}
use Rattle.dav_desk.specs.Ended.{HasCause}
use Rattle.dav_desk.specs.Working.{AreGiven, HasBytes, HasSum, IsWorking, IsStopped}
use Rattle.dav_upload.specs.Asking.{asking, Met, Asked, Answered, table_met, told_met, answer_met}

-- what the trait of a disk tells of one
pub record DiskView (D : Type 0) : Type 1 where
  pub honest : D → Type 0
  pub moment : D → ℕ
  pub seen : D → ℕ → List ℕ
  pub past : D → ℕ → ℕ → Doubt
  pub faults : D → ℕ

abbrev pub disk_view : {D : Type 0} → (D → Type 0) → (D → ℕ) → (D → ℕ → List ℕ) → (D → ℕ → ℕ → Doubt) → (D → ℕ) → DiskView D
disk_view honest moment seen past faults = record { honest = honest; moment = moment; seen = seen; past = past; faults = faults }

abbrev pub Works : {D : Type 0} → DiskView D → List ℕ → DeskTable → ℕ → (ℕ → List ℕ) → Desk D → Type 0
Works view url opening start given desk = IsWorking view.moment view.seen view.past url opening start given desk

abbrev pub Stops : {D : Type 0} → DiskView D → List ℕ → DeskTable → ℕ → (ℕ → List ℕ) → Desk D → Type 0
Stops view url opening start given desk = IsStopped view.moment view.past url opening start given desk

-- an answer has the bytes that are given for the body that is told
abbrev pub HasBytesIf : (ℕ → List ℕ) → Option Told → Answered → Type 0
HasBytesIf given told (Ok answer) = HasBytes given told answer
HasBytesIf given told (Err fault) = Unit {0}

-- and they have the SHA-256 of the body
abbrev pub HasSumIf : Option Told → Answered → Type 0
HasSumIf told (Ok answer) = HasSum told answer
HasSumIf told (Err fault) = Unit {0}

-- the desk was asked this, and it went so
pub record WasAsked {D : Type 0} (view : DiskView D) (e : Asked) (old new : Desk D) : Type 0 where
  pub is_ask : IsAsk e.asked.ask
  pub table : new.table ≡ table_met old.table e.asked e.answer
  pub steps : new.recorder.trace.steps.items ≡ old.recorder.trace.steps.items ++ steps_by e.answer.verdict old.table e.asked.who e.asked.now e.asked.ask (view.moment new.recorder.disk)
  pub cause : HasCause view.honest view.moment view.seen view.faults e.asked.who e.asked.now e.asked.ask e.answer.verdict old new
  pub working : view.honest new.recorder.disk → (url : List ℕ) (opening : DeskTable) (start : ℕ) (given : ℕ → List ℕ) → AreGiven old.table given e.asked.ask → Works view url opening start given old
      → new.recorder.dead ≡ None → Works view url opening start given new
  pub stopped : view.honest new.recorder.disk → (url : List ℕ) (opening : DeskTable) (start : ℕ) (given : ℕ → List ℕ) → AreGiven old.table given e.asked.ask → Works view url opening start given old
      → new.recorder.dead ≢ None → Stops view url opening start given new
  pub bytes : view.honest new.recorder.disk → (url : List ℕ) (opening : DeskTable) (start : ℕ) (given : ℕ → List ℕ) → Works view url opening start given old → HasBytesIf given (told_met old.table e.asked) (answer_met old.table e.asked e.answer)
  pub sums : HasSumIf (told_met old.table e.asked) (answer_met old.table e.asked e.answer)
  pub keeps : view.honest new.recorder.disk → view.honest old.recorder.disk
  pub no_fewer : view.faults old.recorder.disk ≤ view.faults new.recorder.disk

-- the desk was asked these, one after another
abbrev pub WereAsked : {D : Type 0} → DiskView D → List Asked → Desk D → Desk D → Type 0
WereAsked {D} view [] old new = new ≡ old
WereAsked {D} view (e ∷ es) old new = (mid : Desk D) × WasAsked view e old mid × WereAsked view es mid new

-- the desk was asked this by what sends files, and answered so
pub record AskedSo {D : Type 0} (view : DiskView D) (now : ℕ) (ask : Ask) (old new : Desk D) (answered : Answered) : Type 0 where
  pub met : Met
  pub was : WasAsked view (event (asking Uploader now ask) met) old new
  pub answer : answered ≡ answer_met old.table (asking Uploader now ask) met
