-- A desk between two calls, over a disk that keeps the model.
use Rattle.std.specs.Prelude.{◌≡◌, ℕ, List, Option, Some, None}
use Rattle.sha2.specs.Sha256.{sha256}
use Rattle.dav_disk.specs.Disk.{Doubt}
use Rattle.dav_store.specs.Rows.{IsReady}
use Rattle.dav_store.specs.View.{journal_end}
use Rattle.dav_deeds.specs.DeskTable.{DeskTable}
use Rattle.dav_deeds.specs.Answers.{bytes_told, wanted}
use Rattle.dav_deeds.specs.Legal.{bytes_in, deed_of, new_body, table_after}
use Rattle.dav_store.specs.declared.body_id.BodyId.{BodyId}
use Rattle.dav_deeds.specs.declared.answer.Answer.{Answer}
use Rattle.dav_deeds.specs.declared.answer.Told.{Told}
use Rattle.dav_deeds.specs.declared.ask.Ask.{Ask}
use Rattle.dav_recorder.specs.Survives.{IsLive, IsLeft}
use Rattle.dav_desk.specs.declared.desk.Desk.{Desk}
use Rattle.dav_desk.specs.Ends.{IsEndIfAny}
use Rattle.dav_desk.specs.Room.{HasRoom}

-- the desk can be asked: unless it is dead, a record can be added to its index, and there is room for the end of its job
pub record IsReadied {D : Type 0} (honest : D → Type 0) (moment : D → ℕ) (seen : D → ℕ → List ℕ) (past : D → ℕ → ℕ → Doubt) (desk : Desk D) : Type 0 where
  pub index : honest desk.recorder.disk → desk.recorder.dead ≡ None
      → IsReady (journal_end desk.recorder.journal) (seen desk.recorder.disk 0) (past desk.recorder.disk (moment desk.recorder.disk) 0)
  pub end : IsEndIfAny desk.recorder.dead
  pub room : desk.recorder.dead ≡ None → HasRoom desk

-- A desk that began with this table at that moment and works: its table is the one after its steps, and is on the disk. Since it
-- began a stop left, at each moment, the table after a front of its steps.
pub record IsWorking {D : Type 0} (moment : D → ℕ) (seen : D → ℕ → List ℕ) (past : D → ℕ → ℕ → Doubt) (url : List ℕ) (opening : DeskTable) (start : ℕ) (given : ℕ → List ℕ) (desk : Desk D) : Type 0 where
  pub alive : desk.recorder.dead ≡ None
  pub table : desk.table ≡ table_after opening desk.recorder.trace.steps.items
  pub live : IsLive moment seen past url opening start given desk.recorder

-- A desk that was stopped: since it began a stop left, at each moment, the table after a front of its steps, or after them all and
-- the one under way.
abbrev pub IsStopped : {D : Type 0} → (D → ℕ) → (D → ℕ → ℕ → Doubt) → List ℕ → DeskTable → ℕ → (ℕ → List ℕ) → Desk D → Type 0
IsStopped moment past url opening start given desk = IsLeft moment past url opening start given desk.recorder

-- the bytes of an ask are given for its new body, if it has one
abbrev pub AreGiven : DeskTable → (ℕ → List ℕ) → Ask → Type 0
AreGiven t given ask = (id : BodyId) → new_body (deed_of t ask) ≡ Some id → given id.file ≡ bytes_in ask

-- the bytes of a body that is told are those given for its file
abbrev pub HasBytes : (ℕ → List ℕ) → Option Told → Answer → Type 0
HasBytes given told answer = (body : BodyId) → wanted told ≡ Some body → bytes_told answer ≡ given body.file

-- and they have its SHA-256
abbrev pub HasSum : Option Told → Answer → Type 0
HasSum told answer = (body : BodyId) → wanted told ≡ Some body → sha256 (bytes_told answer) ≡ body.sum
