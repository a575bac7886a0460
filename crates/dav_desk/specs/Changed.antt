-- Which files of its disk a call of a desk changes.
use Rattle.std.specs.Prelude.{ℕ, List, Option}
use Rattle.dav_disk.specs.Disk.{Doubt}
use Rattle.dav_deeds.specs.DeskTable.{DeskTable}
use Rattle.dav_deeds.specs.Effects.{released_of}
use Rattle.dav_deeds.specs.Legal.{bytes_in, deed_of, new_body}
use Rattle.dav_deeds.specs.declared.ask.Ask.{Ask}
use Rattle.dav_recorder.specs.Files.{ChangesOnly, AreEmpty, IsStored}
use Rattle.dav_recorder.specs.Stands.{IsWritten}
use Rattle.dav_desk.specs.Entry.{file_in}
use Rattle.dav_desk.specs.declared.desk.Desk.{Desk}

-- the file of the ask's new body, if it has one
abbrev pub fresh_by : DeskTable → Ask → Option ℕ
fresh_by t ask = file_in (new_body (deed_of t ask))

-- the files that nothing needs any more after the ask
abbrev pub freed_by : DeskTable → ℕ → Ask → List ℕ
freed_by t now ask = released_of t now (deed_of t ask)

-- no file changed but the index, that of the new body, and those that nothing needs any more
abbrev pub ChangesAsked : {D : Type 0} → (D → ℕ) → (D → ℕ → List ℕ) → (D → ℕ → ℕ → Doubt) → ℕ → Ask → Desk D → Desk D → Type 0
ChangesAsked moment seen past now ask old new = ChangesOnly moment seen past (IsWritten (fresh_by old.table ask) (freed_by old.table now ask)) old.recorder.disk new.recorder.disk

-- the new body is in its file, and the files that nothing needs any more are empty
pub record IsPut {D : Type 0} (moment : D → ℕ) (seen : D → ℕ → List ℕ) (past : D → ℕ → ℕ → Doubt) (now : ℕ) (ask : Ask) (old new : Desk D) : Type 0 where
  pub stored : IsStored (fresh_by old.table ask) (bytes_in ask) (freed_by old.table now ask) (seen new.recorder.disk) (past new.recorder.disk (moment new.recorder.disk))
  pub emptied : AreEmpty (freed_by old.table now ask) (seen new.recorder.disk) (past new.recorder.disk (moment new.recorder.disk))
