-- What is put on the disk of a step.
use Rattle.std.specs.Prelude.{◌≡◌, ℕ, List, Option, Some, None}
use Rattle.dav_disk.specs.Disk.{AllStay}
use Rattle.dav_store.specs.declared.body_id.BodyId.{BodyId}
use Rattle.dav_deeds.specs.Answers.{wanted}
use Rattle.dav_deeds.specs.DeskTable.{DeskTable}
use Rattle.dav_deeds.specs.Effects.{record_of, released_of}
use Rattle.dav_deeds.specs.Legal.{IsLegal, new_body}
use Rattle.dav_deeds.specs.Made.{row_of}
use Rattle.dav_deeds.specs.Sound.{IsSound}
use Rattle.dav_deeds.specs.declared.answer.Told.{Told}
use Rattle.dav_deeds.specs.declared.deed.Step.{Step}
use Rattle.dav_deeds.specs.declared.fault.DeskFault.{DeskFault}
use Rattle.dav_recorder.specs.Opening.{IsFetchFault}
use Rattle.dav_recorder.specs.Planned.{HasNew}

-- the file of the body, if there is one
abbrev pub file_in : Option BodyId → Option ℕ
file_in None = None
file_in (Some body) = Some body.file

-- the step is one of a desk with this table, and these are the bytes of its new body, its row and the files that it frees
pub record IsEntry (t : DeskTable) (s : Step) (given : ℕ → List ℕ) (bytes row freed : List ℕ) : Type 0 where
  pub sound : IsSound t
  pub legal : IsLegal t s
  pub new : HasNew (new_body s.deed) given (file_in (new_body s.deed)) bytes
  pub row_is : row ≡ row_of (record_of t s.now s.deed)
  pub freed_is : freed ≡ released_of t s.now s.deed

-- the bytes of the body that is told are not to be had
pub record IsMissing (honest : Type 0) (seen seen_now : ℕ → List ℕ) (before after : ℕ) (told : Option Told) (fault : DeskFault) : Type 0 where
  pub body : BodyId
  pub is_wanted : wanted told ≡ Some body
  pub cause : IsFetchFault honest body (seen body.file) before after fault
  pub files : honest → AllStay seen seen_now
