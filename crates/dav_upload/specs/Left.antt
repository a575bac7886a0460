-- What is still queued behind steps that send what may be sent.
use Rattle.std.specs.Prelude.{◌≡◌, ◌⊎◌, ℕ, List, ◌∷◌, ◌++◌, Some, true, false}
use Rattle.dav_text.specs.Path.{PathParts}
use Rattle.dav_index.specs.Items.{same_path, entry_at}
use Rattle.dav_index.specs.Queries.{is_due}
use Rattle.dav_index.specs.declared.entry.Entry.{Entry}
use Rattle.dav_index.specs.declared.entry.Waiting.{Waiting}
use Rattle.dav_deeds.specs.DeskTable.{DeskTable}
use Rattle.dav_deeds.specs.Legal.{table_after}
use Rattle.dav_deeds.specs.declared.answer.Fated.TheVariants.{Waits}
use Rattle.dav_deeds.specs.declared.answer.Flight.{Flight}
use Rattle.dav_deeds.specs.declared.answer.Told.TheVariants.{Settled}
use Rattle.dav_deeds.specs.declared.ask.Done.TheVariants.{Again}
use Rattle.dav_deeds.specs.declared.deed.Deed.TheVariants.{Settle}
use Rattle.dav_deeds.specs.declared.deed.Step.{Step}
use Rattle.dav_desk.specs.declared.desk.Desk.{Desk}

-- one of these steps settled the job of the path: its bytes are to be sent again, and they wait so since
pub record IsAgain (t : DeskTable) (steps : List Step) (path : PathParts) (e : Entry) : Type 0 where
  pub before : List Step
  pub settle : Step
  pub since : List Step
  pub split : steps ≡ before ++ settle ∷ since
  pub flight : Flight
  pub flies : (table_after t before).job ≡ Some flight
  pub path_is : same_path path flight.path ≡ true
  pub seconds : ℕ
  pub deed : settle.deed ≡ Settle flight.number (Again seconds)
  pub attempts : ℕ
  pub due : ℕ
  pub told : settle.told ≡ Some (Settled (Waits attempts due))
  pub body : e.body ≡ Some flight.body
  pub waits : e.queued ≡ Some (record { attempts = attempts; due = due; tried = true })

-- by the steps that the desk took since, each entry that is queued on it is one that could not be sent before and is as it was,
-- or is to be sent again
pub record LeavesAgain {D : Type 0} (now : ℕ) (old new : Desk D) : Type 0 where
  pub steps : List Step
  pub trace : new.recorder.trace.steps.items ≡ old.recorder.trace.steps.items ++ steps
  pub each : (path : PathParts) (e : Entry) (w : Waiting) → entry_at path new.table.index.entries ≡ Some e → e.queued ≡ Some w
      → ((entry_at path old.table.index.entries ≡ Some e) × (is_due now true e.queued ≡ false)) ⊎ IsAgain old.table steps path e
