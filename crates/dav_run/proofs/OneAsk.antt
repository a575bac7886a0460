-- One ask of a desk, by its machine.
use Rattle.std.proofs.Common.{◌≡◌, List, [], ◌∷◌, ◌∙◌, ap}
use Rattle.dav_machine.specs.Log.{event}
use Rattle.dav_machine.specs.Devices.{one_device}
use Rattle.dav_machine.specs.Machine.{Run, run_with, prepend}
use Rattle.dav_deeds.specs.DeskTable.{DeskTable}
use Rattle.dav_upload.specs.Asking.{Asking, Met, Asked, Answered, table_met, answer_met, Asks}

abbrev pub AskRun : Type 0
AskRun = Run (List Asked) (List Met) (Answered × DeskTable)

-- how the ask went, and the answers that are left
pub record AskedOnce (t : DeskTable) (a : Asking) (run : AskRun) : Type 0 where
  pub met : Met
  pub more : List Met
  pub is : run ≡ run_with (answer_met t a met, table_met t a met) (event a met ∷ []) more

pub asked_once : (t : DeskTable) (a : Asking) (answers : List Met) (run : AskRun) → Asks t a answers run → AskedOnce t a run
asked_once t a [] run does = absurd does
asked_once t a (met ∷ more) run does = record { met = met; more = more; is = does.is ∙ ap (prepend one_device (event a met ∷ [])) does.does }
