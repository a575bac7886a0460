-- One job after another: taken, sent and settled.
use Rattle.std.specs.Prelude.{◌≡◌, ℕ, List, [], ◌∷◌, Some, Ok}
use Rattle.dav_edge.specs.Device.{Happened, DeviceLog, Grew}
use Rattle.dav_uri.specs.Target.{BaseParts}
use Rattle.dav_deeds.specs.declared.answer.Job.{Job}
use Rattle.dav_deeds.specs.declared.answer.Told.TheVariants.{Took}
use Rattle.dav_deeds.specs.declared.ask.Done.{Done}
use Rattle.dav_deeds.specs.declared.deed.Deed.TheVariants.{Take, Settle}
use Rattle.dav_deeds.specs.declared.deed.Step.{Step}
use Rattle.dav_deeds.specs.DeskTable.{DeskTable}
use Rattle.dav_deeds.specs.Effects.{after}
use Rattle.dav_deeds.specs.Legal.{IsLegal}
use Rattle.dav_upload.specs.Backs.{Backs}
use Rattle.dav_upload.specs.Ending.{Ending, Sends, flight_in}

-- the step took this job, with the bytes of its body
pub record Takes (bodies : ℕ → List ℕ) (t : DeskTable) (s : Step) (job : Job) : Type 0 where
  pub legal : IsLegal t s
  pub deed : s.deed ≡ Take
  pub told : s.told ≡ Some (Took (flight_in job))
  pub bytes : bodies job.body.file ≡ job.bytes

-- Each job was taken, then its file was sent, and then what came of it was settled. The last job may have been taken and sent
-- without its end being settled.
pub data Turns (base : BaseParts) (bodies : ℕ → List ℕ) : DeskTable → List Step → DeviceLog → DeviceLog → Type 0 where
  none : (t : DeskTable) (a : DeviceLog) → Turns base bodies t [] a a
  turn : (t : DeskTable) (take settle : Step) (more : List Step) (a b c : DeviceLog) (job : Job) (done : Done)
      → Takes bodies t take job → Sends base job a b (Ok done) → settle.deed ≡ Settle job.number done
      → Turns base bodies (after (after t take.now take.deed) settle.now settle.deed) more b c → Turns base bodies t (take ∷ settle ∷ more) a c
  cut : (t : DeskTable) (take : Step) (a b : DeviceLog) (job : Job) (ending : Ending)
      → Takes bodies t take job → Sends base job a b ending → Turns base bodies t (take ∷ []) a b

-- these calls were made, and among them are the requests of the steps
pub record Backed (base : BaseParts) (bodies : ℕ → List ℕ) (t : DeskTable) (steps : List Step) (old new : DeviceLog) : Type 0 where
  pub events : List Happened
  pub grew : Grew old new events
  pub backs : Backs base bodies t steps events
