-- How a job ends, by what came of its file.
use Rattle.std.specs.Prelude.{◌≡◌, ℕ, List, Option, Some, None, Result, Ok, Err, if◌then◌else◌, nat_eq}
use Rattle.dav_edge.specs.Device.{Happened, DeviceLog, Grew}
use Rattle.dav_edge.specs.Whole.{DoesOn}
use Rattle.dav_text.specs.declared.memory.Memory.{Memory}
use Rattle.dav_uri.specs.Target.{BaseParts}
use Rattle.dav_verbs.specs.Outcome.{outcome_of}
use Rattle.dav_verbs.specs.declared.outcome.Outcome.{Outcome}
use Rattle.dav_verbs.specs.declared.outcome.Outcome.TheVariants as outcomes
use Rattle.dav_deeds.specs.declared.answer.Flight.{Flight}
use Rattle.dav_deeds.specs.declared.answer.Job.{Job}
use Rattle.dav_deeds.specs.declared.ask.Done.{Done}
use Rattle.dav_deeds.specs.declared.ask.Done.TheVariants.{Sent, Again, Refused}
use Rattle.dav_upload.specs.declared.came.Came.{Came}
use Rattle.dav_upload.specs.Exchange.{Uploaded, Uploads}
use Rattle.dav_upload.specs.Backs.{HasPut}

-- how a job ends, by what its reply says of the file
abbrev pub done_by : Outcome → Came → Done
done_by outcomes.Sent came = Sent came.seen
done_by outcomes.Again came = Again came.retry_after
done_by outcomes.Refused came = Refused

-- where no whole reply came, or a login is wanted, the file is to be sent again at once
abbrev pub done_of : Option Came → Done
done_of None = Again 0
done_of (Some came) = if nat_eq 401 came.status then Again 0 else done_by (outcome_of came.status) came

-- how a job ends, or that there was want of memory
abbrev pub Ending : Type 0
Ending = Result Done Memory

abbrev pub ending_of : Uploaded → Ending
ending_of (Ok came) = Ok (done_of came)
ending_of (Err want) = Err want

-- the file of the job was sent where what was known of it still holds, and what came of it ends the job so
pub record Sends (base : BaseParts) (job : Job) (old new : DeviceLog) (ending : Ending) : Type 0 where
  pub came : Uploaded
  pub uploads : DoesOn old new (Uploads base job.path job.seen job.bytes) came
  pub ends : ending ≡ ending_of came

-- the job without its bytes
abbrev pub flight_in : Job → Flight
flight_in job = record { number = job.number; path = job.path; body = job.body; seen = job.seen }

-- these calls were made, and among them is the request of the job
pub record Puts (base : BaseParts) (bodies : ℕ → List ℕ) (flight : Flight) (old new : DeviceLog) : Type 0 where
  pub events : List Happened
  pub grew : Grew old new events
  pub put : HasPut base bodies flight events
