-- What a wire is sent of the jobs of a desk: the request of each, and nothing else.
use Rattle.std.specs.Prelude.{◌≡◌, ℕ, List, [], ◌∷◌, ◌++◌, Option, Some, None, Ok, Err}
use Rattle.std.specs.Option.{option_to_list}
use Rattle.dav_edge.specs.Connections.{Connection}
use Rattle.dav_edge.specs.Device.{Happened}
use Rattle.dav_uri.specs.Target.{BaseParts}
use Rattle.dav_text.specs.Path.{PathParts}
use Rattle.dav_deeds.specs.Answers.{job_in}
use Rattle.dav_deeds.specs.DeskTable.{DeskTable}
use Rattle.dav_deeds.specs.declared.answer.Flight.{Flight}
use Rattle.dav_deeds.specs.declared.answer.Job.{Job}
use Rattle.dav_deeds.specs.declared.deed.Step.{Step}
use Rattle.dav_desk.specs.Verdict.{step_of}
use Rattle.dav_upload.specs.Backs.{job_sent, HasPutOf}
use Rattle.dav_upload.specs.Exchange.{put_text}
use Rattle.dav_upload.specs.Desks.{HasBytesIf}
use Rattle.dav_upload.specs.Asking.{Asked, Answered, told_met, answer_met, table_met}

-- the bytes of the job that the answer gives, or else these
abbrev pub bytes_or : List ℕ → Option Job → List ℕ
bytes_or bytes None = bytes
bytes_or bytes (Some job) = job.bytes

abbrev pub bytes_told : List ℕ → Answered → List ℕ
bytes_told bytes (Ok answer) = bytes_or bytes (job_in answer)
bytes_told bytes (Err fault) = bytes

-- the step that an ask is, whether it went or was stopped
abbrev pub step_asked : DeskTable → Asked → Step
step_asked t e = step_of t e.asked.who e.asked.now e.asked.ask 0

-- Each ask that tells bytes to be sent has the whole request of its job among the calls, each its own, in the order of the asks, and a whole
-- reply with status 200 to 299 to it. The bytes are those that the job was told with; the first ones are those of the job in flight.
abbrev pub AsksBacked : BaseParts → List ℕ → DeskTable → List Asked → List Happened → Type 0
AsksBacked base bytes t [] events = Unit {0}
AsksBacked base bytes t (e ∷ es) events =
    (part : List Happened) × (rest : List Happened) × (events ≡ part ++ rest)
    × HasPutOf base (λ file. bytes) (job_sent t.job (step_asked t e).deed (step_asked t e).mark) part
    × AsksBacked base (bytes_told bytes (answer_met t e.asked e.answer)) (table_met t e.asked e.answer) es rest

-- each job was told with the bytes that are given for its body
abbrev pub AllTold : (ℕ → List ℕ) → DeskTable → List Asked → Type 0
AllTold given t [] = Unit {0}
AllTold given t (e ∷ es) = HasBytesIf given (told_met t e.asked) (answer_met t e.asked e.answer) × AllTold given (table_met t e.asked e.answer) es

-- the bytes are those that are given for the job in flight
abbrev pub JobGiven : (ℕ → List ℕ) → List ℕ → Option Flight → Type 0
JobGiven given bytes None = Unit {0}
JobGiven given bytes (Some flight) = bytes ≡ given flight.body.file

-- the job that an answer tells
abbrev pub job_told : Answered → List Job
job_told (Ok answer) = option_to_list (job_in answer)
job_told (Err fault) = []

-- the jobs that these asks told
abbrev pub jobs_told : DeskTable → List Asked → List Job
jobs_told t [] = []
jobs_told t (e ∷ es) = job_told (answer_met t e.asked e.answer) ++ jobs_told (table_met t e.asked e.answer) es

-- a beginning of the text was sent on the connection, to the base's host and port
pub record IsBegun (base : BaseParts) (text : List ℕ) (connection : Connection) : Type 0 where
  pub to_host : connection.host ≡ base.host
  pub to_port : connection.port ≡ base.port
  pub cut : List ℕ
  pub sent : connection.sent ++ cut ≡ text

-- a beginning of the request of the job was sent on the connection
abbrev pub IsOfJob : BaseParts → Job → Connection → Type 0
IsOfJob base job connection = IsBegun base (put_text base job.path job.seen job.bytes) connection

-- The connections are those of the jobs, in their order: a job has one or none, and on it a beginning of its request was sent and nothing else.
pub data OfJobs (base : BaseParts) : List Job → List Connection → Type 0 where
  none : OfJobs base [] []
  unconnected : (job : Job) (jobs : List Job) (connections : List Connection) → OfJobs base jobs connections → OfJobs base (job ∷ jobs) connections
  connected : (job : Job) (jobs : List Job) (connection : Connection) (connections : List Connection)
      → IsOfJob base job connection → OfJobs base jobs connections → OfJobs base (job ∷ jobs) (connection ∷ connections)

-- no two of the jobs are of one path
abbrev pub IsOther : PathParts → List Job → Type 0
IsOther path [] = Unit {0}
IsOther path (job ∷ jobs) = (path.segments ≡ job.path.segments → ⊥) × IsOther path jobs

abbrev pub PathsDiffer : List Job → Type 0
PathsDiffer [] = Unit {0}
PathsDiffer (job ∷ jobs) = IsOther job.path jobs × PathsDiffer jobs
