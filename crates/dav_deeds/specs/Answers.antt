-- Answers, with the bytes of a body and without.
use Rattle.std.specs.Prelude.{ℕ, Bool, true, false, List, [], Option, Some, None}
use Rattle.dav_store.specs.declared.body_id.BodyId.{BodyId}
use Rattle.dav_deeds.specs.declared.answer.Answer.{Answer}
use Rattle.dav_deeds.specs.declared.answer.Answer.TheVariants as answers
use Rattle.dav_deeds.specs.declared.answer.Fated.{Fated}
use Rattle.dav_deeds.specs.declared.answer.Job.{Job}
use Rattle.dav_deeds.specs.declared.answer.Flight.{Flight}
use Rattle.dav_deeds.specs.declared.answer.Told.{Told}
use Rattle.dav_deeds.specs.declared.answer.Told.TheVariants.{Closed, Forgot, Took, Idle, Settled, Stopping}

-- the job with its bytes
abbrev pub job_of : Flight → List ℕ → Job
job_of flight bytes = record { number = flight.number; path = flight.path; body = flight.body; seen = flight.seen; bytes = bytes }

-- the answer, where these are the bytes of the body that it names
abbrev pub answer_of : Told → List ℕ → Answer
answer_of (Closed body) bytes = answers.Closed body
answer_of Forgot bytes = answers.Forgot
answer_of (Took flight) bytes = answers.Took (job_of flight bytes)
answer_of Idle bytes = answers.Idle
answer_of (Settled fated) bytes = answers.Settled fated
answer_of Stopping bytes = answers.Stopping

-- the bytes of a body in an answer
abbrev pub bytes_told : Answer → List ℕ
bytes_told (answers.Took job) = job.bytes
bytes_told answer = []

-- the job that an answer gives, and what it says became of one
abbrev pub job_in : Answer → Option Job
job_in (answers.Took job) = Some job
job_in answer = None

abbrev pub fate_in : Answer → Option Fated
fate_in (answers.Settled fated) = Some fated
fate_in answer = None

-- What an answer is to the job in flight and to the trace: it gives the next job; it says that there is none, and is no step then;
-- it is the end of the job; or it is none of these.
pub data Kind : Type 0 where
  Tells : Kind
  Gives : Flight → Kind
  Idles : Kind
  Ends : Kind

abbrev pub kind_of : Told → Kind
kind_of (Closed body) = Tells
kind_of Forgot = Tells
kind_of (Took flight) = Gives flight
kind_of Idle = Idles
kind_of (Settled fated) = Ends
kind_of Stopping = Tells

-- a refusal is none of these
abbrev pub kind_told : Option Told → Kind
kind_told None = Tells
kind_told (Some told) = kind_of told

abbrev pub is_idle : Kind → Bool
is_idle Tells = false
is_idle (Gives flight) = false
is_idle Idles = true
is_idle Ends = false

abbrev pub is_end : Kind → Bool
is_end Tells = false
is_end (Gives flight) = false
is_end Idles = false
is_end Ends = true

-- the job in flight after an answer
abbrev pub job_by : Option Flight → Kind → Option Flight
job_by job Tells = job
job_by job (Gives flight) = Some flight
job_by job Idles = job
job_by job Ends = None

-- the job with its bytes, where one is given
abbrev pub job_of_kind : Kind → List ℕ → Option Job
job_of_kind Tells bytes = None
job_of_kind (Gives flight) bytes = Some (job_of flight bytes)
job_of_kind Idles bytes = None
job_of_kind Ends bytes = None

-- the body whose bytes belong to the answer
abbrev pub body_wanted : Told → Option BodyId
body_wanted (Closed body) = None
body_wanted Forgot = None
body_wanted (Took flight) = Some flight.body
body_wanted Idle = None
body_wanted (Settled fated) = None
body_wanted Stopping = None

abbrev pub wanted : Option Told → Option BodyId
wanted None = None
wanted (Some told) = body_wanted told
