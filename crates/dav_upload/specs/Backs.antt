-- The requests on a wire that stand behind the settlings of a trace.
use Rattle.std.specs.Prelude.{◌≡◌, ℕ, List, [], ◌∷◌, ◌++◌, Option, Some, None, true, if◌then◌else◌}
use Rattle.dav_edge.specs.Connections.{Connections, connection, with_standing, all_of, after_calls}
use Rattle.dav_edge.specs.Device.{Happened}
use Rattle.dav_frame.specs.Framing.{Message}
use Rattle.dav_uri.specs.Target.{BaseParts}
use Rattle.dav_verbs.specs.Outcome.{is_success}
use Rattle.dav_deeds.specs.declared.answer.Flight.{Flight}
use Rattle.dav_deeds.specs.declared.deed.Deed.{Deed}
use Rattle.dav_deeds.specs.declared.deed.Mark.{Mark}
use Rattle.dav_deeds.specs.declared.deed.Step.{Step}
use Rattle.dav_deeds.specs.DeskTable.{DeskTable}
use Rattle.dav_deeds.specs.Effects.{after}
use Rattle.dav_deeds.specs.Fate.{tells_sent}
use Rattle.dav_upload.specs.Exchange.{HasReply, put_text}

-- the request of a job: it stores the bytes of the job's body under the job's path, and only where the server has what was
-- known of it as the job was taken
abbrev pub job_text : BaseParts → (ℕ → List ℕ) → Flight → List ℕ
job_text base bodies flight = put_text base flight.path flight.seen (bodies flight.body.file)

-- The last of these calls made one connection, to the host and the port of the base, and ended it. The whole request of the job
-- was sent on it and nothing else, and what was received on it is a whole reply whose status is 200 to 299.
pub record HasPut (base : BaseParts) (bodies : ℕ → List ℕ) (flight : Flight) (events : List Happened) : Type 0 where
  pub earlier : List Happened
  pub calls : List Happened
  pub split : events ≡ earlier ++ calls
  pub received : List ℕ
  pub makes : (before : Connections) → after_calls before calls
      ≡ with_standing (all_of before ++ connection base.host base.port (job_text base bodies flight) received ∷ []) None
  pub reply : Message
  pub answered : HasReply received reply
  pub success : is_success reply.head.status ≡ true

-- the job whose bytes a deed with this mark tells to be sent, where this is the one in flight
abbrev pub job_sent : Option Flight → Deed → Mark → Option Flight
job_sent job deed mark = if tells_sent deed mark then job else None

-- among these calls is the request of the job, if there is a job
abbrev pub HasPutOf : BaseParts → (ℕ → List ℕ) → Option Flight → List Happened → Type 0
HasPutOf base bodies None events = Unit {0}
HasPutOf base bodies (Some flight) events = HasPut base bodies flight events

-- Each of the steps that tells bytes to be sent has the request of its job among the calls, each its own, in the order of the
-- steps. Further calls may stand before, between and behind these.
abbrev pub Backs : BaseParts → (ℕ → List ℕ) → DeskTable → List Step → List Happened → Type 0
Backs base bodies t [] events = Unit {0}
Backs base bodies t (s ∷ steps) events =
    (part : List Happened) × (rest : List Happened) × (events ≡ part ++ rest) × HasPutOf base bodies (job_sent t.job s.deed s.mark) part
    × Backs base bodies (after t s.now s.deed) steps rest
