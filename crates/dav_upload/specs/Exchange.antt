-- One request and its reply: connect, send the whole text, read one reply, shut.
use Rattle.std.specs.Prelude.{◌≡◌, ◌≢◌, ◌⊎◌, ℕ, List, [], ◌∷◌, ◌++◌, Bool, true, false, Option, Some, None, Result, Ok, Err}
use Rattle.dav_machine.specs.Devices.{one_device}
use Rattle.dav_machine.specs.Machine.{Run, give, Calls, and_then}
use Rattle.dav_edge.specs.Device.{Connect, Receive, Answer, Fails, Goes, Gives, Happened, happened, shut_down, ByteMachine}
use Rattle.dav_edge.specs.Whole.{Sends}
use Rattle.dav_text.specs.declared.memory.Memory.{Memory}
use Rattle.dav_text.specs.declared.method.Method.TheVariants.{Put}
use Rattle.dav_text.specs.Path.{PathParts, escaped}
use Rattle.dav_text.specs.declared.tag.Seen.{Seen}
use Rattle.dav_text.specs.declared.tag.Seen.TheVariants.{Absent}
use Rattle.dav_frame.specs.declared.fields.FieldName.{FieldName}
use Rattle.dav_frame.specs.declared.reader.Reply.{Reply}
use Rattle.dav_frame.specs.Reading.{reply_of}
use Rattle.dav_frame.specs.declared.request.Req.{Req}
use Rattle.dav_frame.specs.declared.fault.FrameFault.{FrameFault}
use Rattle.dav_frame.specs.declared.fault.FrameFault.TheVariants as faults
use Rattle.dav_frame.specs.Framing.{Message, Framing, Gives as GivesReply, Closes, Faults, Short}
use Rattle.dav_uri.specs.Target.{BaseParts, host_field}
use Rattle.dav_frame.specs.Request.{request_text}
use Rattle.dav_verbs.specs.Precondition.{precondition_of, fields_of}
use Rattle.dav_verbs.specs.Retry.{retry_after_of}
use Rattle.dav_verbs.specs.Seen.{IsSeenAfter}
use Rattle.dav_upload.specs.declared.came.Came.{Came}

-- the fields of a request that is to go through only where its file is what is known of it
abbrev pub precondition_fields : Seen → List (FieldName × List ℕ)
precondition_fields seen = fields_of (precondition_of seen)

-- the request that stores the bytes under the path, of which this is known
abbrev pub put_request : BaseParts → PathParts → Seen → List ℕ → Req
put_request base path seen bytes = record {
  method = Put;
  host = host_field base.host base.port;
  target = escaped path;
  fields = precondition_fields seen;
  body = bytes;
}

abbrev pub put_text : BaseParts → PathParts → Seen → List ℕ → List ℕ
put_text base path seen bytes = request_text (put_request base path seen bytes)

-- the text of the request that stores the bytes as a new file
abbrev pub new_text : BaseParts → PathParts → List ℕ → List ℕ
new_text base path bytes = put_text base path Absent bytes

-- a whole reply, or none where no whole reply came, or want of memory
abbrev pub Heard : Type 0
Heard = Result (Option Reply) Memory

-- a fault is no reply, or is want of memory
abbrev pub IsHeardOf : FrameFault → Heard → Type 0
IsHeardOf fault heard = ((want : Memory) × (heard ≡ Err want) × (fault ≡ faults.Memory)) ⊎ ((fault ≢ faults.Memory) × (heard ≡ Ok None))

-- the bytes received hold this reply: a whole one is at their front, or they are one whose body ends where the
-- connection does
pub data HasReply (received : List ℕ) (reply : Message) : Type 0 where
  is_whole : (rest : List ℕ) → Framing Put received (GivesReply reply rest) → HasReply received reply
  is_closed : Framing Put received (Closes reply) → HasReply received reply

-- what comes next may still belong to the reply
abbrev pub StaysOpen : List ℕ → Type 0
StaysOpen so_far = Framing Put so_far Short ⊎ ((reply : Message) × Framing Put so_far (Closes reply))

-- no byte follows
abbrev pub is_end : List ℕ → Bool
is_end [] = true
is_end (b ∷ rest) = false

-- What is done after a piece that isn't the last of the connection, by what the bytes so far are: a whole
-- reply, no beginning of one, or the beginning of one, behind which the reading goes on.
pub data Judged (so_far : List ℕ) (GoesOn : Run (List Happened) (List Answer) Heard → Type 0) (left : List Answer) (run : Run (List Happened) (List Answer) Heard) : Type 0 where
  whole : (reply : Message) (rest : List ℕ) → Framing Put so_far (GivesReply reply rest) → give one_device (Ok (Some (reply_of reply (is_end rest)))) left run → Judged so_far GoesOn left run
  broken : (fault : FrameFault) → Framing Put so_far (Faults fault) → give one_device (Ok None) left run → Judged so_far GoesOn left run
  short : StaysOpen so_far → GoesOn run → Judged so_far GoesOn left run
  memory : (want : Memory) → give one_device (Err want) left run → Judged so_far GoesOn left run

-- what is done at the connection's end: the bytes so far are a reply that ends there, or are cut
pub data Ended (so_far : List ℕ) (left : List Answer) (run : Run (List Happened) (List Answer) Heard) : Type 0 where
  closed : (reply : Message) → Framing Put so_far (Closes reply) → give one_device (Ok (Some (reply_of reply false))) left run → Ended so_far left run
  cut : Framing Put so_far Short → give one_device (Ok None) left run → Ended so_far left run

-- the reply is read, behind what has come of it
unfoldable pub Hears : List ℕ → ByteMachine Heard
Hears so_far (Fails ∷ more) run = Calls (happened (Receive 4096) Fails) (give one_device (Ok None) more) run
Hears so_far (Gives [] ∷ more) run = Calls (happened (Receive 4096) (Gives [])) (Ended so_far more) run
Hears so_far (Gives (b ∷ bytes) ∷ more) run =
    Calls (happened (Receive 4096) (Gives (b ∷ bytes))) (Judged (so_far ++ b ∷ bytes) (Hears (so_far ++ b ∷ bytes) more) more) run
Hears so_far _ run = ⊥

abbrev pub hears_if : Bool → ByteMachine Heard
hears_if true = Hears []
hears_if false = give one_device (Ok None)

-- the text is sent, and where it went whole the reply is read
abbrev pub Talks : List ℕ → ByteMachine Heard
Talks text = and_then one_device (Sends text) hears_if

-- the connection is shut
abbrev pub Shuts : Heard → ByteMachine Heard
Shuts heard (Goes ∷ more) run = Calls shut_down (give one_device heard more) run
Shuts heard _ run = ⊥

-- a connection to the base's host and port, the text and its reply on it, and its end
abbrev pub Exchanges : BaseParts → List ℕ → ByteMachine Heard
Exchanges base text (Goes ∷ more) run = Calls (happened (Connect base.host base.port) Goes) (and_then one_device (Talks text) Shuts more) run
Exchanges base text (Fails ∷ more) run = Calls (happened (Connect base.host base.port) Fails) (give one_device (Ok None) more) run
Exchanges base text _ run = ⊥

-- what is kept of the reply to an upload, before which this was known of the file
pub record IsCameOf (seen : Seen) (reply : Reply) (came : Came) : Type 0 where
  pub status : came.status ≡ reply.status
  pub known : IsSeenAfter seen Put reply.status reply.fields came.seen
  pub waits : came.retry_after ≡ retry_after_of reply.fields

-- what came of an upload, or none where no whole reply came, or want of memory
abbrev pub Uploaded : Type 0
Uploaded = Result (Option Came) Memory

-- the same, by what was heard
abbrev pub IsToldOf : Seen → Heard → Uploaded → Type 0
IsToldOf seen (Ok (Some reply)) told = (came : Came) × IsCameOf seen reply came × (told ≡ Ok (Some came))
IsToldOf seen (Ok None) told = told ≡ Ok None
IsToldOf seen (Err want) told = told ≡ Err want

-- what was heard is told
pub record Tells (seen : Seen) (heard : Heard) (answers : List Answer) (run : Run (List Happened) (List Answer) Uploaded) : Type 0 where
  pub told : Uploaded
  pub is : IsToldOf seen heard told
  pub gives : give one_device told answers run

-- the file is sent, where this is known of it, or there was no memory for its request
pub data Uploads (base : BaseParts) (path : PathParts) (seen : Seen) (bytes : List ℕ) (answers : List Answer) (run : Run (List Happened) (List Answer) Uploaded) : Type 0 where
  sends : and_then one_device (Exchanges base (put_text base path seen bytes)) (Tells seen) answers run → Uploads base path seen bytes answers run
  memory : (want : Memory) → give one_device (Err want) answers run → Uploads base path seen bytes answers run
