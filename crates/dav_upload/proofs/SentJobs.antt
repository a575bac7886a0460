-- A job that ends as sent has its request on the wire.
use Rattle.std.proofs.Common.{◌≡◌, ℕ, List, [], ◌∷◌, ◌++◌, Option, Some, None, Ok, Err, Bool, true, false, if◌then◌else◌, nat_eq, refl, sym, ◌∙◌, ap, subst, append-nil}
use Rattle.dav_machine.specs.Devices.{one_device}
use Rattle.dav_machine.specs.Machine.{Run, run_with, prepend}
use Rattle.dav_edge.specs.Device.{Answer, Happened, DeviceLog}
use Rattle.dav_edge.specs.Connections.{connection, with_standing, all_of}
use Rattle.dav_edge.specs.Whole.{DoesOn}
use Rattle.dav_text.specs.Path.{PathParts}
use Rattle.dav_text.specs.declared.method.Method.TheVariants.{Put}
use Rattle.dav_text.specs.declared.tag.Seen.{Seen}
use Rattle.dav_text.specs.declared.tag.Seen.TheVariants.{Unknown, Absent, Untagged, Tagged}
use Rattle.dav_frame.specs.declared.reader.Reply.{Reply}
use Rattle.dav_uri.specs.Target.{BaseParts}
use Rattle.http_header.specs.FieldValue.{FieldValue}
use Rattle.http_header.specs.HeaderMap.{Entries}
use Rattle.dav_verbs.specs.Outcome.{is_success, may_pass}
use Rattle.dav_verbs.specs.Seen.{IsShown, news_of, IsKnownAfter, IsSeenAfter}
use Rattle.dav_verbs.specs.declared.outcome.Outcome.TheVariants as outcomes
use Rattle.dav_index.specs.Records.{IsNoted}
use Rattle.dav_deeds.specs.declared.answer.Job.{Job}
use Rattle.dav_deeds.specs.declared.ask.Done.{Done}
use Rattle.dav_deeds.specs.declared.ask.Done.TheVariants.{Sent, Again, Refused}
use Rattle.dav_deeds.specs.Legal.{IsDone}
use Rattle.dav_upload.specs.declared.came.Came.{Came}
use Rattle.dav_upload.specs.Exchange.{Heard, Uploaded, IsCameOf, IsToldOf, Exchanges, Uploads, sends, memory as no_memory, put_text}
use Rattle.dav_upload.specs.Backs.{HasPut}
use Rattle.dav_upload.specs.Ending.{done_by, done_of, Ending, ending_of, Sends, flight_in, Puts}
use Rattle.dav_upload.proofs.Putting.{Answered, exchange_replied}

abbrev HeardRun : Type 0
HeardRun = Run (List Happened) (List Answer) Heard

abbrev UploadRun : Type 0
UploadRun = Run (List Happened) (List Answer) Uploaded

-- the status was one of success, and what is known now is what the job ends with
record IsTaken (came : Came) (seen : Seen) : Type 0 where
  success : is_success came.status ≡ true
  known : came.seen ≡ seen

taken_by : (login success again : Bool) (status : ℕ) (came : Came) (seen : Seen) → is_success came.status ≡ success
    → (if login then Again 0 else done_by (if success then outcomes.Sent else (if again then outcomes.Again else outcomes.Refused)) came) ≡ Sent seen → IsTaken came seen
taken_by true success again status came seen test is = let h : Again 0 ≡ Sent seen = is in cc
taken_by false true again status came seen test is = record { success = test; known = let h : Sent came.seen ≡ Sent seen = is in cc }
taken_by false false true status came seen test is = let h : Again came.retry_after ≡ Sent seen = is in cc
taken_by false false false status came seen test is = let h : Refused ≡ Sent seen = is in cc

sent_is_taken : (came : Came) (seen : Seen) → done_of (Some came) ≡ Sent seen → IsTaken came seen
sent_is_taken came seen is = taken_by (nat_eq 401 came.status) (is_success came.status) (may_pass came.status) came.status came seen refl is

abbrev told_came : Option Came → Uploaded
told_came came = Ok came

abbrev no_came : Uploaded
no_came = Ok None

none_is_not_sent : (came : Option Came) (seen : Seen) → no_came ≡ told_came came → done_of came ≡ Sent seen → ⊥
none_is_not_sent None seen none sent = let h : Again 0 ≡ Sent seen = sent in cc
none_is_not_sent (Some came) seen none sent = cc

one_came : (one came : Came) → told_came (Some one) ≡ told_came (Some came) → one ≡ came
one_came one came same = cc

-- what an exchange left of the request of a job, and what its reply was kept as
record Went (base : BaseParts) (path : PathParts) (known : Seen) (bytes : List ℕ) (came : Came) (events : List Happened) : Type 0 where
  told : Reply
  answered : Answered base (put_text base path known bytes) told events
  kept : IsCameOf known told came

went_heard : (base : BaseParts) (path : PathParts) (known : Seen) (bytes : List ℕ) (answers : List Answer) (run : HeardRun) (heard : Heard) (told : Uploaded) (came : Option Came) (seen : Seen)
    → Exchanges base (put_text base path known bytes) answers run → run.result ≡ heard → IsToldOf known heard told → told ≡ Ok came → done_of came ≡ Sent seen
    → (one : Came) × (came ≡ Some one) × Went base path known bytes one run.made
went_heard base path known bytes answers run (Err want) told came seen exchange hears is heard sent =
    let h : Err want ≡ Ok came = sym is ∙ heard in cc
went_heard base path known bytes answers run (Ok None) told came seen exchange hears is heard sent =
    let none : no_came ≡ told_came came = sym is ∙ heard in
    absurd (none_is_not_sent came seen none sent)
went_heard base path known bytes answers run (Ok (Some reply)) told None seen exchange hears (c, of, is) heard sent =
    let h : told_came (Some c) ≡ no_came = sym is ∙ heard in cc
went_heard base path known bytes answers run (Ok (Some reply)) told (Some came) seen exchange hears (c, of, is) heard sent =
    let one : c ≡ came = one_came c came (sym is ∙ heard) in
    (came, refl, record { told = reply; answered = exchange_replied base (put_text base path known bytes) reply answers run exchange hears; kept = subst (IsCameOf known reply) one of })

went : (base : BaseParts) (path : PathParts) (known : Seen) (bytes : List ℕ) (answers : List Answer) (run : UploadRun) (came : Option Came) (seen : Seen)
    → Uploads base path known bytes answers run → run.result ≡ Ok came → done_of came ≡ Sent seen → (one : Came) × (came ≡ Some one) × Went base path known bytes one run.made
went base path known bytes answers run came seen (sends does) heard sent =
    let whole : run ≡ run_with does.goes_on.told (does.before.made ++ []) does.before.left = does.whole ∙ ap (prepend one_device does.before.made) does.goes_on.gives in
    let told : does.goes_on.told ≡ Ok came = sym (ap (λ (r : UploadRun). r.result) whole) ∙ heard in
    let made : run.made ≡ does.before.made = ap (λ (r : UploadRun). r.made) whole ∙ append-nil does.before.made in
    let found = went_heard base path known bytes answers does.before does.before.result does.goes_on.told came seen does.begins refl does.goes_on.is told sent in
    (found.0, found.1, subst (Went base path known bytes found.0) (sym made) found.2)
went base path known bytes answers run came seen (no_memory want gives) heard sent =
    let h : Err want ≡ Ok came = sym (ap (λ (r : UploadRun). r.result) gives) ∙ heard in cc

-- a file that is shown is known
shown_is_noted : (fields : Entries FieldValue) (seen : Seen) → IsShown fields seen → IsNoted seen
shown_is_noted fields Unknown shown = absurd shown
shown_is_noted fields Absent shown = absurd shown
shown_is_noted fields Untagged shown = tt
shown_is_noted fields (Tagged tag) shown = shown.kept

-- what the reply to a request that stored its file tells of it: that of one with status 200
success_is_noted : (known : Seen) (status : ℕ) (fields : Entries FieldValue) (seen : Seen) → is_success status ≡ true → IsSeenAfter known Put status fields seen → IsNoted seen
success_is_noted known status fields seen is after =
    shown_is_noted fields seen (subst (λ (test : Bool). IsKnownAfter (if test then news_of Put 200 else news_of Put 100) known fields seen) is after)

noted : (known : Seen) (told : Reply) (came : Came) (seen : Seen) → IsCameOf known told came → IsTaken came seen → IsNoted seen
noted known told came seen kept taken =
    subst IsNoted taken.known
    (success_is_noted known told.status told.fields came.seen (ap is_success (sym kept.status) ∙ taken.success) kept.known)

sent_went : (base : BaseParts) (job : Job) (old new : DeviceLog) (came : Option Came) (seen : Seen) → (does : DoesOn old new (Uploads base job.path job.seen job.bytes) (Ok came)) → done_of came ≡ Sent seen
    → (one : Came) × (came ≡ Some one) × Went base job.path job.seen job.bytes one does.made
sent_went base job old new came seen does sent =
    let run : UploadRun = run_with (Ok came) (does.made ++ []) [] in
    let found = went base job.path job.seen job.bytes (one_device.answered does.made []) run came seen (does.same [] (run_with (Ok came) [] []) refl) refl sent in
    (found.0, found.1, subst (Went base job.path job.seen job.bytes found.0) (append-nil does.made) found.2)

went_puts : (base : BaseParts) (bodies : ℕ → List ℕ) (job : Job) (came : Came) (events : List Happened) → bodies job.body.file ≡ job.bytes → Went base job.path job.seen job.bytes came events → is_success came.status ≡ true
    → HasPut base bodies (flight_in job) events
went_puts base bodies job came events bytes_are one success = record {
  earlier = [];
  calls = events;
  split = refl;
  received = one.answered.received;
  makes = λ before.
      one.answered.makes before
      ∙ ap (λ (bytes : List ℕ). with_standing (all_of before ++ connection base.host base.port (put_text base job.path job.seen bytes) one.answered.received ∷ []) None) (sym bytes_are);
  reply = one.answered.reply;
  answered = one.answered.has;
  success = ap is_success (one.answered.is ∙ sym one.kept.status) ∙ success;
}

abbrev done_so : Done → Ending
done_so done = Ok done

sent_so : (came : Uploaded) (seen : Seen) (ending : Ending) → ending ≡ ending_of came → ending ≡ done_so (Sent seen) → (one : Option Came) × (came ≡ Ok one) × (done_of one ≡ Sent seen)
sent_so (Ok one) seen ending ends is = (one, refl, let h : done_so (done_of one) ≡ done_so (Sent seen) = sym ends ∙ is in cc)
sent_so (Err want) seen ending ends is = let h : Err want ≡ done_so (Sent seen) = sym ends ∙ is in cc

pub sends_put : (base : BaseParts) (job : Job) (old new : DeviceLog) (ending : Ending) → Sends base job old new ending → (seen : Seen) → ending ≡ Ok (Sent seen) → (bodies : ℕ → List ℕ) → bodies job.body.file ≡ job.bytes
    → Puts base bodies (flight_in job) old new
sends_put base job old new ending sending seen is bodies bytes_are =
    let sent = sent_so sending.came seen ending sending.ends is in
    let does = subst (λ (came : Uploaded). DoesOn old new (Uploads base job.path job.seen job.bytes) came) sent.1 sending.uploads in
    let found = sent_went base job old new sent.0 seen does sent.2 in
    let taken = sent_is_taken found.0 seen (subst (λ (came : Option Came). done_of came ≡ Sent seen) found.1 sent.2) in
    record { events = does.made; grew = does.grew; put = went_puts base bodies job found.0 does.made bytes_are found.2 taken.success }

pub sends_noted : (base : BaseParts) (job : Job) (old new : DeviceLog) (ending : Ending) → Sends base job old new ending → (done : Done) → ending ≡ Ok done → IsDone done
sends_noted base job old new ending sending (Sent seen) is =
    let sent = sent_so sending.came seen ending sending.ends is in
    let does = subst (λ (came : Uploaded). DoesOn old new (Uploads base job.path job.seen job.bytes) came) sent.1 sending.uploads in
    let found = sent_went base job old new sent.0 seen does sent.2 in
    let taken = sent_is_taken found.0 seen (subst (λ (came : Option Came). done_of came ≡ Sent seen) found.1 sent.2) in
    noted job.seen found.2.told found.0 seen found.2.kept taken
sends_noted base job old new ending sending (Again after) is = tt
sends_noted base job old new ending sending Refused is = tt

pub sends_so : (base : BaseParts) (job : Job) (old new : DeviceLog) (came : Option Came) (done : Done) → DoesOn old new (Uploads base job.path job.seen job.bytes) (Ok came) → done ≡ done_of came → Sends base job old new (Ok done)
sends_so base job old new came done does is = record { came = Ok came; uploads = does; ends = ap done_so is }

-- a run of an upload after which the job ends as sent has its request among the calls
pub upload_puts : (base : BaseParts) (bodies : ℕ → List ℕ) (job : Job) (answers : List Answer) (run : UploadRun) (came : Option Came) (seen : Seen) → Uploads base job.path job.seen job.bytes answers run → run.result ≡ Ok came
    → done_of came ≡ Sent seen → bodies job.body.file ≡ job.bytes → HasPut base bodies (flight_in job) run.made
upload_puts base bodies job answers run came seen uploads heard sent bytes_are =
    let found = went base job.path job.seen job.bytes answers run came seen uploads heard sent in
    let taken = sent_is_taken found.0 seen (subst (λ (c : Option Came). done_of c ≡ Sent seen) found.1 sent) in
    went_puts base bodies job found.0 run.made bytes_are found.2 taken.success

pub upload_noted : (base : BaseParts) (job : Job) (answers : List Answer) (run : UploadRun) (came : Option Came) (seen : Seen) → Uploads base job.path job.seen job.bytes answers run → run.result ≡ Ok came → done_of came ≡ Sent seen → IsNoted seen
upload_noted base job answers run came seen uploads heard sent =
    let found = went base job.path job.seen job.bytes answers run came seen uploads heard sent in
    let taken = sent_is_taken found.0 seen (subst (λ (c : Option Came). done_of c ≡ Sent seen) found.1 sent) in
    noted job.seen found.2.told found.0 seen found.2.kept taken

pub upload_done : (base : BaseParts) (job : Job) (answers : List Answer) (run : UploadRun) (came : Option Came) → Uploads base job.path job.seen job.bytes answers run → run.result ≡ Ok came → IsDone (done_of came)
upload_done base job answers run came uploads heard = by (done_of came) refl
  where
    by : (done : Done) → done_of came ≡ done → IsDone done
    by (Sent seen) is = upload_noted base job answers run came seen uploads heard is
    by (Again after) is = tt
    by Refused is = tt
