-- Of the same answers of a wire one upload comes, where there was memory for it.
use Rattle.std.proofs.Common.{◌≡◌, inl, inr, ℕ, List, [], ◌∷◌, ◌++◌, Some, None, Ok, Err, Bool, true, false, sym, ◌∙◌, ap, subst}
use Rattle.dav_machine.specs.Devices.{one_device}
use Rattle.dav_machine.specs.Machine.{Run, run_with, give, and_then}
use Rattle.dav_edge.specs.Device.{Fails, Goes, Takes, Gives, Answer, Happened}
use Rattle.dav_edge.specs.Whole.{Sends}
use Rattle.dav_text.specs.Path.{PathParts}
use Rattle.dav_text.specs.declared.memory.Memory.{Memory}
use Rattle.dav_text.specs.declared.method.Method.TheVariants.{Put}
use Rattle.dav_text.specs.declared.tag.Seen.{Seen}
use Rattle.dav_frame.specs.Framing.{Message, Framing, Gives as GivesReply, Closes as ClosesReply, Faults, Short}
use Rattle.dav_frame.specs.declared.fault.FrameFault.{FrameFault}
use Rattle.dav_frame.specs.declared.reader.Reply.{Reply}
use Rattle.dav_frame.specs.Reading.{reply_of}
use Rattle.dav_frame.proofs.OutcomeLemmas.{unique}
use Rattle.dav_uri.specs.Target.{BaseParts}
use Rattle.dav_verbs.proofs.SeenLemmas.{same_seen}
use Rattle.dav_upload.specs.declared.came.Came.{Came}
use Rattle.dav_upload.specs.Exchange.{Heard, Uploaded, IsCameOf, IsToldOf, Tells, put_text, is_end, StaysOpen, Judged, whole, broken, short, memory as no_memory, Ended, closed, cut, Hears, hears_if, Talks, Shuts, Exchanges, Uploads, sends, memory as not_sent}
use Rattle.dav_run.proofs.One.{One, AnyResult, one_give, one_then, one_calls, one_sends}

-- an exchange
abbrev HeardFed : Heard → Type 0
HeardFed (Ok came) = Unit {0}
HeardFed (Err want) = ⊥

abbrev HeardRun : Type 0
HeardRun = Run (List Happened) (List Answer) Heard

starved_heard : (want : Memory) (left : List Answer) (r : HeardRun) (P : Type 0) → give one_device (Err want) left r → HeardFed r.result → P
starved_heard want left r P gives fed = absurd (subst (λ (run : HeardRun). HeardFed run.result) gives fed)

open_no_reply : (so_far : List ℕ) (reply : Message) (rest : List ℕ) → StaysOpen so_far → Framing Put so_far (GivesReply reply rest) → ⊥
open_no_reply so_far reply rest (inl framing) too =
    let o : Short ≡ GivesReply reply rest = unique Put so_far Short (GivesReply reply rest) framing too in cc
open_no_reply so_far reply rest (inr (other, framing)) too =
    let o : ClosesReply other ≡ GivesReply reply rest = unique Put so_far (ClosesReply other) (GivesReply reply rest) framing too in cc

open_no_fault : (so_far : List ℕ) (fault : FrameFault) → StaysOpen so_far → Framing Put so_far (Faults fault) → ⊥
open_no_fault so_far fault (inl framing) too =
    let o : Short ≡ Faults fault = unique Put so_far Short (Faults fault) framing too in cc
open_no_fault so_far fault (inr (other, framing)) too =
    let o : ClosesReply other ≡ Faults fault = unique Put so_far (ClosesReply other) (Faults fault) framing too in cc

one_ended : (so_far : List ℕ) (left : List Answer) (r q : HeardRun) → Ended so_far left r → Ended so_far left q → r ≡ q
one_ended so_far left r q (closed reply framing gives) (closed other too same) =
    let o : ClosesReply reply ≡ ClosesReply other = unique Put so_far (ClosesReply reply) (ClosesReply other) framing too in
    let replies : reply ≡ other = cc in
    gives ∙ ap (λ (x : Message). let run : HeardRun = run_with (Ok (Some (reply_of x false))) [] left in run) replies ∙ sym same
one_ended so_far left r q (closed reply framing gives) (cut too same) =
    let o : ClosesReply reply ≡ Short = unique Put so_far (ClosesReply reply) Short framing too in cc
one_ended so_far left r q (cut framing gives) (closed other too same) =
    let o : Short ≡ ClosesReply other = unique Put so_far Short (ClosesReply other) framing too in cc
one_ended so_far left r q (cut framing gives) (cut too same) = gives ∙ sym same

one_judged : (so_far : List ℕ) (GoesOn : HeardRun → Type 0) (left : List Answer) (r q : HeardRun) → ((x y : HeardRun) → GoesOn x → GoesOn y → HeardFed x.result → HeardFed y.result → x ≡ y)
    → Judged so_far GoesOn left r → Judged so_far GoesOn left q → HeardFed r.result → HeardFed q.result → r ≡ q
one_judged so_far GoesOn left r q later (whole reply rest framing gives) (whole other more too same) fr fq =
    let o : GivesReply reply rest ≡ GivesReply other more = unique Put so_far (GivesReply reply rest) (GivesReply other more) framing too in
    let replies : reply ≡ other = cc in
    let rests : rest ≡ more = cc in
    gives ∙ ap (λ (x : Message). let run : HeardRun = run_with (Ok (Some (reply_of x (is_end rest)))) [] left in run) replies
    ∙ ap (λ (l : List ℕ). let run : HeardRun = run_with (Ok (Some (reply_of other (is_end l)))) [] left in run) rests ∙ sym same
one_judged so_far GoesOn left r q later (whole reply rest framing gives) (broken fault too same) fr fq =
    let o : GivesReply reply rest ≡ Faults fault = unique Put so_far (GivesReply reply rest) (Faults fault) framing too in cc
one_judged so_far GoesOn left r q later (whole reply rest framing gives) (short too goes) fr fq =
    absurd (open_no_reply so_far reply rest too framing)
one_judged so_far GoesOn left r q later (broken fault framing gives) (whole other more too same) fr fq =
    let o : Faults fault ≡ GivesReply other more = unique Put so_far (Faults fault) (GivesReply other more) framing too in cc
one_judged so_far GoesOn left r q later (broken fault framing gives) (broken other too same) fr fq = gives ∙ sym same
one_judged so_far GoesOn left r q later (broken fault framing gives) (short too goes) fr fq =
    absurd (open_no_fault so_far fault too framing)
one_judged so_far GoesOn left r q later (short framing goes) (whole other more too same) fr fq =
    absurd (open_no_reply so_far other more framing too)
one_judged so_far GoesOn left r q later (short framing goes) (broken other too same) fr fq =
    absurd (open_no_fault so_far other framing too)
one_judged so_far GoesOn left r q later (short framing goes) (short too on_) fr fq = later r q goes on_ fr fq
one_judged so_far GoesOn left r q later (no_memory want gives) two fr fq = starved_heard want left r (r ≡ q) gives fr
one_judged so_far GoesOn left r q later (whole reply rest framing gives) (no_memory want same) fr fq = starved_heard want left q (r ≡ q) same fq
one_judged so_far GoesOn left r q later (broken fault framing gives) (no_memory want same) fr fq = starved_heard want left q (r ≡ q) same fq
one_judged so_far GoesOn left r q later (short framing goes) (no_memory want same) fr fq = starved_heard want left q (r ≡ q) same fq

one_hears : (so_far : List ℕ) → One (Hears so_far) HeardFed
unfolding Hears
one_hears so_far [] r q d e fr fq = absurd d
one_hears so_far (Fails ∷ more) r q d e fr fq = one_calls _ (give one_device (Ok None) more) HeardFed r q d e fr fq (λ x y c k fx fy. c ∙ sym k)
one_hears so_far (Goes ∷ more) r q d e fr fq = absurd d
one_hears so_far (Takes n ∷ more) r q d e fr fq = absurd d
one_hears so_far (Gives [] ∷ more) r q d e fr fq = one_calls _ (Ended so_far more) HeardFed r q d e fr fq (λ x y c k fx fy. one_ended so_far more x y c k)
one_hears so_far (Gives (b ∷ bytes) ∷ more) r q d e fr fq =
    one_calls _ (Judged (so_far ++ b ∷ bytes) (Hears (so_far ++ b ∷ bytes) more) more) HeardFed r q d e fr fq
    (λ x y c k fx fy. one_judged (so_far ++ b ∷ bytes) (Hears (so_far ++ b ∷ bytes) more) more x y (λ v w. one_hears (so_far ++ b ∷ bytes) more v w) c k fx fy)

one_hears_if : (all : Bool) → One (hears_if all) HeardFed
one_hears_if true = one_hears []
one_hears_if false = one_give one_device (Ok None) HeardFed

one_talks : (text : List ℕ) → One (Talks text) HeardFed
one_talks text = one_then one_device (Sends text) hears_if AnyResult HeardFed (one_sends text AnyResult) one_hears_if (λ all answers run does fed. tt)

one_shuts : (heard : Heard) → One (Shuts heard) HeardFed
one_shuts heard [] r q d e fr fq = absurd d
one_shuts heard (Fails ∷ more) r q d e fr fq = absurd d
one_shuts heard (Takes n ∷ more) r q d e fr fq = absurd d
one_shuts heard (Gives piece ∷ more) r q d e fr fq = absurd d
one_shuts heard (Goes ∷ more) r q d e fr fq = one_calls _ (give one_device heard more) HeardFed r q d e fr fq (λ x y c k fx fy. c ∙ sym k)

shuts_fed : (heard : Heard) (answers : List Answer) (r : HeardRun) → Shuts heard answers r → HeardFed r.result → HeardFed heard
shuts_fed heard [] r does fed = absurd does
shuts_fed heard (Fails ∷ more) r does fed = absurd does
shuts_fed heard (Takes n ∷ more) r does fed = absurd does
shuts_fed heard (Gives piece ∷ more) r does fed = absurd does
shuts_fed heard (Goes ∷ more) r does fed =
    subst (λ (run : HeardRun). HeardFed run.result) does.does (subst (λ (run : HeardRun). HeardFed run.result) does.is fed)

one_exchanges : (base : BaseParts) (text : List ℕ) → One (Exchanges base text) HeardFed
one_exchanges base text [] r q d e fr fq = absurd d
one_exchanges base text (Fails ∷ more) r q d e fr fq = one_calls _ (give one_device (Ok None) more) HeardFed r q d e fr fq (λ x y c k fx fy. c ∙ sym k)
one_exchanges base text (Takes n ∷ more) r q d e fr fq = absurd d
one_exchanges base text (Gives piece ∷ more) r q d e fr fq = absurd d
one_exchanges base text (Goes ∷ more) r q d e fr fq =
    one_calls _ (and_then one_device (Talks text) Shuts more) HeardFed r q d e fr fq
    (one_then one_device (Talks text) Shuts HeardFed HeardFed (one_talks text) one_shuts shuts_fed more)

-- an upload
abbrev pub UploadFed : Uploaded → Type 0
UploadFed (Ok came) = Unit {0}
UploadFed (Err want) = ⊥

abbrev UploadRun : Type 0
UploadRun = Run (List Happened) (List Answer) Uploaded

starved_upload : (want : Memory) (left : List Answer) (r : UploadRun) (P : Type 0) → give one_device (Err want) left r → UploadFed r.result → P
starved_upload want left r P gives fed = absurd (subst (λ (run : UploadRun). UploadFed run.result) gives fed)

abbrev came_with : ℕ → Seen → ℕ → Came
came_with status seen waits = record { status = status; seen = seen; retry_after = waits }

one_kept : (seen : Seen) (reply : Reply) (one other : Came) → IsCameOf seen reply one → IsCameOf seen reply other → one ≡ other
one_kept seen reply one other of too =
    ap (λ (status : ℕ). came_with status one.seen one.retry_after) (of.status ∙ sym too.status)
    ∙ ap (λ (known : Seen). came_with other.status known one.retry_after) (same_seen seen Put reply.status reply.fields one.seen other.seen of.known too.known)
    ∙ ap (λ (waits : ℕ). came_with other.status other.seen waits) (of.waits ∙ sym too.waits)

one_told : (seen : Seen) (heard : Heard) (one other : Uploaded) → IsToldOf seen heard one → IsToldOf seen heard other → one ≡ other
one_told seen (Ok (Some reply)) one other (came, of, is) (more, too, also) =
    is ∙ ap (λ (c : Came). let told : Uploaded = Ok (Some c) in told) (one_kept seen reply came more of too) ∙ sym also
one_told seen (Ok None) one other is also = is ∙ sym also
one_told seen (Err want) one other is also = is ∙ sym also

one_tells : (seen : Seen) (heard : Heard) → One (Tells seen heard) UploadFed
one_tells seen heard answers r q d e fr fq =
    d.gives ∙ ap (λ (told : Uploaded). let run : UploadRun = run_with told [] answers in run) (one_told seen heard d.told e.told d.is e.is) ∙ sym e.gives

tells_fed : (seen : Seen) (heard : Heard) (answers : List Answer) (r : UploadRun) → Tells seen heard answers r → UploadFed r.result → HeardFed heard
tells_fed seen (Ok came) answers r does fed = tt
tells_fed seen (Err want) answers r does fed =
    subst UploadFed does.is (subst (λ (run : UploadRun). UploadFed run.result) does.gives fed)

pub one_uploads : (base : BaseParts) (path : PathParts) (seen : Seen) (bytes : List ℕ) → One (Uploads base path seen bytes) UploadFed
one_uploads base path seen bytes answers r q (sends d) (sends e) fr fq =
    one_then one_device (Exchanges base (put_text base path seen bytes)) (Tells seen) HeardFed UploadFed (one_exchanges base (put_text base path seen bytes)) (one_tells seen) (tells_fed seen) answers r q d e fr fq
one_uploads base path seen bytes answers r q (sends d) (not_sent want gives) fr fq = starved_upload want answers q (r ≡ q) gives fq
one_uploads base path seen bytes answers r q (not_sent want gives) e fr fq = starved_upload want answers r (r ≡ q) gives fr
