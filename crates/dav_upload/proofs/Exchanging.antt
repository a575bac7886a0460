-- What each call does to the machines of an exchange.
use Rattle.std.proofs.Common.{◌≡◌, ◌≢◌, ◌<◌, ◌≤◌, ◌==◌, inl, inr, ℕ, List, [], ◌∷◌, ◌++◌, length, take, drop, Option, ◌⊎◌, Some, None, Ok, Err, Bool, true, false, refl, sym, ◌∙◌, ap, subst, arith, append_assoc, append-nil, length-take, length-drop}
use Rattle.std.proofs.lemmas.List.{drop_all}
use Rattle.std.proofs.lemmas.Bool.Decides.{nat_tests}
use Rattle.dav_machine.specs.Devices.{one_device}
use Rattle.dav_machine.specs.Machine.{Run, give, and_then}
use Rattle.dav_machine.proofs.Reaching.{reaches_next, reaches_as, as_reaches}
use Rattle.dav_edge.specs.declared.failed.Failed.{Failed}
use Rattle.dav_edge.specs.Device.{Connect, Receive, Fails, Goes, Gives, Answer, Happened, happened, connected, received, shut_down, DeviceLog, Grew, ByteMachine}
use Rattle.dav_edge.specs.Whole.{ReachesOn, DoesOn, Sends}
use Rattle.dav_edge.proofs.Sending.{on_same, on_then, on_call}
use Rattle.dav_text.specs.declared.memory.Memory.{Memory}
use Rattle.dav_text.specs.declared.method.Method.TheVariants.{Put}
use Rattle.dav_text.specs.Path.{PathParts}
use Rattle.dav_text.specs.declared.tag.Seen.{Seen}
use Rattle.dav_frame.specs.declared.fault.FrameFault.{FrameFault}
use Rattle.dav_frame.specs.declared.fault.FrameFault.TheVariants as faults
use Rattle.dav_frame.specs.declared.phase.Phase.{Phase}
use Rattle.dav_frame.specs.declared.reader.Reply.{Reply}
use Rattle.dav_frame.specs.Framing.{Message, Outcome, Framing, Gives as GivesReply, Closes, Faults, Short}
use Rattle.dav_uri.specs.Target.{BaseParts}
use Rattle.dav_frame.specs.Reading.{FromPhase, Leads, Waits, reply_of}
use Rattle.dav_upload.specs.Exchange.{Heard, Uploaded, IsHeardOf, IsToldOf, Tells, StaysOpen, is_end, Judged, whole, broken, short, memory, Ended, closed, cut, Hears, hears_if, Talks, Shuts, Exchanges, Uploads, put_text}
use Rattle.dav_upload.specs.Exchange.{sends as sends_file, memory as no_memory}

-- a reader that began with so much of a stream
abbrev pub ReadsFrom : List ℕ → Phase → Type 0
ReadsFrom so_far phase = (more : List ℕ) (outcome : Outcome) → FromPhase phase more outcome → Framing Put (so_far ++ more) outcome

-- the piece was taken whole
pub reads_on : (so_far piece : List ℕ) (old new : Phase) (used : ℕ) → ReadsFrom so_far old → Leads old piece new (drop used piece) → used ≡ length piece → ReadsFrom (so_far ++ piece) new
reads_on so_far piece old new used from leads all more outcome here =
    let none : drop used piece ≡ [] = drop_all used piece (omega arith) in
    subst (λ (l : List ℕ). Framing Put l outcome) (sym (append_assoc so_far piece more))
    (from (piece ++ more) outcome (leads more outcome (subst (λ (l : List ℕ). FromPhase new (l ++ more) outcome) (sym none) here)))

-- the bytes so far, where they lead to a phase
reads_here : (so_far : List ℕ) (phase : Phase) (outcome : Outcome) → ReadsFrom so_far phase → FromPhase phase [] outcome → Framing Put so_far outcome
reads_here so_far phase outcome from here = subst (λ (l : List ℕ). Framing Put l outcome) (append-nil so_far) (from [] outcome here)

stays_open : (so_far : List ℕ) (phase : Phase) → ReadsFrom so_far phase → Waits phase → StaysOpen so_far
stays_open so_far phase from (inl here) = inl (reads_here so_far phase Short from here)
stays_open so_far phase from (inr (reply, here)) = inr (reply, reads_here so_far phase (Closes reply) from here)

pub reads_short : (so_far piece : List ℕ) (old new : Phase) (used : ℕ) → ReadsFrom so_far old → Leads old piece new (drop used piece) → used ≡ length piece → Waits new → StaysOpen (so_far ++ piece)
reads_short so_far piece old new used from leads all here = stays_open (so_far ++ piece) new (reads_on so_far piece old new used from leads all) here

pub reads_fault : (so_far piece : List ℕ) (old : Phase) (fault : FrameFault) → ReadsFrom so_far old → ((more : List ℕ) → FromPhase old (piece ++ more) (Faults fault)) → Framing Put (so_far ++ piece) (Faults fault)
reads_fault so_far piece old fault from faults =
    subst (λ (l : List ℕ). Framing Put (so_far ++ l) (Faults fault)) (append-nil piece) (from (piece ++ []) (Faults fault) (faults []))

pub reads_whole : (so_far piece : List ℕ) (old new : Phase) (used : ℕ) (reply : Message) → ReadsFrom so_far old → Leads old piece new (drop used piece) → ((rest : List ℕ) → FromPhase new rest (GivesReply reply rest))
    → Framing Put (so_far ++ piece) (GivesReply reply (drop used piece))
reads_whole so_far piece old new used reply from leads here =
    let left = drop used piece in
    let there : FromPhase new (left ++ []) (GivesReply reply left) = subst (λ (l : List ℕ). FromPhase new l (GivesReply reply left)) (sym (append-nil left)) (here left) in
    subst (λ (l : List ℕ). Framing Put (so_far ++ l) (GivesReply reply left)) (append-nil piece) (from (piece ++ []) (GivesReply reply left) (leads [] (GivesReply reply left) there))

hears_given : (a b : DeviceLog) (so_far piece : List ℕ) (g : ByteMachine Heard) → 0 < length piece → Grew a b (happened (Receive 4096) (Gives piece) ∷ [])
    → ((left : List Answer) (run : Run (List Happened) (List Answer) Heard) → g left run → Judged (so_far ++ piece) (Hears (so_far ++ piece) left) left run) → ReachesOn a b (Hears so_far) g
unfolding Hears
hears_given a b so_far [] g some grew judged = absurd (omega arith)
hears_given a b so_far (x ∷ xs) g some grew judged =
    on_call a b (Hears so_far) g (happened (Receive 4096) (Gives (x ∷ xs))) grew
    (λ more run does. record { rest = does.rest; does = judged more does.rest does.does; is = does.is })

-- a piece came, and the bytes so far are judged
pub hears_piece : (a b : DeviceLog) (so_far buf : List ℕ) (room n : ℕ) (g : ByteMachine Heard) → room ≡ 4096 → (n ≡ 0 → ⊥) → n ≤ length buf → Grew a b (received room buf (Ok n) ∷ [])
    → ((left : List Answer) (run : Run (List Happened) (List Answer) Heard) → g left run → Judged (so_far ++ take n buf) (Hears (so_far ++ take n buf) left) left run) → ReachesOn a b (Hears so_far) g
hears_piece a b so_far buf room n g is some fits grew judged =
    hears_given a b so_far (take n buf) g (simp length-take (omega arith)) (subst (λ (r : ℕ). Grew a b (happened (Receive r) (Gives (take n buf)) ∷ [])) is grew) judged

pub hears_short : (a b : DeviceLog) (so_far buf : List ℕ) (room n : ℕ) → room ≡ 4096 → (n ≡ 0 → ⊥) → n ≤ length buf → Grew a b (received room buf (Ok n) ∷ [])
    → StaysOpen (so_far ++ take n buf) → ReachesOn a b (Hears so_far) (Hears (so_far ++ take n buf))
hears_short a b so_far buf room n is some fits grew framing =
    hears_piece a b so_far buf room n (Hears (so_far ++ take n buf)) is some fits grew (λ left run does. short framing does)

pub hears_whole : (a b : DeviceLog) (so_far buf : List ℕ) (room n : ℕ) (reply : Message) (rest : List ℕ) (heard : Heard) → room ≡ 4096 → (n ≡ 0 → ⊥) → n ≤ length buf → Grew a b (received room buf (Ok n) ∷ [])
    → Framing Put (so_far ++ take n buf) (GivesReply reply rest) → heard ≡ Ok (Some (reply_of reply (is_end rest))) → DoesOn a b (Hears so_far) heard
hears_whole a b so_far buf room n reply rest heard is some fits grew framing gives =
    subst (λ (h : Heard). DoesOn a b (Hears so_far) h) (sym gives)
    (hears_piece a b so_far buf room n (give one_device (Ok (Some (reply_of reply (is_end rest))))) is some fits grew (λ left run does. whole reply rest framing does))

pub hears_broken : (a b : DeviceLog) (so_far buf : List ℕ) (room n : ℕ) (fault : FrameFault) → room ≡ 4096 → (n ≡ 0 → ⊥) → n ≤ length buf → Grew a b (received room buf (Ok n) ∷ [])
    → Framing Put (so_far ++ take n buf) (Faults fault) → DoesOn a b (Hears so_far) (Ok None)
hears_broken a b so_far buf room n fault is some fits grew framing =
    hears_piece a b so_far buf room n (give one_device (Ok None)) is some fits grew (λ left run does. broken fault framing does)

pub hears_starved : (a b : DeviceLog) (so_far buf : List ℕ) (room n : ℕ) (want : Memory) → room ≡ 4096 → (n ≡ 0 → ⊥) → n ≤ length buf → Grew a b (received room buf (Ok n) ∷ [])
    → DoesOn a b (Hears so_far) (Err want)
hears_starved a b so_far buf room n want is some fits grew =
    hears_piece a b so_far buf room n (give one_device (Err want)) is some fits grew (λ left run does. memory want does)

-- the reader answered a fault
pub hears_fault : (a b : DeviceLog) (so_far buf : List ℕ) (room n : ℕ) (old : Phase) (fault : FrameFault) (heard : Heard) → room ≡ 4096 → (n ≡ 0 → ⊥) → n ≤ length buf → Grew a b (received room buf (Ok n) ∷ [])
    → ReadsFrom so_far old → (fault ≢ faults.Memory → (more : List ℕ) → FromPhase old (take n buf ++ more) (Faults fault)) → IsHeardOf fault heard → DoesOn a b (Hears so_far) heard
hears_fault a b so_far buf room n old fault heard is some fits grew from faulty (inl starved) =
    subst (λ (h : Heard). DoesOn a b (Hears so_far) h) (sym starved.1) (hears_starved a b so_far buf room n starved.0 is some fits grew)
hears_fault a b so_far buf room n old fault heard is some fits grew from faulty (inr broke) =
    subst (λ (h : Heard). DoesOn a b (Hears so_far) h) (sym broke.1)
    (hears_broken a b so_far buf room n fault is some fits grew (reads_fault so_far (take n buf) old fault from (faulty broke.0)))

hears_nothing : (a b : DeviceLog) (so_far : List ℕ) (heard : Heard) → Grew a b (happened (Receive 4096) (Gives []) ∷ [])
    → ((left : List Answer) (run : Run (List Happened) (List Answer) Heard) → give one_device heard left run → Ended so_far left run) → DoesOn a b (Hears so_far) heard
unfolding Hears
hears_nothing a b so_far heard grew ends =
    on_call a b (Hears so_far) (give one_device heard) (happened (Receive 4096) (Gives [])) grew (λ more run does. record { rest = does.rest; does = ends more does.rest does.does; is = does.is })

-- no byte follows where the piece was taken whole
end_of_piece : (piece rest : List ℕ) (used : ℕ) → used ≤ length piece → drop used piece ≡ rest → (used == length piece) ≡ is_end rest
end_of_piece piece [] used fits is =
    let none : length (drop used piece) ≡ 0 = ap length is in
    let all : used ≡ length piece = omega (arith, length-drop {A = ℕ}) in grind (arith, nat_tests)
end_of_piece piece (b ∷ rest) used fits is =
    let some : length (drop used piece) ≡ length (b ∷ rest) = ap length is in
    let less : used < length piece = omega (arith, length-drop {A = ℕ}) in grind (arith, nat_tests)

-- the reply that was read, whose last byte this piece holds
pub reply_in : (piece : List ℕ) (used : ℕ) (alone : Bool) (message : Message) (heard : Reply) → used ≤ length piece → alone ≡ (used == length piece) → heard ≡ reply_of message alone
    → heard ≡ reply_of message (is_end (drop used piece))
reply_in piece used alone message heard fits is read =
    read ∙ ap (reply_of message) (is ∙ end_of_piece piece (drop used piece) used fits refl)

-- what the reader answers at the connection's end
abbrev pub IsEnded : Phase → Option Reply → Type 0
IsEnded phase heard =
    ((reply : Message) × FromPhase phase [] (Closes reply) × (heard ≡ Some (reply_of reply false))) ⊎ (FromPhase phase [] Short × (heard ≡ None))

ended_so : (so_far : List ℕ) (phase : Phase) (heard : Option Reply) → ReadsFrom so_far phase → IsEnded phase heard
    → (left : List Answer) (run : Run (List Happened) (List Answer) Heard) → give one_device (Ok heard) left run → Ended so_far left run
ended_so so_far phase heard from (inl (reply, here, is)) left run gives =
    closed reply (reads_here so_far phase (Closes reply) from here) (subst (λ (o : Option Reply). give one_device (Ok o) left run) is gives)
ended_so so_far phase heard from (inr (here, is)) left run gives =
    cut (reads_here so_far phase Short from here) (subst (λ (o : Option Reply). give one_device (Ok o) left run) is gives)

-- the connection came to its end
pub hears_end : (a b : DeviceLog) (so_far buf : List ℕ) (room n : ℕ) (phase : Phase) (heard : Option Reply) → room ≡ 4096 → n ≡ 0 → Grew a b (received room buf (Ok n) ∷ []) → ReadsFrom so_far phase → IsEnded phase heard
    → DoesOn a b (Hears so_far) (Ok heard)
hears_end a b so_far buf room n phase heard is none grew from ends =
    hears_nothing a b so_far (Ok heard) (subst (λ (k : ℕ). Grew a b (happened (Receive 4096) (Gives (take k buf)) ∷ [])) none (subst (λ (r : ℕ). Grew a b (happened (Receive r) (Gives (take n buf)) ∷ [])) is grew))
    (ended_so so_far phase heard from ends)

pub hears_failed : (a b : DeviceLog) (so_far buf : List ℕ) (room : ℕ) (e : Failed) → room ≡ 4096 → Grew a b (received room buf (Err e) ∷ []) → DoesOn a b (Hears so_far) (Ok None)
unfolding Hears
hears_failed a b so_far buf room e is grew =
    on_call a b (Hears so_far) (give one_device (Ok None)) (happened (Receive 4096) Fails) (subst (λ (r : ℕ). Grew a b (happened (Receive r) Fails ∷ [])) is grew) (λ more run does. does)

pub talks_sent : (a b c : DeviceLog) (text : List ℕ) (heard : Heard) → DoesOn a b (Sends text) true → DoesOn b c (Hears []) heard → DoesOn a c (Talks text) heard
talks_sent a b c text heard sending hearing =
    on_then a b c (Talks text) (Hears []) (give one_device heard) (reaches_next one_device (Grew a b) (Sends text) true hears_if sending) hearing

pub talks_failed : (a b : DeviceLog) (text : List ℕ) → DoesOn a b (Sends text) false → DoesOn a b (Talks text) (Ok None)
talks_failed a b text sending = reaches_next one_device (Grew a b) (Sends text) false hears_if sending

shuts : (a b : DeviceLog) (heard : Heard) → Grew a b (shut_down ∷ []) → DoesOn a b (Shuts heard) heard
shuts a b heard grew = on_call a b (Shuts heard) (give one_device heard) shut_down grew (λ more run does. does)

pub exchanges_whole : (a b c d : DeviceLog) (base : BaseParts) (text host : List ℕ) (port : ℕ) (u : Unit {0}) (heard : Heard) → host ≡ base.host → port ≡ base.port → Grew a b (connected host port (Ok u) ∷ []) → DoesOn b c (Talks text) heard → Grew c d (shut_down ∷ [])
    → DoesOn a d (Exchanges base text) heard
exchanges_whole a b c d base text host port u heard to_host to_port connected_ talking shutting =
    let connecting : Grew a b (connected base.host base.port (Ok u) ∷ []) =
    subst (λ (h : List ℕ). Grew a b (connected h base.port (Ok u) ∷ [])) to_host (subst (λ (p : ℕ). Grew a b (connected host p (Ok u) ∷ [])) to_port connected_) in
    on_then a b d (Exchanges base text) (and_then one_device (Talks text) Shuts) (give one_device heard)
    (on_call a b (Exchanges base text) (and_then one_device (Talks text) Shuts) (happened (Connect base.host base.port) Goes) connecting (λ more run does. does))
    (on_then b c d (and_then one_device (Talks text) Shuts) (Shuts heard) (give one_device heard)
    (reaches_next one_device (Grew b c) (Talks text) heard Shuts talking)
    (shuts c d heard shutting))

pub exchanges_failed : (a b : DeviceLog) (base : BaseParts) (text host : List ℕ) (port : ℕ) (e : Failed) → host ≡ base.host → port ≡ base.port → Grew a b (connected host port (Err e) ∷ []) → DoesOn a b (Exchanges base text) (Ok None)
exchanges_failed a b base text host port e to_host to_port connected_ =
    let connecting : Grew a b (connected base.host base.port (Err e) ∷ []) =
    subst (λ (h : List ℕ). Grew a b (connected h base.port (Err e) ∷ [])) to_host (subst (λ (p : ℕ). Grew a b (connected host p (Err e) ∷ [])) to_port connected_) in
    on_call a b (Exchanges base text) (give one_device (Ok None)) (happened (Connect base.host base.port) Fails) connecting (λ more run does. does)

tells : (a : DeviceLog) (seen : Seen) (heard : Heard) (told : Uploaded) → IsToldOf seen heard told → DoesOn a a (Tells seen heard) told
tells a seen heard told is =
    reaches_as one_device (Grew a a) (Tells seen heard) (give one_device told) (Tells seen heard) (λ answers run does. record { told = told; is = is; gives = does }) (on_same a (Tells seen heard))

pub uploads_sent : (a b : DeviceLog) (base : BaseParts) (text : List ℕ) (path : PathParts) (seen : Seen) (bytes : List ℕ) (heard : Heard) (told : Uploaded) → text ≡ put_text base path seen bytes → DoesOn a b (Exchanges base text) heard → IsToldOf seen heard told
    → DoesOn a b (Uploads base path seen bytes) told
uploads_sent a b base text path seen bytes heard told is one here =
    let exchanging : DoesOn a b (Exchanges base (put_text base path seen bytes)) heard = subst (λ (t : List ℕ). DoesOn a b (Exchanges base t) heard) is one in
    let both = and_then one_device (Exchanges base (put_text base path seen bytes)) (Tells seen) in
    on_then a b b (Uploads base path seen bytes) (Tells seen heard) (give one_device told)
    (as_reaches one_device (Grew a b) both (Tells seen heard) (Uploads base path seen bytes) (λ answers run does. sends_file does)
    (reaches_next one_device (Grew a b) (Exchanges base (put_text base path seen bytes)) heard (Tells seen) exchanging))
    (tells b seen heard told here)

pub uploads_starved : (a : DeviceLog) (base : BaseParts) (path : PathParts) (seen : Seen) (bytes : List ℕ) (want : Memory) → DoesOn a a (Uploads base path seen bytes) (Err want)
uploads_starved a base path seen bytes want =
    reaches_as one_device (Grew a a) (Uploads base path seen bytes) (give one_device (Err want)) (Uploads base path seen bytes) (λ answers run does. no_memory want does) (on_same a (Uploads base path seen bytes))
