-- What an exchange that gave a reply made on its wire: one connection, on which the whole text was
-- sent and a whole reply came.
use Rattle.std.proofs.Common.{◌≡◌, ℕ, List, [], ◌∷◌, ◌++◌, Some, None, Ok, Err, Bool, true, false, refl, sym, ◌∙◌, ap, subst, append_assoc, append-nil}
use Rattle.dav_machine.specs.Devices.{one_device}
use Rattle.dav_machine.specs.Machine.{Run, run_with, prepend, give, Follows}
use Rattle.dav_edge.specs.Device.{Connect, Receive, Fails, Goes, Takes, Gives, Answer, Happened, happened, shut_down, taken}
use Rattle.dav_edge.specs.Connections.{Connection, connection, Connections, with_standing, all_of, sending, receiving, after_calls}
use Rattle.dav_edge.specs.Whole.{Sends}
use Rattle.dav_edge.proofs.Connecting.{after_calls-append}
use Rattle.dav_edge.proofs.Sending.{sent_so, sends_standing}
use Rattle.dav_text.specs.declared.memory.Memory.{Memory}
use Rattle.dav_text.specs.declared.method.Method.TheVariants.{Put}
use Rattle.dav_uri.specs.Target.{BaseParts}
use Rattle.dav_frame.specs.Framing.{Message, Framing, Gives as GivesReply, Closes}
use Rattle.dav_frame.specs.Reading.{reply_of}
use Rattle.dav_frame.specs.declared.reader.Reply.{Reply}
use Rattle.dav_upload.specs.Exchange.{Heard, HasReply, is_whole, is_closed, is_end, Judged, whole, broken, short, memory, Ended, closed, cut, Hears, hears_if, Talks, Shuts, Exchanges}

abbrev HeardRun : Type 0
HeardRun = Run (List Happened) (List Answer) Heard

abbrev no_reply_heard : Heard
no_reply_heard = Ok None

abbrev want_heard : Memory → Heard
want_heard want = Err want

abbrev reply_heard : Reply → Heard
reply_heard told = Ok (Some told)

none_is_no : (told : Reply) → no_reply_heard ≡ reply_heard told → ⊥
none_is_no told is = cc

want_is_no : (want : Memory) (told : Reply) → want_heard want ≡ reply_heard told → ⊥
want_is_no want told is = cc

one_heard : (one told : Reply) → reply_heard one ≡ reply_heard told → one ≡ told
one_heard one told same = cc

-- more bytes were received on the connection that stands, and with them a whole reply of this status stands
pub record Replied (so_far : List ℕ) (told : Reply) (events : List Happened) : Type 0 where
  pub bytes : List ℕ
  pub reply : Message
  pub has : HasReply (so_far ++ bytes) reply
  pub is : reply.head.status ≡ told.status
  pub receives : (ended : List Connection) (c : Connection) → after_calls (with_standing ended (Some c)) events ≡ with_standing ended (Some (receiving bytes c))

replied_piece : (so_far piece : List ℕ) (told : Reply) (e : Happened) (left : List Answer) (run rest : HeardRun) → e ≡ happened (Receive 4096) (Gives piece) → run ≡ prepend one_device (e ∷ []) rest → run.result ≡ Ok (Some told)
    → (reply : Message) (after : List ℕ) → Framing Put (so_far ++ piece) (GivesReply reply after) → give one_device (Ok (Some (reply_of reply (is_end after)))) left rest → Replied so_far told run.made
replied_piece so_far piece told e left run rest e_is is heard reply after framing gives =
    let run_is : run ≡ run_with (Ok (Some (reply_of reply (is_end after)))) (happened (Receive 4096) (Gives piece) ∷ []) left =
    is ∙ ap (prepend one_device (e ∷ [])) gives ∙ ap (λ (x : Happened). let r : HeardRun = run_with (Ok (Some (reply_of reply (is_end after)))) (x ∷ []) left in r) e_is in
    let made : run.made ≡ happened (Receive 4096) (Gives piece) ∷ [] = ap (λ (r : HeardRun). r.made) run_is in
    let same : Ok (Some (reply_of reply (is_end after))) ≡ Ok (Some told) = sym (ap (λ (r : HeardRun). r.result) run_is) ∙ heard in
    subst (Replied so_far told) (sym made) (record {
      bytes = piece;
      reply = reply;
      has = is_whole after framing;
      is = ap (λ (r : Reply). r.status) (one_heard _ told same);
      receives = λ ended c. refl;
    })

replied_more : (so_far piece : List ℕ) (told : Reply) (run rest : HeardRun) → run ≡ prepend one_device (happened (Receive 4096) (Gives piece) ∷ []) rest → Replied (so_far ++ piece) told rest.made → Replied so_far told run.made
replied_more so_far piece told run rest is more =
    subst (Replied so_far told) (sym (ap (λ (r : HeardRun). r.made) is)) (record {
      bytes = piece ++ more.bytes;
      reply = more.reply;
      has = subst (λ (l : List ℕ). HasReply l more.reply) (append_assoc so_far piece more.bytes) more.has;
      is = more.is;
      receives = λ ended c. more.receives ended (receiving piece c) ∙ ap (λ (l : List ℕ). with_standing ended (Some (connection c.host c.port c.sent l))) (append_assoc c.received piece more.bytes);
    })

no_reply : (so_far : List ℕ) (told : Reply) (e : Happened) (left : List Answer) (run rest : HeardRun) → run ≡ prepend one_device (e ∷ []) rest → run.result ≡ Ok (Some told) → (other : Heard) → (other ≡ Ok (Some told) → ⊥) → give one_device other left rest → Replied so_far told run.made
no_reply so_far told e left run rest is heard other bad gives =
    absurd (bad (sym (ap (λ (r : HeardRun). r.result) (is ∙ ap (prepend one_device (e ∷ [])) gives)) ∙ heard))

judged_replied : (so_far piece : List ℕ) (told : Reply) (left : List Answer) (run rest : HeardRun) → run ≡ prepend one_device (happened (Receive 4096) (Gives piece) ∷ []) rest → run.result ≡ Ok (Some told)
    → (GoesOn : HeardRun → Type 0) → Judged (so_far ++ piece) GoesOn left rest → (GoesOn rest → rest.result ≡ Ok (Some told) → Replied (so_far ++ piece) told rest.made) → Replied so_far told run.made
judged_replied so_far piece told left run rest is heard GoesOn (whole reply after framing gives) later =
    replied_piece so_far piece told _ left run rest refl is heard reply after framing gives
judged_replied so_far piece told left run rest is heard GoesOn (broken fault framing gives) later =
    no_reply so_far told _ left run rest is heard (Ok None) (none_is_no told) gives
judged_replied so_far piece told left run rest is heard GoesOn (short framing goes) later =
    replied_more so_far piece told run rest is (later goes (sym (ap (λ (r : HeardRun). r.result) is) ∙ heard))
judged_replied so_far piece told left run rest is heard GoesOn (memory want gives) later =
    no_reply so_far told _ left run rest is heard (Err want) (want_is_no want told) gives

-- a reply whose body ends where the connection does
ended_replied : (so_far : List ℕ) (told : Reply) (left : List Answer) (run rest : HeardRun) → run ≡ prepend one_device (happened (Receive 4096) (Gives []) ∷ []) rest → run.result ≡ Ok (Some told)
    → Ended so_far left rest → Replied so_far told run.made
ended_replied so_far told left run rest is heard (closed reply framing gives) =
    let run_is : run ≡ run_with (Ok (Some (reply_of reply false))) (happened (Receive 4096) (Gives []) ∷ []) left =
    is ∙ ap (prepend one_device (happened (Receive 4096) (Gives []) ∷ [])) gives in
    let made : run.made ≡ happened (Receive 4096) (Gives []) ∷ [] = ap (λ (r : HeardRun). r.made) run_is in
    let same : Ok (Some (reply_of reply false)) ≡ Ok (Some told) = sym (ap (λ (r : HeardRun). r.result) run_is) ∙ heard in
    subst (Replied so_far told) (sym made) (record {
      bytes = [];
      reply = reply;
      has = is_closed (subst (λ (l : List ℕ). Framing Put l (Closes reply)) (sym (append-nil so_far)) framing);
      is = ap (λ (r : Reply). r.status) (one_heard _ told same);
      receives = λ ended c. refl;
    })
ended_replied so_far told left run rest is heard (cut framing gives) =
    no_reply so_far told _ left run rest is heard (Ok None) (none_is_no told) gives

pub hears_replied : (so_far : List ℕ) (told : Reply) (answers : List Answer) (run : HeardRun) → Hears so_far answers run → run.result ≡ Ok (Some told) → Replied so_far told run.made
unfolding Hears
hears_replied so_far told [] run does heard = absurd does
hears_replied so_far told (Fails ∷ more) run does heard = no_reply so_far told _ more run does.rest does.is heard (Ok None) (none_is_no told) does.does
hears_replied so_far told (Goes ∷ more) run does heard = absurd does
hears_replied so_far told (Takes n ∷ more) run does heard = absurd does
hears_replied so_far told (Gives [] ∷ more) run does heard = ended_replied so_far told more run does.rest does.is heard does.does
hears_replied so_far told (Gives (b ∷ bytes) ∷ more) run does heard =
    judged_replied so_far (b ∷ bytes) told more run does.rest does.is heard (Hears (so_far ++ b ∷ bytes) more) does.does
    (λ goes still. hears_replied (so_far ++ b ∷ bytes) told more does.rest goes still)

-- on one connection to the host's port the whole text was sent, and a whole reply of this status came
pub record Answered (base : BaseParts) (text : List ℕ) (told : Reply) (events : List Happened) : Type 0 where
  pub received : List ℕ
  pub reply : Message
  pub has : HasReply received reply
  pub is : reply.head.status ≡ told.status
  pub makes : (cs : Connections) → after_calls cs events ≡ with_standing (all_of cs ++ connection base.host base.port text received ∷ []) None

-- what the text and its reply add to a connection that stands
record Talked (text : List ℕ) (told : Reply) (events : List Happened) : Type 0 where
  received : List ℕ
  reply : Message
  has : HasReply received reply
  is : reply.head.status ≡ told.status
  adds : (ended : List Connection) (c : Connection) → after_calls (with_standing ended (Some c)) events ≡ with_standing ended (Some (receiving received (sending text c)))

talks_by : (text : List ℕ) (told : Reply) (answers : List Answer) (run : HeardRun) (all : Bool) (does : Follows one_device (Sends text) hears_if answers run) → does.before.result ≡ all
    → hears_if all does.before.left does.after → run.result ≡ Ok (Some told) → Talked text told run.made
talks_by text told answers run true does sent hears heard =
    let made : run.made ≡ does.before.made ++ does.after.made = ap (λ (r : HeardRun). r.made) does.whole in
    let replied = hears_replied [] told does.before.left does.after hears (sym (ap (λ (r : HeardRun). r.result) does.whole) ∙ heard) in
    let all_taken : taken does.before.made ≡ text = (sent_so text answers does.before does.begins).whole sent in
    subst (Talked text told) (sym made) (record {
      received = replied.bytes;
      reply = replied.reply;
      has = replied.has;
      is = replied.is;
      adds = λ ended c.
          after_calls-append (with_standing ended (Some c)) does.before.made does.after.made
          ∙ ap (λ (cs : Connections). after_calls cs does.after.made) (sends_standing ended c text answers does.before does.begins)
          ∙ replied.receives ended (sending (taken does.before.made) c)
          ∙ ap (λ (l : List ℕ). with_standing ended (Some (receiving replied.bytes (sending l c)))) all_taken;
    })
talks_by text told answers run false does sent hears heard =
    absurd (none_is_no told (sym (ap (λ (r : HeardRun). r.result) (does.whole ∙ ap (prepend one_device does.before.made) hears)) ∙ heard))

talks_replied : (text : List ℕ) (told : Reply) (answers : List Answer) (run : HeardRun) → Talks text answers run → run.result ≡ Ok (Some told) → Talked text told run.made
talks_replied text told answers run does heard = talks_by text told answers run does.before.result does refl does.goes_on heard

pub record ShutDown (heard : Heard) (run : HeardRun) : Type 0 where
  pub result : run.result ≡ heard
  pub ends : (cs : Connections) → after_calls cs run.made ≡ with_standing (all_of cs) None

pub shuts_down : (heard : Heard) (answers : List Answer) (run : HeardRun) → Shuts heard answers run → ShutDown heard run
shuts_down heard [] run does = absurd does
shuts_down heard (Fails ∷ more) run does = absurd does
shuts_down heard (Takes n ∷ more) run does = absurd does
shuts_down heard (Gives piece ∷ more) run does = absurd does
shuts_down heard (Goes ∷ more) run does =
    subst (ShutDown heard) (sym (does.is ∙ ap (prepend one_device (shut_down ∷ [])) does.does)) (record { result = refl; ends = λ cs. refl })

connected_replied : (base : BaseParts) (text : List ℕ) (told : Reply) (answers : List Answer) (run rest : HeardRun) → run ≡ prepend one_device (happened (Connect base.host base.port) Goes ∷ []) rest
    → Follows one_device (Talks text) Shuts answers rest → run.result ≡ Ok (Some told) → Answered base text told run.made
connected_replied base text told answers run rest is does heard =
    let shut = shuts_down does.before.result does.before.left does.after does.goes_on in
    let result : does.before.result ≡ Ok (Some told) =
    sym shut.result ∙ sym (ap (λ (r : HeardRun). r.result) does.whole) ∙ sym (ap (λ (r : HeardRun). r.result) is) ∙ heard in
    let talked = talks_replied text told answers does.before does.begins result in
    let made : run.made ≡ happened (Connect base.host base.port) Goes ∷ (does.before.made ++ does.after.made) =
    ap (λ (r : HeardRun). r.made) is ∙ ap (λ (r : HeardRun). happened (Connect base.host base.port) Goes ∷ r.made) does.whole in
    subst (Answered base text told) (sym made) (record {
      received = talked.received;
      reply = talked.reply;
      has = talked.has;
      is = talked.is;
      makes = λ cs.
          after_calls-append (with_standing (all_of cs) (Some (connection base.host base.port [] []))) does.before.made does.after.made
          ∙ ap (λ (k : Connections). after_calls k does.after.made) (talked.adds (all_of cs) (connection base.host base.port [] []))
          ∙ shut.ends (with_standing (all_of cs) (Some (connection base.host base.port text talked.received)));
    })

pub exchange_replied : (base : BaseParts) (text : List ℕ) (told : Reply) (answers : List Answer) (run : HeardRun) → Exchanges base text answers run → run.result ≡ Ok (Some told) → Answered base text told run.made
exchange_replied base text told [] run does heard = absurd does
exchange_replied base text told (Fails ∷ more) run does heard =
    absurd (none_is_no told (sym (ap (λ (r : HeardRun). r.result) (does.is ∙ ap (prepend one_device (happened (Connect base.host base.port) Fails ∷ [])) does.does)) ∙ heard))
exchange_replied base text told (Goes ∷ more) run does heard = connected_replied base text told more run does.rest does.is does.does heard
exchange_replied base text told (Takes n ∷ more) run does heard = absurd does
exchange_replied base text told (Gives piece ∷ more) run does heard = absurd does
