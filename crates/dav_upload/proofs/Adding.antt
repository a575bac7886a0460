-- What one request makes of a wire: a connection on which a beginning of its text was sent and nothing else, or none.
use Rattle.std.proofs.Common.{◌≡◌, ℕ, List, Option, [], ◌∷◌, ◌++◌, Some, None, Ok, Err, Bool, true, false, refl, sym, ◌∙◌, ap, subst, append_assoc, append-nil}
use Rattle.dav_machine.specs.Devices.{one_device}
use Rattle.dav_machine.specs.Machine.{Run, prepend, give, Follows}
use Rattle.dav_edge.specs.Device.{Connect, Receive, Fails, Goes, Takes, Gives, Answer, Happened, happened, taken}
use Rattle.dav_edge.specs.Connections.{Connection, connection, Connections, with_standing, sending, receiving, after_calls}
use Rattle.dav_edge.specs.Whole.{Sends}
use Rattle.dav_edge.proofs.Connecting.{after_calls-append}
use Rattle.dav_edge.proofs.Sending.{sent_so, sends_standing}
use Rattle.dav_text.specs.Path.{PathParts}
use Rattle.dav_text.specs.declared.tag.Seen.{Seen}
use Rattle.dav_frame.specs.Reading.{reply_of}
use Rattle.dav_uri.specs.Target.{BaseParts}
use Rattle.dav_upload.specs.Exchange.{Heard, Uploaded, is_end, Judged, whole, broken, short, memory, Ended, closed, cut, Hears, hears_if, Talks, Shuts, Exchanges, Uploads, sends, memory as no_memory, put_text}
use Rattle.dav_upload.specs.Sent.{IsBegun}
use Rattle.dav_upload.proofs.Putting.{shuts_down}

abbrev HeardRun : Type 0
HeardRun = Run (List Happened) (List Answer) Heard

-- none or one
abbrev pub as_list : Option Connection → List Connection
as_list None = []
as_list (Some c) = c ∷ []

-- where there is one, this holds of it
abbrev pub OnSome : Option Connection → (Connection → Type 0) → Type 0
OnSome None P = Unit {0}
OnSome (Some c) P = P c

receiving-nil : (c : Connection) → receiving [] c ≡ c
receiving-nil c = ap (λ (l : List ℕ). connection c.host c.port c.sent l) (append-nil c.received)

-- bytes were received on the connection that stands, and nothing else was done to it
record Receives (events : List Happened) : Type 0 where
  bytes : List ℕ
  receives : (ended : List Connection) (c : Connection) → after_calls (with_standing ended (Some c)) events ≡ with_standing ended (Some (receiving bytes c))

receives_none : (left : List Answer) (run rest : HeardRun) (heard : Heard) → run ≡ prepend one_device (happened (Receive 4096) Fails ∷ []) rest → give one_device heard left rest → Receives run.made
receives_none left run rest heard is gives =
    subst Receives (sym (ap (λ (r : HeardRun). r.made) (is ∙ ap (prepend one_device (happened (Receive 4096) Fails ∷ [])) gives)))
    (record { bytes = []; receives = λ ended c. ap (λ (k : Connection). with_standing ended (Some k)) (sym (receiving-nil c)) })

receives_piece : (piece : List ℕ) (left : List Answer) (run rest : HeardRun) (heard : Heard) → run ≡ prepend one_device (happened (Receive 4096) (Gives piece) ∷ []) rest → give one_device heard left rest → Receives run.made
receives_piece piece left run rest heard is gives =
    subst Receives (sym (ap (λ (r : HeardRun). r.made) (is ∙ ap (prepend one_device (happened (Receive 4096) (Gives piece) ∷ [])) gives)))
    (record { bytes = piece; receives = λ ended c. refl })

receives_more : (piece : List ℕ) (run rest : HeardRun) → run ≡ prepend one_device (happened (Receive 4096) (Gives piece) ∷ []) rest → Receives rest.made → Receives run.made
receives_more piece run rest is more =
    subst Receives (sym (ap (λ (r : HeardRun). r.made) is)) (record {
      bytes = piece ++ more.bytes;
      receives = λ ended c. more.receives ended (receiving piece c) ∙ ap (λ (l : List ℕ). with_standing ended (Some (connection c.host c.port c.sent l))) (append_assoc c.received piece more.bytes);
    })

judged_receives : (so_far piece : List ℕ) (left : List Answer) (run rest : HeardRun) → run ≡ prepend one_device (happened (Receive 4096) (Gives piece) ∷ []) rest
    → (GoesOn : HeardRun → Type 0) → Judged so_far GoesOn left rest → (GoesOn rest → Receives rest.made) → Receives run.made
judged_receives so_far piece left run rest is GoesOn (whole reply after framing gives) later = receives_piece piece left run rest (Ok (Some (reply_of reply (is_end after)))) is gives
judged_receives so_far piece left run rest is GoesOn (broken fault framing gives) later = receives_piece piece left run rest (Ok None) is gives
judged_receives so_far piece left run rest is GoesOn (short framing goes) later = receives_more piece run rest is (later goes)
judged_receives so_far piece left run rest is GoesOn (memory want gives) later = receives_piece piece left run rest (Err want) is gives

ended_receives : (so_far : List ℕ) (left : List Answer) (run rest : HeardRun) → run ≡ prepend one_device (happened (Receive 4096) (Gives []) ∷ []) rest
    → Ended so_far left rest → Receives run.made
ended_receives so_far left run rest is (closed reply framing gives) = receives_piece [] left run rest (Ok (Some (reply_of reply false))) is gives
ended_receives so_far left run rest is (cut framing gives) = receives_piece [] left run rest (Ok None) is gives

hears_receives : (so_far : List ℕ) (answers : List Answer) (run : HeardRun) → Hears so_far answers run → Receives run.made
unfolding Hears
hears_receives so_far [] run does = absurd does
hears_receives so_far (Fails ∷ more) run does = receives_none more run does.rest (Ok None) does.is does.does
hears_receives so_far (Goes ∷ more) run does = absurd does
hears_receives so_far (Takes n ∷ more) run does = absurd does
hears_receives so_far (Gives [] ∷ more) run does = ended_receives so_far more run does.rest does.is does.does
hears_receives so_far (Gives (b ∷ bytes) ∷ more) run does =
    judged_receives (so_far ++ b ∷ bytes) (b ∷ bytes) more run does.rest does.is (Hears (so_far ++ b ∷ bytes) more) does.does
    (λ goes. hears_receives (so_far ++ b ∷ bytes) more does.rest goes)

-- a beginning of the text was sent on the connection that stands
record Talked (text : List ℕ) (events : List Happened) : Type 0 where
  sent : List ℕ
  cut : List ℕ
  begins : sent ++ cut ≡ text
  received : List ℕ
  adds : (ended : List Connection) (c : Connection) → after_calls (with_standing ended (Some c)) events ≡ with_standing ended (Some (receiving received (sending sent c)))

talked_by : (text : List ℕ) (answers : List Answer) (run : HeardRun) (all : Bool) (does : Follows one_device (Sends text) hears_if answers run) → hears_if all does.before.left does.after → Talked text run.made
talked_by text answers run true does hears =
    let so = sent_so text answers does.before does.begins in
    let heard = hears_receives [] does.before.left does.after hears in
    subst (Talked text) (sym (ap (λ (r : HeardRun). r.made) does.whole)) (record {
      sent = taken does.before.made;
      cut = so.not_taken;
      begins = so.beginning;
      received = heard.bytes;
      adds = λ ended c.
          after_calls-append (with_standing ended (Some c)) does.before.made does.after.made
          ∙ ap (λ (cs : Connections). after_calls cs does.after.made) (sends_standing ended c text answers does.before does.begins)
          ∙ heard.receives ended (sending (taken does.before.made) c);
    })
talked_by text answers run false does hears =
    let so = sent_so text answers does.before does.begins in
    let made : run.made ≡ does.before.made =
    ap (λ (r : HeardRun). r.made) (does.whole ∙ ap (prepend one_device does.before.made) hears) ∙ append-nil does.before.made in
    subst (Talked text) (sym made) (record {
      sent = taken does.before.made;
      cut = so.not_taken;
      begins = so.beginning;
      received = [];
      adds = λ ended c.
          sends_standing ended c text answers does.before does.begins
          ∙ ap (λ (k : Connection). with_standing ended (Some k)) (sym (receiving-nil (sending (taken does.before.made) c)));
    })

-- one connection to the host was begun and ended, and a beginning of the text was sent on it; or there was none
pub record Adds (base : BaseParts) (text : List ℕ) (events : List Happened) : Type 0 where
  pub new : Option Connection
  pub begun : OnSome new (IsBegun base text)
  pub adds : (ended : List Connection) → after_calls (with_standing ended None) events ≡ with_standing (ended ++ as_list new) None

adds_none : (base : BaseParts) (text : List ℕ) (events : List Happened) → ((ended : List Connection) → after_calls (with_standing ended None) events ≡ with_standing ended None) → Adds base text events
adds_none base text events same = record {
  new = None;
  begun = tt;
  adds = λ ended. same ended ∙ ap (λ (l : List Connection). with_standing l None) (sym (append-nil ended));
}

connected_adds : (base : BaseParts) (text : List ℕ) (answers : List Answer) (run rest : HeardRun) → run ≡ prepend one_device (happened (Connect base.host base.port) Goes ∷ []) rest → Follows one_device (Talks text) Shuts answers rest → Adds base text run.made
connected_adds base text answers run rest is does =
    let shut = shuts_down does.before.result does.before.left does.after does.goes_on in
    let talked = talked_by text answers does.before does.begins.before.result does.begins does.begins.goes_on in
    let made : run.made ≡ happened (Connect base.host base.port) Goes ∷ (does.before.made ++ does.after.made) =
    ap (λ (r : HeardRun). r.made) is ∙ ap (λ (r : HeardRun). happened (Connect base.host base.port) Goes ∷ r.made) does.whole in
    let c = connection base.host base.port talked.sent talked.received in
    subst (Adds base text) (sym made) (record {
      new = Some c;
      begun = record { to_host = refl; to_port = refl; cut = talked.cut; sent = talked.begins };
      adds = λ ended.
          after_calls-append (with_standing ended (Some (connection base.host base.port [] []))) does.before.made does.after.made
          ∙ ap (λ (k : Connections). after_calls k does.after.made) (talked.adds ended (connection base.host base.port [] []))
          ∙ shut.ends (with_standing ended (Some c));
    })

exchange_adds : (base : BaseParts) (text : List ℕ) (answers : List Answer) (run : HeardRun) → Exchanges base text answers run → Adds base text run.made
exchange_adds base text [] run does = absurd does
exchange_adds base text (Fails ∷ more) run does =
    adds_none base text run.made (λ ended. ap (λ (r : HeardRun). after_calls (with_standing ended None) r.made) (does.is ∙ ap (prepend one_device (happened (Connect base.host base.port) Fails ∷ [])) does.does))
exchange_adds base text (Goes ∷ more) run does = connected_adds base text more run does.rest does.is does.does
exchange_adds base text (Takes n ∷ more) run does = absurd does
exchange_adds base text (Gives piece ∷ more) run does = absurd does

abbrev pub UploadRun : Type 0
UploadRun = Run (List Happened) (List Answer) Uploaded

pub upload_adds : (base : BaseParts) (path : PathParts) (seen : Seen) (bytes : List ℕ) (answers : List Answer) (run : UploadRun) → Uploads base path seen bytes answers run → Adds base (put_text base path seen bytes) run.made
upload_adds base path seen bytes answers run (sends does) =
    let made : run.made ≡ does.before.made =
    ap (λ (r : UploadRun). r.made) (does.whole ∙ ap (prepend one_device does.before.made) does.goes_on.gives) ∙ append-nil does.before.made in
    subst (Adds base (put_text base path seen bytes)) (sym made) (exchange_adds base (put_text base path seen bytes) answers does.before does.begins)
upload_adds base path seen bytes answers run (no_memory want gives) =
    adds_none base (put_text base path seen bytes) run.made (λ ended. ap (λ (r : UploadRun). after_calls (with_standing ended None) r.made) gives)
