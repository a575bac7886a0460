-- What each call does to the machine that sends, and what its runs make.
use Rattle.std.proofs.Common.{◌≡◌, ◌<◌, ℕ, List, [], ◌∷◌, ◌++◌, length, take, drop, Some, None, Ok, Err, Bool, true, false, not, refl, sym, ap, ◌∙◌, subst, append_assoc, append-nil, arith}
use Rattle.std.proofs.lemmas.List.{take-append-drop}
use Rattle.dav_machine.specs.Log.{any_failed}
use Rattle.dav_machine.specs.Devices.{one_device}
use Rattle.dav_machine.specs.Machine.{Run, run_with, prepend, give, Calls}
use Rattle.dav_machine.proofs.Logs.{grows_same, grows_then}
use Rattle.dav_machine.proofs.Reaching.{reaches_same, reaches_then, reaches_next_call}
use Rattle.dav_edge.specs.declared.failed.Failed.{Failed}
use Rattle.dav_edge.specs.Device.{Send, Fails, Goes, Takes, Gives, Answer, Happened, happened, DeviceLog, Grew, ByteMachine, sent, is_failure, taken}
use Rattle.dav_edge.specs.Connections.{Connection, with_standing, sending, after_calls}
use Rattle.dav_edge.specs.Whole.{ReachesOn, DoesOn, Sends}
use Rattle.dav_edge.proofs.Connecting.{sending-nil, sending-append}

pub on_same : {R : Type 0} (a : DeviceLog) (f : ByteMachine R) → ReachesOn a a f f
on_same a f = reaches_same one_device (Grew a a) f (grows_same is_failure a)

pub on_then : {R : Type 0} (a b c : DeviceLog) (f g h : ByteMachine R) → ReachesOn a b f g → ReachesOn b c g h → ReachesOn a c f h
on_then a b c f g h one two = reaches_then one_device (Grew a b) (Grew b c) (Grew a c) f g h (grows_then is_failure a b c) one two

pub on_call : {R : Type 0} (a b : DeviceLog) (f g : ByteMachine R) (e : Happened) → Grew a b (e ∷ [])
    → ((more : List Answer) (run : Run (List Happened) (List Answer) R) → Calls e (g more) run → f (e.answer ∷ more) run) → ReachesOn a b f g
on_call a b f g e grew same = reaches_next_call (Grew a b) f g e grew same

pub sends_some : (a b : DeviceLog) (bytes rest : List ℕ) (n : ℕ) → rest ≡ drop n bytes → 0 < length bytes → Grew a b (sent bytes (Ok n) ∷ []) → ReachesOn a b (Sends bytes) (Sends rest)
unfolding Sends
sends_some a b [] rest n is some grew = absurd (omega arith)
sends_some a b (x ∷ xs) rest n is some grew =
    subst (λ (r : List ℕ). ReachesOn a b (Sends (x ∷ xs)) (Sends r)) (sym is)
    (on_call a b (Sends (x ∷ xs)) (Sends (drop n (x ∷ xs))) (happened (Send (x ∷ xs)) (Takes n)) grew (λ more run does. does))

pub sends_failed : (a b : DeviceLog) (bytes : List ℕ) (e : Failed) → 0 < length bytes → Grew a b (sent bytes (Err e) ∷ []) → DoesOn a b (Sends bytes) false
unfolding Sends
sends_failed a b [] e some grew = absurd (omega arith)
sends_failed a b (x ∷ xs) e some grew =
    on_call a b (Sends (x ∷ xs)) (give one_device false) (happened (Send (x ∷ xs)) Fails) grew (λ more run does. does)

pub sends_all : (a : DeviceLog) (bytes : List ℕ) → length bytes ≡ 0 → DoesOn a a (Sends bytes) true
unfolding Sends
sends_all a [] none = on_same a (give one_device true)
sends_all a (x ∷ xs) none = absurd (omega arith)

-- What a run of a machine that sends makes: where all went out, the bytes that were taken are the bytes;
-- otherwise a call failed; and in any case the bytes that were taken are a beginning of the bytes.
pub record SentSo (bytes : List ℕ) (run : Run (List Happened) (List Answer) Bool) : Type 0 where
  pub whole : run.result ≡ true → taken run.made ≡ bytes
  pub failed : any_failed is_failure run.made ≡ not run.result
  pub not_taken : List ℕ
  pub beginning : taken run.made ++ not_taken ≡ bytes

sent_so_call : (bytes : List ℕ) (n : ℕ) (run rest : Run (List Happened) (List Answer) Bool)
    → run ≡ prepend one_device (happened (Send bytes) (Takes n) ∷ []) rest → SentSo (drop n bytes) rest → SentSo bytes run
sent_so_call bytes n run rest is so = subst (SentSo bytes) (sym is) (record {
  whole = λ ok. ap (λ (l : List ℕ). take n bytes ++ l) (so.whole ok) ∙ take-append-drop n bytes;
  failed = so.failed;
  not_taken = so.not_taken;
  beginning = append_assoc (take n bytes) (taken rest.made) so.not_taken ∙ ap (λ (l : List ℕ). take n bytes ++ l) so.beginning ∙ take-append-drop n bytes;
})

sent_so_failed : (bytes : List ℕ) (more : List Answer) (run rest : Run (List Happened) (List Answer) Bool)
    → run ≡ prepend one_device (happened (Send bytes) Fails ∷ []) rest → give one_device false more rest → SentSo bytes run
sent_so_failed bytes more run rest is gives =
    let run_is : run ≡ run_with false (happened (Send bytes) Fails ∷ []) more = is ∙ ap (prepend one_device (happened (Send bytes) Fails ∷ [])) gives in
    subst (SentSo bytes) (sym run_is) (record {
      whole = λ ok. absurd (cc);
      failed = refl;
      not_taken = bytes;
      beginning = refl;
    })

pub sent_so : (bytes : List ℕ) (answers : List Answer) (run : Run (List Happened) (List Answer) Bool) → Sends bytes answers run → SentSo bytes run
unfolding Sends
sent_so [] answers run does = subst (SentSo []) (sym does) (record { whole = λ _. refl; failed = refl; not_taken = []; beginning = refl })
sent_so (b ∷ bs) [] run does = absurd does
sent_so (b ∷ bs) (Fails ∷ more) run does = sent_so_failed (b ∷ bs) more run does.rest does.is does.does
sent_so (b ∷ bs) (Goes ∷ more) run does = absurd does
sent_so (b ∷ bs) (Takes n ∷ more) run does = sent_so_call (b ∷ bs) n run does.rest does.is (sent_so (drop n (b ∷ bs)) more does.rest does.does)
sent_so (b ∷ bs) (Gives piece ∷ more) run does = absurd does

-- Bytes that are sent are added to the connection that stands, and change nothing else.
standing_call : (ended : List Connection) (c : Connection) (bytes : List ℕ) (n : ℕ) (run rest : Run (List Happened) (List Answer) Bool)
    → run ≡ prepend one_device (happened (Send bytes) (Takes n) ∷ []) rest
    → after_calls (with_standing ended (Some (sending (take n bytes) c))) rest.made ≡ with_standing ended (Some (sending (taken rest.made) (sending (take n bytes) c)))
    → after_calls (with_standing ended (Some c)) run.made ≡ with_standing ended (Some (sending (taken run.made) c))
standing_call ended c bytes n run rest is later =
    subst (λ (r : Run (List Happened) (List Answer) Bool). after_calls (with_standing ended (Some c)) r.made ≡ with_standing ended (Some (sending (taken r.made) c))) (sym is)
    (later ∙ ap (λ (k : Connection). with_standing ended (Some k)) (sending-append (take n bytes) (taken rest.made) c))

standing_none : (ended : List Connection) (c : Connection) (bytes : List ℕ) (more : List Answer) (run rest : Run (List Happened) (List Answer) Bool)
    → run ≡ prepend one_device (happened (Send bytes) Fails ∷ []) rest → give one_device false more rest
    → after_calls (with_standing ended (Some c)) run.made ≡ with_standing ended (Some (sending (taken run.made) c))
standing_none ended c bytes more run rest is gives =
    subst (λ (r : Run (List Happened) (List Answer) Bool). after_calls (with_standing ended (Some c)) r.made ≡ with_standing ended (Some (sending (taken r.made) c)))
    (sym (is ∙ ap (prepend one_device (happened (Send bytes) Fails ∷ [])) gives))
    (ap (λ (k : Connection). with_standing ended (Some k)) (sym (sending-nil c)))

pub sends_standing : (ended : List Connection) (c : Connection) (bytes : List ℕ) (answers : List Answer) (run : Run (List Happened) (List Answer) Bool)
    → Sends bytes answers run → after_calls (with_standing ended (Some c)) run.made ≡ with_standing ended (Some (sending (taken run.made) c))
unfolding Sends
sends_standing ended c [] answers run does =
    subst (λ (r : Run (List Happened) (List Answer) Bool). after_calls (with_standing ended (Some c)) r.made ≡ with_standing ended (Some (sending (taken r.made) c))) (sym does)
    (ap (λ (k : Connection). with_standing ended (Some k)) (sym (sending-nil c)))
sends_standing ended c (b ∷ bs) [] run does = absurd does
sends_standing ended c (b ∷ bs) (Fails ∷ more) run does = standing_none ended c (b ∷ bs) more run does.rest does.is does.does
sends_standing ended c (b ∷ bs) (Goes ∷ more) run does = absurd does
sends_standing ended c (b ∷ bs) (Takes n ∷ more) run does =
    standing_call ended c (b ∷ bs) n run does.rest does.is
    (sends_standing ended (sending (take n (b ∷ bs)) c) (drop n (b ∷ bs)) more does.rest does.does)
sends_standing ended c (b ∷ bs) (Gives piece ∷ more) run does = absurd does

-- Where no connection stands, sending changes none.
pub sends_none : (ended : List Connection) (bytes : List ℕ) (answers : List Answer) (run : Run (List Happened) (List Answer) Bool)
    → Sends bytes answers run → after_calls (with_standing ended None) run.made ≡ with_standing ended None
unfolding Sends
sends_none ended [] answers run does =
    ap (λ (r : Run (List Happened) (List Answer) Bool). after_calls (with_standing ended None) r.made) does
sends_none ended (b ∷ bs) [] run does = absurd does
sends_none ended (b ∷ bs) (Fails ∷ more) run does =
    ap (λ (r : Run (List Happened) (List Answer) Bool). after_calls (with_standing ended None) r.made)
    (does.is ∙ ap (prepend one_device (happened (Send (b ∷ bs)) Fails ∷ [])) does.does)
sends_none ended (b ∷ bs) (Goes ∷ more) run does = absurd does
sends_none ended (b ∷ bs) (Takes n ∷ more) run does =
    ap (λ (r : Run (List Happened) (List Answer) Bool). after_calls (with_standing ended None) r.made) does.is
    ∙ sends_none ended (drop n (b ∷ bs)) more does.rest does.does
sends_none ended (b ∷ bs) (Gives piece ∷ more) run does = absurd does

-- The same of a device on which all was sent, or a call failed.
pub record SentOn (old new : DeviceLog) (bytes : List ℕ) (all : Bool) : Type 0 where
  pub made : List Happened
  pub grew : Grew old new made
  pub whole : all ≡ true → taken made ≡ bytes
  pub failed : any_failed is_failure made ≡ not all
  pub not_taken : List ℕ
  pub beginning : taken made ++ not_taken ≡ bytes
  pub adds : (ended : List Connection) (c : Connection) → after_calls (with_standing ended (Some c)) made ≡ with_standing ended (Some (sending (taken made) c))
  pub adds_none : (ended : List Connection) → after_calls (with_standing ended None) made ≡ with_standing ended None

sent_on_from : (old new : DeviceLog) (bytes : List ℕ) (all : Bool) (answers : List Answer) (made longer : List Happened) → longer ≡ made → Grew old new made
    → Sends bytes answers (run_with all longer []) → SentOn old new bytes all
sent_on_from old new bytes all answers made longer is grew does =
    let so = sent_so bytes answers (run_with all longer []) does in
    record {
      made = longer;
      grew = subst (Grew old new) (sym is) grew;
      whole = so.whole;
      failed = so.failed;
      not_taken = so.not_taken;
      beginning = so.beginning;
      adds = λ ended c. sends_standing ended c bytes answers (run_with all longer []) does;
      adds_none = λ ended. sends_none ended bytes answers (run_with all longer []) does;
    }

pub sent_on : (old new : DeviceLog) (bytes : List ℕ) (all : Bool) → DoesOn old new (Sends bytes) all → SentOn old new bytes all
sent_on old new bytes all does =
    sent_on_from old new bytes all _ does.made (does.made ++ []) (append-nil does.made) does.grew
    (does.same [] (run_with all [] []) refl)
