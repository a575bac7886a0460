-- What a turn does to the table of a desk: it stays sound, and fewer files are to be sent.
use Rattle.std.proofs.Common.{◌≡◌, ℕ, ◌+◌, ◌-◌, ◌^◌, ◌<◌, ◌≤◌, Bool, true, false, not, ◌&&◌, ◌||◌, List, Option, Some, None, Ok, Err, nat_le, refl, sym, ◌∙◌, ap, subst, arith, if◌then◌else◌}
use Rattle.std.specs.Prelude.{nat_lt, option_map, option_and_then, filter}
use Rattle.std.proofs.lemmas.Bool.{false≢true}
use Rattle.std.proofs.lemmas.Bool.Decides.{nat_tests}
use Rattle.std.proofs.lemmas.Nat.{pow_pos}
use Rattle.dav_edge.specs.Device.{DeviceLog}
use Rattle.dav_uri.specs.Target.{BaseParts}
use Rattle.dav_text.specs.Path.{PathParts}
use Rattle.dav_text.specs.declared.tag.Seen.{Seen}
use Rattle.dav_store.specs.declared.body_id.BodyId.{BodyId}
use Rattle.dav_index.specs.Item.{Item}
use Rattle.dav_index.specs.Items.{Every, same_path, entry_at, with_changed, goes_with, without_entry}
use Rattle.dav_index.specs.Tables.{waiting_body, queued_body, queued_at, has_file, sent_entry, entries_after_loss, waiting_so}
use Rattle.dav_index.specs.Queries.{is_due, next_due}
use Rattle.dav_index.specs.Bounds.{HasBody}
use Rattle.dav_index.specs.declared.entry.Entry.{Entry}
use Rattle.dav_index.specs.declared.entry.Waiting.{Waiting}
use Rattle.dav_deeds.specs.Answers.{job_in}
use Rattle.dav_deeds.specs.DeskTable.{DeskTable}
use Rattle.dav_deeds.specs.Effects.{take_effect, taken, taken_beside, flight_of, flight_with, next_job, changed, settle_effect, settle_by_fate, fated_of, fated_current, fated_again, is_current, waiting_at, waiting_of, waiting_in, moment, pause, waited}
use Rattle.dav_deeds.specs.Answers.{job_of}
use Rattle.dav_deeds.specs.Made.{answer_by}
use Rattle.dav_deeds.specs.Legal.{IsDeed, deed_of}
use Rattle.dav_deeds.specs.Sound.{IsSound}
use Rattle.dav_deeds.specs.declared.answer.Answer.{Answer}
use Rattle.dav_deeds.specs.declared.answer.Answer.TheVariants as answers
use Rattle.dav_deeds.specs.declared.answer.Fated.{Fated}
use Rattle.dav_deeds.specs.declared.answer.Fated.TheVariants as fates
use Rattle.dav_deeds.specs.declared.answer.Flight.{Flight}
use Rattle.dav_deeds.specs.declared.answer.Job.{Job}
use Rattle.dav_deeds.specs.declared.ask.Ask.{Ask}
use Rattle.dav_deeds.specs.declared.ask.Ask.TheVariants.{Take, Settle}
use Rattle.dav_deeds.specs.declared.ask.Done.{Done}
use Rattle.dav_deeds.specs.declared.ask.Done.TheVariants as ends
use Rattle.dav_deeds.specs.declared.fault.DeskFault.TheVariants as desk
use Rattle.dav_deeds.proofs.Entries.{changed_at, changed_other, entry_same, gone_at, kept_at}
use Rattle.dav_deeds.proofs.Flying.{every_at, at_found}
use Rattle.dav_deeds.proofs.Paths.{by_test, same_self, not_back, goes_at}
use Rattle.dav_deeds.proofs.AllRows.{after_sound}
use Rattle.dav_deeds.proofs.Taking.{IsPick, next_is_pick, taken_of}
use Rattle.dav_index.proofs.Weights.{weight, changed_weight, without_weight, going_weight}
use Rattle.dav_desk.specs.declared.desk.Desk.{Desk}
use Rattle.dav_desk.specs.Verdict.{Verdict, Went, Stopped, Starved, with_bytes, result_by, table_by}
use Rattle.dav_upload.specs.declared.did.Did.{Did}
use Rattle.dav_upload.specs.declared.did.Did.TheVariants as did
use Rattle.dav_upload.specs.declared.did.UploadFault.{UploadFault}
use Rattle.dav_upload.specs.declared.did.UploadFault.TheVariants as faults
use Rattle.dav_upload.specs.Ending.{flight_in}
use Rattle.dav_upload.specs.Asking.{Answered}
use Rattle.dav_upload.specs.Desks.{DiskView, AskedSo}
use Rattle.dav_upload.specs.Drain.{Turned, fault_of, did_of, SentSo, starved, settled, TurnSo, idle, stopped, took}
use Rattle.dav_upload.proofs.Asks.{an_answer, a_fault, a_job, same_answer, took_facts, take_flies, settle_answers, settle_effect_is}
use Rattle.dav_upload.proofs.SentJobs.{sends_noted}

-- the table stays sound over a call that isn't refused and one that is
pub met_sound : (t : DeskTable) (now : ℕ) (ask : Ask) (v : Verdict) → IsDeed t (deed_of t ask) → IsSound t → IsSound (table_by v t now ask)
met_sound t now ask Went is sound = after_sound t sound now (deed_of t ask) is
met_sound t now ask (Stopped fault) is sound = sound
met_sound t now ask Starved is sound = sound

asked_sound : {D : Type 0} (view : DiskView D) (x y : Desk D) (now : ℕ) (ask : Ask) (answered : Answered) (asked : AskedSo view now ask x y answered) → IsDeed x.table (deed_of x.table ask) → IsSound x.table → IsSound y.table
asked_sound view x y now ask answered asked is sound = subst IsSound (sym asked.was.table) (met_sound x.table now ask asked.met.verdict is sound)

sent_sound : {D : Type 0} (view : DiskView D) (base : BaseParts) (a b : DeviceLog) (x y : Desk D) (now : ℕ) (job : Job) (turned : Turned) → SentSo view base now job a b x y turned → IsSound x.table → IsSound y.table
sent_sound {D} view base a b x y now job turned (starved want sends same is) sound = subst (λ (d : Desk D). IsSound d.table) (sym same) sound
sent_sound {D} view base a b x y now job turned (settled done answered sends asked is) sound =
    asked_sound view x y now (Settle job.number done) answered asked (sends_noted base job a b (Ok done) sends done refl) sound

pub turn_sound : {D : Type 0} (view : DiskView D) (base : BaseParts) (a b : DeviceLog) (x y : Desk D) (now : ℕ) (turned : Turned) → TurnSo view base now a b x y turned → IsSound x.table → IsSound y.table
turn_sound view base a b x y now turned (idle answer asked none same is) sound = asked_sound view x y now Take (Ok answer) asked tt sound
turn_sound view base a b x y now turned (stopped fault asked same is) sound = asked_sound view x y now Take (Err fault) asked tt sound
turn_sound view base a b x y now turned (took mid answer job asked has sent) sound =
    sent_sound view base a b mid y now job turned sent (asked_sound view x mid now Take (Ok answer) asked tt sound)

abbrev pub turned_did : Did → Turned
turned_did one = Ok one

abbrev pub turned_fault : UploadFault → Turned
turned_fault fault = Err fault

-- a turn that settled a job: it was the next one, and what became of it is in the table
pub record Settling (t u : DeskTable) (now : ℕ) : Type 0 where
  pub flight : Flight
  pub done : Done
  pub taken_is : taken t now ≡ Some flight
  pub after_is : u ≡ changed (changed t (take_effect t (Some flight))) (settle_effect (changed t (take_effect t (Some flight))) (Some flight) now done)

pub settle_verdict : (t : DeskTable) (now : ℕ) (ask : Ask) (bytes : List ℕ) (v : Verdict) (one : Did) → turned_did one ≡ did_of (result_by v t now ask bytes) → v ≡ Went
settle_verdict t now ask bytes Went one is = refl
settle_verdict t now ask bytes (Stopped fault) one is = let wrong : turned_did one ≡ turned_fault (fault_of fault) = is in cc
settle_verdict t now ask bytes Starved one is = let wrong : turned_did one ≡ turned_fault faults.Memory = is in cc

sent_settling : {D : Type 0} (view : DiskView D) (base : BaseParts) (a b : DeviceLog) (x y : Desk D) (now : ℕ) (job : Job) (turned : Turned) (one : Did) → SentSo view base now job a b x y turned → turned ≡ Ok one
    → x.table.job ≡ Some (flight_in job) → (done : Done) × (y.table ≡ changed x.table (settle_effect x.table (Some (flight_in job)) now done)) × (one ≡ did.Settled (fated_of x.table.index (flight_in job) now done))
sent_settling view base a b x y now job turned one (starved want sends same is) came flies = let wrong : turned_did one ≡ turned_fault faults.Memory = sym came ∙ is in cc
sent_settling view base a b x y now job turned one (settled done answered sends asked is) came flies =
    let so : turned_did one ≡ did_of (result_by asked.met.verdict x.table now (Settle job.number done) asked.met.bytes) = sym came ∙ is ∙ ap did_of asked.answer in
    let went = settle_verdict x.table now (Settle job.number done) asked.met.bytes asked.met.verdict one so in
    let answer : turned_did one ≡ turned_did (did.Settled (fated_of x.table.index (flight_in job) now done)) =
    so ∙ ap (λ (v : Verdict). did_of (result_by v x.table now (Settle job.number done) asked.met.bytes)) went ∙ ap did_of (settle_answers x.table now (flight_in job) done asked.met.bytes flies) in (
      done,
      asked.was.table ∙ ap (λ (v : Verdict). table_by v x.table now (Settle job.number done)) went ∙ ap (changed x.table) (settle_effect_is x.table now (flight_in job) done flies),
      cc,
    )

pub took_table : {D : Type 0} (view : DiskView D) (x mid : Desk D) (now : ℕ) (answer : Answer) (job : Job) (asked : AskedSo view now Take x mid (Ok answer)) → job_in answer ≡ Some job
    → (taken x.table now ≡ Some (flight_in job)) × (mid.table ≡ changed x.table (take_effect x.table (Some (flight_in job))))
took_table view x mid now answer job asked has =
    let facts = took_facts x.table now asked.met answer job asked.answer has in
    (facts.taken_is, asked.was.table ∙ ap (λ (v : Verdict). table_by v x.table now Take) facts.went ∙ take_flies x.table now (flight_in job) facts.taken_is)

pub turn_settles : {D : Type 0} (view : DiskView D) (base : BaseParts) (a b : DeviceLog) (x y : Desk D) (now : ℕ) (turned : Turned) (fated : Fated) → TurnSo view base now a b x y turned → turned ≡ Ok (did.Settled fated) → Settling x.table y.table now
turn_settles view base a b x y now turned fated (idle answer asked none same is) came = let wrong : turned_did (did.Settled fated) ≡ turned_did did.Nothing = sym came ∙ is in cc
turn_settles view base a b x y now turned fated (stopped fault asked same is) came = let wrong : turned_did (did.Settled fated) ≡ turned_fault (fault_of fault) = sym came ∙ is in cc
turn_settles view base a b x y now turned fated (took mid answer job asked has sent) came =
    let facts = took_table view x mid now answer job asked has in
    let end = sent_settling view base a b mid y now job turned (did.Settled fated) sent came (ap (λ (t : DeskTable). t.job) facts.1) in record {
      flight = flight_in job;
      done = end.0;
      taken_is = facts.0;
      after_is = end.1 ∙ ap (λ (t : DeskTable). changed t (settle_effect t (Some (flight_in job)) now end.0)) facts.1;
    }

-- 1 for an entry that may be taken
abbrev pub due_one : ℕ → Entry → ℕ
due_one now e = if is_due now true e.queued then 1 else 0

-- how many entries may be taken while the desk is about to end
abbrev pub due_count : ℕ → DeskTable → ℕ
due_count now t = weight (due_one now) t.index.entries

-- the entry of a job that is taken
pub record DueEntry (t : DeskTable) (now : ℕ) (flight : Flight) : Type 0 where
  pub old : Entry
  pub found : entry_at flight.path t.index.entries ≡ Some old
  pub waiting : Waiting
  pub queued : old.queued ≡ Some waiting
  pub body : old.body ≡ Some flight.body
  pub due : is_due now t.stopping old.queued ≡ true

abbrev an_item : Item → Option Item
an_item x = Some x

due_waiting : (now : ℕ) (stopping : Bool) (q : Option Waiting) → is_due now stopping q ≡ true → (w : Waiting) × (q ≡ Some w)
due_waiting now stopping None is = absurd (false≢true is)
due_waiting now stopping (Some w) is = (w, refl)

made_path : (number : ℕ) (x : Item) (b : Option BodyId) (flight : Flight) → flight_with number x b ≡ Some flight → (x.path ≡ flight.path) × (b ≡ Some flight.body)
made_path number x None flight is = let wrong : None ≡ Some flight = is in cc
made_path number x (Some b) flight is =
    let made : Flight = record { number = number; path = x.path; body = b; seen = x.entry.seen } in
    let same : made ≡ flight = cc in
    (ap (λ (f : Flight). f.path) same, ap (λ (f : Flight). let o : Option BodyId = Some f.body in o) same)

pub due_entry : (t : DeskTable) (now : ℕ) (flight : Flight) → IsSound t → taken t now ≡ Some flight → DueEntry t now flight
due_entry t now flight sound is = of (next_due now t.stopping t.index.entries) refl (ap (λ (job : Option Flight). taken_beside t now job) (sym (taken_of t now flight is).0) ∙ is)
  where
    of : (next : Option Item) → next_due now t.stopping t.index.entries ≡ next → flight_of (next_job t) (next_due now t.stopping t.index.entries) ≡ Some flight → DueEntry t now flight
    of None next made = let wrong : None ≡ Some flight = sym (ap (flight_of (next_job t)) next) ∙ made in cc
    of (Some x) next made =
        let pick : IsPick now t.stopping t.index.entries x = next_is_pick now t.stopping t.index.entries x next in
        let so = made_path (next_job t) x x.entry.body flight (sym (ap (flight_of (next_job t)) next) ∙ made) in
        let waits = due_waiting now t.stopping x.entry.queued pick.due in record {
          old = x.entry;
          found = subst (λ (p : PathParts). entry_at p t.index.entries ≡ Some x.entry) so.0 (at_found t.index.entries x sound.index.in_order.differ pick.among);
          waiting = waits.0;
          queued = waits.1;
          body = so.1;
          due = pick.due;
        }

-- bytes that are to be sent again wait for some time
later : (now attempts after : ℕ) → now < 18446744073709551615 → now < moment (now + pause attempts after)
later now attempts after early =
    let power : 0 < 2 ^ (attempts - 1) = pow_pos (attempts - 1) in
    omega arith

not_due : (now due : ℕ) (tried_is : Bool) → now < due → tried_is ≡ true → (nat_le due now || (true && not tried_is)) ≡ false
not_due now due true late is = let off : nat_le due now ≡ false = grind (arith, nat_tests) in ap (λ (b : Bool). b || false) off
not_due now due false late is = absurd (false≢true is)

abbrev one_if : Bool → ℕ
one_if b = if b then 1 else 0

some_body : BodyId → Option BodyId
some_body b = Some b

pub goes_same : (q p : PathParts) (b : Bool) → same_path q p ≡ b → goes_at q false p ≡ b
goes_same q p b is = by (same_path q p) is
  where
    by : (c : Bool) → c ≡ b → (c || false) ≡ b
    by true is = is
    by false is = is

-- of the path nothing may be taken any more, and of every other path there is what there was
pub record Spends (now : ℕ) (p : PathParts) (items less : List Item) : Type 0 where
  pub here : (e : Entry) → entry_at p less ≡ Some e → is_due now true e.queued ≡ false
  pub others : (q : PathParts) → same_path q p ≡ false → entry_at q less ≡ entry_at q items

changed_spends : (now : ℕ) (p : PathParts) (items : List Item) (f : Entry → Entry) (e : Entry) → entry_at p items ≡ Some e → is_due now true (f e).queued ≡ false → Spends now p items (with_changed p f items)
changed_spends now p items f e found off = record {
  here = λ other at.
      let new : Some (f e) ≡ Some other = sym (changed_at p p f items (same_self p) ∙ ap (option_map f) found) ∙ at in
      let same : f e ≡ other = cc in
      subst (λ (x : Entry). is_due now true x.queued ≡ false) same off;
  others = λ q other. changed_other q p f items other;
}

lost_spends : (now : ℕ) (p : PathParts) (items : List Item) → Spends now p items (without_entry p false items)
lost_spends now p items = record {
  here = λ e at. let gone : None ≡ Some e = sym (gone_at p false p items (goes_same p p true (same_self p))) ∙ at in cc;
  others = λ q other. kept_at p false q items (goes_same p q false (not_back q p other));
}

-- the job of an entry is settled: the entry may not be taken any more
module _ (t : DeskTable) (flight : Flight) (now : ℕ) (e : Entry) (w : Waiting) (found : entry_at flight.path t.index.entries ≡ Some e) (body : e.body ≡ Some flight.body) (queued : e.queued ≡ Some w)
    (was_tried : w.tried ≡ true) (early : now < 18446744073709551615) where
  abbrev items : List Item
  items = t.index.entries

  abbrev Fewer : List Item → Type 0
  Fewer less = weight (due_one now) less + due_one now e ≤ weight (due_one now) items

  pub queued_is : queued_at flight.path items ≡ Some flight.body
  queued_is = ap (option_and_then queued_body) found ∙ ap (λ (q : Option Waiting). waiting_body q e.body) queued ∙ body

  own_file : has_file flight.body.file (Some flight.body) ≡ true
  own_file = grind (arith, nat_tests)

  is_own : is_current t.index flight ≡ true
  is_own = ap (has_file flight.body.file) queued_is ∙ own_file

  pub waits_so : waiting_at flight.path items ≡ w
  waits_so = ap waiting_of found ∙ ap waiting_in queued

  -- the entry is changed to one that may not be taken
  changed_fewer : (f : Entry → Entry) → due_one now (f e) ≡ 0 → Fewer (with_changed flight.path f items)
  changed_fewer f none =
      let both : weight (due_one now) (with_changed flight.path f items) + due_one now e ≡ weight (due_one now) items + due_one now (f e) = changed_weight flight.path f (due_one now) e items found in
      omega arith

  sent_fewer : (seen : Seen) (row : ℕ) → Fewer (with_changed flight.path (sent_entry flight.body.file seen row) items)
  sent_fewer seen row =
      let test : has_file flight.body.file e.body ≡ true = ap (has_file flight.body.file) body ∙ own_file in
      let gone : (sent_entry flight.body.file seen row e).queued ≡ None = ap (λ (b : Bool). if b then None else e.queued) test in
      changed_fewer (sent_entry flight.body.file seen row) (ap (λ (q : Option Waiting). one_if (is_due now true q)) gone)

  waits_fewer : (attempts due : ℕ) (tried_is : Bool) → now < due → tried_is ≡ true → Fewer (with_changed flight.path (waiting_so (record { attempts = attempts; due = due; tried = tried_is })) items)
  waits_fewer attempts due tried_is late is =
      let wait : Waiting = record { attempts = attempts; due = due; tried = tried_is } in
      let so : (waiting_so wait e).queued ≡ Some wait = ap (option_map (λ (old : Waiting). wait)) queued in
      changed_fewer (waiting_so wait) (ap (λ (q : Option Waiting). one_if (is_due now true q)) so ∙ ap one_if (not_due now due tried_is late is))

  lost_fewer : (row : ℕ) → Fewer (entries_after_loss flight.path false row items (queued_at flight.path items))
  lost_fewer row =
      let gone : entries_after_loss flight.path false row items (queued_at flight.path items) ≡ without_entry flight.path false items = ap (entries_after_loss flight.path false row items) queued_is in
      subst Fewer (sym gone)
      (let both : weight (due_one now) (without_entry flight.path false items) + weight (due_one now) (filter (goes_with flight.path false) items) ≡ weight (due_one now) items = without_weight flight.path false (due_one now) items in
      let own : due_one now e ≤ weight (due_one now) (filter (goes_with flight.path false) items) = going_weight flight.path (due_one now) e items found in
      omega arith)

  abbrev FewerAfter : Done → Fated → Type 0
  FewerAfter done fated = Fewer (changed t (settle_by_fate t flight done fated)).index.entries

  again_fewer : (after : ℕ) → FewerAfter (ends.Again after) (fated_again t.index (waiting_at flight.path items) now after)
  again_fewer after = by (nat_lt ((waiting_at flight.path items).attempts + 1) 15)
    where
      by : (b : Bool) → FewerAfter (ends.Again after) (if b then fates.Waits ((waiting_at flight.path items).attempts + 1) (moment (now + pause ((waiting_at flight.path items).attempts + 1) after)) else fates.Lost t.index.next_lost)
      by true =
          waits_fewer ((waiting_at flight.path items).attempts + 1) (moment (now + pause ((waiting_at flight.path items).attempts + 1) after)) (waiting_at flight.path items).tried
          (later now ((waiting_at flight.path items).attempts + 1) after early) (ap (λ (wait : Waiting). wait.tried) waits_so ∙ was_tried)
      by false = lost_fewer (t.index.records + 1)

  current_fewer : (done : Done) → FewerAfter done (fated_current t.index flight now done)
  current_fewer (ends.Sent seen) = sent_fewer seen (t.index.records + 1)
  current_fewer (ends.Again after) = again_fewer after
  current_fewer ends.Refused = lost_fewer (t.index.records + 1)

  abbrev SpendsAfter : Done → Fated → Type 0
  SpendsAfter done fated = Spends now flight.path items (changed t (settle_by_fate t flight done fated)).index.entries

  sent_spends : (seen : Seen) (row : ℕ) → Spends now flight.path items (with_changed flight.path (sent_entry flight.body.file seen row) items)
  sent_spends seen row =
      let test : has_file flight.body.file e.body ≡ true = ap (has_file flight.body.file) body ∙ own_file in
      let gone : (sent_entry flight.body.file seen row e).queued ≡ None = ap (λ (b : Bool). if b then None else e.queued) test in
      changed_spends now flight.path items (sent_entry flight.body.file seen row) e found (ap (is_due now true) gone)

  waits_spends : (attempts due : ℕ) (tried_is : Bool) → now < due → tried_is ≡ true → Spends now flight.path items (with_changed flight.path (waiting_so (record { attempts = attempts; due = due; tried = tried_is })) items)
  waits_spends attempts due tried_is late is =
      let wait : Waiting = record { attempts = attempts; due = due; tried = tried_is } in
      let so : (waiting_so wait e).queued ≡ Some wait = ap (option_map (λ (old : Waiting). wait)) queued in
      changed_spends now flight.path items (waiting_so wait) e found (ap (is_due now true) so ∙ not_due now due tried_is late is)

  loss_spends : (row : ℕ) → Spends now flight.path items (entries_after_loss flight.path false row items (queued_at flight.path items))
  loss_spends row =
      let gone : entries_after_loss flight.path false row items (queued_at flight.path items) ≡ without_entry flight.path false items = ap (entries_after_loss flight.path false row items) queued_is in
      subst (Spends now flight.path items) (sym gone) (lost_spends now flight.path items)

  again_spends : (after : ℕ) → SpendsAfter (ends.Again after) (fated_again t.index (waiting_at flight.path items) now after)
  again_spends after = by (nat_lt ((waiting_at flight.path items).attempts + 1) 15)
    where
      by : (b : Bool) → SpendsAfter (ends.Again after) (if b then fates.Waits ((waiting_at flight.path items).attempts + 1) (moment (now + pause ((waiting_at flight.path items).attempts + 1) after)) else fates.Lost t.index.next_lost)
      by true =
          waits_spends ((waiting_at flight.path items).attempts + 1) (moment (now + pause ((waiting_at flight.path items).attempts + 1) after)) (waiting_at flight.path items).tried
          (later now ((waiting_at flight.path items).attempts + 1) after early) (ap (λ (wait : Waiting). wait.tried) waits_so ∙ was_tried)
      by false = loss_spends (t.index.records + 1)

  current_spends : (done : Done) → SpendsAfter done (fated_current t.index flight now done)
  current_spends (ends.Sent seen) = sent_spends seen (t.index.records + 1)
  current_spends (ends.Again after) = again_spends after
  current_spends ends.Refused = loss_spends (t.index.records + 1)

  pub current_fate : (done : Done) → fated_of t.index flight now done ≡ fated_current t.index flight now done
  current_fate done = ap (λ (b : Bool). if b then fated_current t.index flight now done else fates.Superseded) is_own

  pub settling_spends : (done : Done) → Spends now flight.path items (changed t (settle_effect t (Some flight) now done)).index.entries
  settling_spends done = subst (SpendsAfter done) (sym (current_fate done)) (current_spends done)

  pub settling_fewer : (done : Done) → Fewer (changed t (settle_effect t (Some flight) now done)).index.entries
  settling_fewer done =
      subst (FewerAfter done) (sym (current_fate done)) (current_fewer done)

-- the waiting of a job that was taken while the desk is about to end
abbrev pub tried_wait : DeskTable → Flight → Waiting
tried_wait t flight = record {
  attempts = (waiting_at flight.path t.index.entries).attempts;
  due = (waiting_at flight.path t.index.entries).due;
  tried = true;
}

pub tried_entries : (t : DeskTable) (flight : Flight) → t.stopping ≡ true → (changed t (take_effect t (Some flight))).index.entries ≡ with_changed flight.path (waiting_so (tried_wait t flight)) t.index.entries
tried_entries t flight stopping =
    ap (λ (b : Bool). (waited t.index (if b then Some (record { path = flight.path; waiting = tried_wait t flight }) else None)).entries) stopping

-- the entry of the job, once it was taken
pub tried_found : (t : DeskTable) (flight : Flight) (old : Entry) → t.stopping ≡ true → entry_at flight.path t.index.entries ≡ Some old
    → entry_at flight.path (changed t (take_effect t (Some flight))).index.entries ≡ Some (waiting_so (tried_wait t flight) old)
tried_found t flight old stopping found =
    let change : Entry → Entry = waiting_so (tried_wait t flight) in
    let in_both : entry_at flight.path (changed t (take_effect t (Some flight))).index.entries ≡ entry_at flight.path (with_changed flight.path change t.index.entries) = ap (entry_at flight.path) (tried_entries t flight stopping) in
    let here : entry_at flight.path (with_changed flight.path change t.index.entries) ≡ option_map change (entry_at flight.path t.index.entries) = changed_at flight.path flight.path change t.index.entries (same_self flight.path) in
    in_both ∙ here ∙ ap (option_map change) found

pub settling_falls : (t u : DeskTable) (now : ℕ) → Settling t u now → IsSound t → t.stopping ≡ true → now < 18446744073709551615 → due_count now u < due_count now t
settling_falls t u now one sound stopping early =
    let flight = one.flight in
    let at = due_entry t now flight sound one.taken_is in
    let mid : DeskTable = changed t (take_effect t (Some flight)) in
    let wait : Waiting = tried_wait t flight in
    let entry : Entry = waiting_so wait at.old in
    let entries_are : mid.index.entries ≡ with_changed flight.path (waiting_so wait) t.index.entries = tried_entries t flight stopping in
    let found : entry_at flight.path mid.index.entries ≡ Some entry = tried_found t flight at.old stopping at.found in
    let queued : entry.queued ≡ Some wait = ap (option_map (λ (old : Waiting). wait)) at.queued in
    let fewer : weight (due_one now) (changed mid (settle_effect mid (Some flight) now one.done)).index.entries + due_one now entry ≤ weight (due_one now) mid.index.entries =
    settling_fewer mid flight now entry wait found at.body queued refl early one.done in
    let same : weight (due_one now) u.index.entries ≡ weight (due_one now) (changed mid (settle_effect mid (Some flight) now one.done)).index.entries = ap (λ (v : DeskTable). weight (due_one now) v.index.entries) one.after_is in
    let mid_is : weight (due_one now) mid.index.entries ≡ weight (due_one now) (with_changed flight.path (waiting_so wait) t.index.entries) = ap (weight (due_one now)) entries_are in
    let both : weight (due_one now) (with_changed flight.path (waiting_so wait) t.index.entries) + due_one now at.old ≡ weight (due_one now) t.index.entries + due_one now entry = changed_weight flight.path (waiting_so wait) (due_one now) at.old t.index.entries at.found in
    let was : due_one now at.old ≡ 1 = ap (λ (b : Bool). if is_due now b at.old.queued then 1 else 0) (sym stopping) ∙ ap one_if at.due in
    omega arith

-- the bytes of the path may be taken while the desk is about to end
pub record MayTake (now : ℕ) (t : DeskTable) (path : PathParts) : Type 0 where
  pub entry : Entry
  pub found : entry_at path t.index.entries ≡ Some entry
  pub due : is_due now true entry.queued ≡ true

-- a job that is taken may be taken
pub taken_may : (t : DeskTable) (now : ℕ) (flight : Flight) → IsSound t → t.stopping ≡ true → taken t now ≡ Some flight → MayTake now t flight.path
taken_may t now flight sound stopping is =
    let at = due_entry t now flight sound is in
    record { entry = at.old; found = at.found; due = ap (λ (b : Bool). is_due now b at.old.queued) (sym stopping) ∙ at.due }

-- behind a turn what may be taken is of another path, and could be taken before
pub settling_once : (t u : DeskTable) (now : ℕ) (one : Settling t u now) → IsSound t → t.stopping ≡ true → now < 18446744073709551615 → (path : PathParts) → MayTake now u path → MayTake now t path × (same_path path one.flight.path ≡ false)
settling_once t u now one sound stopping early path may =
    let flight = one.flight in
    let at = due_entry t now flight sound one.taken_is in
    let mid : DeskTable = changed t (take_effect t (Some flight)) in
    let wait : Waiting = tried_wait t flight in
    let entry : Entry = waiting_so wait at.old in
    let entries_are : mid.index.entries ≡ with_changed flight.path (waiting_so wait) t.index.entries = tried_entries t flight stopping in
    let found : entry_at flight.path mid.index.entries ≡ Some entry = tried_found t flight at.old stopping at.found in
    let queued : entry.queued ≡ Some wait = ap (option_map (λ (old : Waiting). wait)) at.queued in
    let end : DeskTable = changed mid (settle_effect mid (Some flight) now one.done) in
    let spends : Spends now flight.path mid.index.entries end.index.entries = settling_spends mid flight now entry wait found at.body queued refl early one.done in
    let here : entry_at path end.index.entries ≡ Some may.entry = ap (λ (v : DeskTable). entry_at path v.index.entries) (sym one.after_is) ∙ may.found in
    by_test (same_path path flight.path)
    (λ same. absurd (false≢true (sym (spends.here may.entry (sym (entry_same path flight.path end.index.entries same) ∙ here)) ∙ may.due)))
    (λ other. (
      record {
        entry = may.entry;
        found = sym (changed_other path flight.path (waiting_so wait) t.index.entries other) ∙ sym (ap (entry_at path) entries_are) ∙ sym (spends.others path other) ∙ here;
        due = may.due;
      },
      other,
    ))

pub settling_idle : (t u : DeskTable) (now : ℕ) → Settling t u now → u.job ≡ None
settling_idle t u now one = ap (λ (v : DeskTable). v.job) one.after_is

pub settling_stops : (t u : DeskTable) (now : ℕ) → Settling t u now → u.stopping ≡ t.stopping
settling_stops t u now one = ap (λ (v : DeskTable). v.stopping) one.after_is

-- a turn that did nothing found nothing to take
none_due : (now : ℕ) (stopping : Bool) (items : List Item) (number : ℕ) (next : Option Item) → next_due now stopping items ≡ next → Every HasBody items → flight_of number next ≡ None → next ≡ None
none_due now stopping items number None is bodies none = refl
none_due now stopping items number (Some x) is bodies none = by x.entry.body refl none
  where
    by : (b : Option BodyId) → x.entry.body ≡ b → flight_with number x b ≡ None → an_item x ≡ None
    by None gone none =
        let pick = next_is_pick now stopping items x is in
        let waits = due_waiting now stopping x.entry.queued pick.due in
        let queued : x.entry.queued ≡ None → ⊥ = λ clean. (let h : ◌≡◌ {A = Option Waiting} None (Some waits.0) = sym clean ∙ waits.1 in cc) in
        absurd (every_at HasBody items x bodies pick.among queued gone)
    by (Some b) some none = let h : ◌≡◌ {A = Option Flight} (Some (record { number = number; path = x.path; body = b; seen = x.entry.seen })) None = none in cc

found_none : (t : DeskTable) (now : ℕ) (answer : Answer) (bytes : List ℕ) (found : Option Flight) → an_answer answer ≡ with_bytes (answer_by (take_effect t found).mark (take_effect t found).told) bytes → job_in answer ≡ None → found ≡ None
found_none t now answer bytes None is none = refl
found_none t now answer bytes (Some flight) is none =
    let told : answer ≡ answers.Took (job_of flight bytes) = same_answer answer (answers.Took (job_of flight bytes)) is in
    let wrong : a_job (job_of flight bytes) ≡ None = sym (ap job_in told) ∙ none in cc

-- nothing was taken, and the table is the same
pub record NoneTaken (t u : DeskTable) (now : ℕ) : Type 0 where
  pub none : taken t now ≡ None
  pub same : u ≡ t

idle_none : {D : Type 0} (view : DiskView D) (x y : Desk D) (now : ℕ) (answer : Answer) (asked : AskedSo view now Take x y (Ok answer)) → job_in answer ≡ None → NoneTaken x.table y.table now
idle_none view x y now answer asked none = by asked.met.verdict asked.answer asked.was.table
  where
    by : (v : Verdict) → an_answer answer ≡ result_by v x.table now Take asked.met.bytes → y.table ≡ table_by v x.table now Take → NoneTaken x.table y.table now
    by Went is table =
        let nothing = found_none x.table now answer asked.met.bytes (taken x.table now) is none in
        record { none = nothing; same = table ∙ ap (λ (f : Option Flight). changed x.table (take_effect x.table f)) nothing }
    by (Stopped fault) is table = let wrong : an_answer answer ≡ a_fault fault = is in cc
    by Starved is table = let wrong : an_answer answer ≡ a_fault desk.Memory = is in cc

pub turn_none : {D : Type 0} (view : DiskView D) (base : BaseParts) (a b : DeviceLog) (x y : Desk D) (now : ℕ) (turned : Turned) → TurnSo view base now a b x y turned → turned ≡ Ok did.Nothing → NoneTaken x.table y.table now
turn_none view base a b x y now turned (idle answer asked none same is) came = idle_none view x y now answer asked none
turn_none view base a b x y now turned (stopped fault asked same is) came = let wrong : turned_did did.Nothing ≡ turned_fault (fault_of fault) = sym came ∙ is in cc
turn_none view base a b x y now turned (took mid answer job asked has sent) came =
    let facts = took_table view x mid now answer job asked has in
    let end = sent_settling view base a b mid y now job turned did.Nothing sent came (ap (λ (t : DeskTable). t.job) facts.1) in
    let wrong : did.Nothing ≡ did.Settled (fated_of mid.table.index (flight_in job) now end.0) = end.2 in cc

pub none_next : (t u : DeskTable) (now : ℕ) → NoneTaken t u now → IsSound t → t.stopping ≡ true → t.job ≡ None → (next_due now true u.index.entries ≡ None) × (u.job ≡ None) × (u.stopping ≡ true)
none_next t u now one sound stopping free =
    let here : flight_of (next_job t) (next_due now t.stopping t.index.entries) ≡ None = sym (ap (taken_beside t now) free) ∙ one.none in
    let nothing : next_due now t.stopping t.index.entries ≡ None = none_due now t.stopping t.index.entries (next_job t) (next_due now t.stopping t.index.entries) refl sound.index.queued_have_bodies here in (
      ap (λ (v : DeskTable). next_due now true v.index.entries) one.same ∙ ap (λ (b : Bool). next_due now b t.index.entries) (sym stopping) ∙ nothing,
      ap (λ (v : DeskTable). v.job) one.same ∙ free,
      ap (λ (v : DeskTable). v.stopping) one.same ∙ stopping,
    )
