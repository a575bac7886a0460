-- What is still queued behind a drain: it could not be sent before, or is to be sent again.
use Rattle.std.proofs.Common.{◌≡◌, ◌⊎◌, inl, inr, ℕ, ◌+◌, ◌<◌, Bool, true, false, List, [], ◌∷◌, ◌++◌, Option, Some, None, Ok, refl, sym, ◌∙◌, ap, subst, append_assoc, append-nil, arith, if◌then◌else◌}
use Rattle.std.specs.Prelude.{nat_lt, option_map, fold}
use Rattle.std.proofs.lemmas.Bool.Decides.{nat_tests}
use Rattle.dav_edge.specs.Device.{DeviceLog}
use Rattle.dav_uri.specs.Target.{BaseParts}
use Rattle.dav_text.specs.Path.{PathParts}
use Rattle.dav_text.specs.declared.tag.Seen.{Seen}
use Rattle.dav_index.specs.Item.{Item}
use Rattle.dav_index.specs.Items.{has_path, same_path, entry_at, with_changed, without_entry}
use Rattle.dav_index.specs.Tables.{has_file, queued_at, sent_entry, entries_after_loss, waiting_so}
use Rattle.dav_index.specs.Queries.{is_due, is_next, sooner, next_due}
use Rattle.dav_index.specs.declared.entry.Entry.{Entry}
use Rattle.dav_index.specs.declared.entry.Waiting.{Waiting}
use Rattle.dav_deeds.specs.DeskTable.{DeskTable}
use Rattle.dav_deeds.specs.Effects.{Effect, take_effect, taken, changed, after, settle_effect, settle_by_fate, fated_of, fated_current, fated_again, waiting_at, moment, pause}
use Rattle.dav_deeds.specs.Legal.{table_after}
use Rattle.dav_deeds.specs.Sound.{IsSound}
use Rattle.dav_deeds.specs.declared.answer.Answer.{Answer}
use Rattle.dav_deeds.specs.declared.answer.Fated.{Fated}
use Rattle.dav_deeds.specs.declared.answer.Fated.TheVariants as fates
use Rattle.dav_deeds.specs.declared.answer.Flight.{Flight}
use Rattle.dav_deeds.specs.declared.answer.Job.{Job}
use Rattle.dav_deeds.specs.declared.answer.Told.{Told}
use Rattle.dav_deeds.specs.declared.answer.Told.TheVariants as tells
use Rattle.dav_deeds.specs.declared.ask.Ask.TheVariants.{Take, Settle}
use Rattle.dav_deeds.specs.declared.ask.Done.{Done}
use Rattle.dav_deeds.specs.declared.ask.Done.TheVariants as ends
use Rattle.dav_deeds.specs.declared.ask.Who.TheVariants.{Uploader}
use Rattle.dav_deeds.specs.declared.deed.Deed.TheVariants as deeds
use Rattle.dav_deeds.specs.declared.deed.Step.{Step}
use Rattle.dav_deeds.proofs.Entries.{changed_at, changed_other, entry_same, gone_at}
use Rattle.dav_deeds.proofs.Paths.{by_test, same_self}
use Rattle.dav_deeds.proofs.Taking.{table_push}
use Rattle.dav_desk.specs.declared.desk.Desk.{Desk}
use Rattle.dav_desk.specs.Verdict.{Verdict, Went, Stopped, Starved, step_of, steps_by, unless_idle, result_by, table_by}
use Rattle.dav_upload.specs.declared.did.Did.TheVariants as did
use Rattle.dav_upload.specs.declared.did.Did.{Did}
use Rattle.dav_upload.specs.declared.did.UploadFault.TheVariants as faults
use Rattle.dav_upload.specs.Ending.{flight_in}
use Rattle.dav_upload.specs.Desks.{DiskView}
use Rattle.dav_upload.specs.Drain.{Turned, fault_of, did_of, SentSo, starved, settled, TurnSo, idle, stopped, took}
use Rattle.dav_upload.specs.Left.{IsAgain, LeavesAgain}
use Rattle.dav_upload.proofs.Asks.{an_answer, took_facts, take_flies, settle_effect_is}
use Rattle.dav_upload.proofs.TurnTables.{turned_did, turned_fault, Settling, settle_verdict, took_table, due_entry, goes_same, Spends, queued_is, waits_so, current_fate, settling_spends, tried_wait, tried_entries, tried_found, turn_none}

-- the entry of a job that was settled to be sent again
pub record IsWaiting (flight : Flight) (done : Done) (fated : Fated) (x : Entry) : Type 0 where
  pub seconds : ℕ
  pub done_is : done ≡ ends.Again seconds
  pub attempts : ℕ
  pub due : ℕ
  pub fated_is : fated ≡ fates.Waits attempts due
  pub body : x.body ≡ Some flight.body
  pub waits : x.queued ≡ Some (record { attempts = attempts; due = due; tried = true })

abbrev some_waiting : Waiting → Option Waiting
some_waiting w = Some w

own_body : (flight : Flight) (e : Entry) → e.body ≡ Some flight.body → has_file flight.body.file e.body ≡ true
own_body flight e body =
    let own : has_file flight.body.file (Some flight.body) ≡ true = grind (arith, nat_tests) in
    ap (has_file flight.body.file) body ∙ own

-- the job of an entry is settled: what is queued of the path then is to be sent again
module _ (t : DeskTable) (flight : Flight) (now : ℕ) (e : Entry) (w : Waiting) (found : entry_at flight.path t.index.entries ≡ Some e) (body : e.body ≡ Some flight.body) (queued : e.queued ≡ Some w)
    (was_tried : w.tried ≡ true) (early : now < 18446744073709551615) where
  abbrev items : List Item
  items = t.index.entries

  abbrev WaitsAfter : Done → Fated → Type 0
  WaitsAfter done fated = (x : Entry) (v : Waiting) → entry_at flight.path (changed t (settle_by_fate t flight done fated)).index.entries ≡ Some x → x.queued ≡ Some v → IsWaiting flight done fated x

  changed_is : (f : Entry → Entry) (x : Entry) → entry_at flight.path (with_changed flight.path f items) ≡ Some x → f e ≡ x
  changed_is f x at =
      let here : entry_at flight.path (with_changed flight.path f items) ≡ option_map f (entry_at flight.path items) = changed_at flight.path flight.path f items (same_self flight.path) in
      let new : Some (f e) ≡ Some x = sym (here ∙ ap (option_map f) found) ∙ at in cc

  -- bytes that were sent are queued no more
  sent_waits : (seen : Seen) (row : ℕ) (x : Entry) (v : Waiting) → entry_at flight.path (with_changed flight.path (sent_entry flight.body.file seen row) items) ≡ Some x → x.queued ≡ Some v → ⊥
  sent_waits seen row x v at some =
      let same : sent_entry flight.body.file seen row e ≡ x = changed_is (sent_entry flight.body.file seen row) x at in
      let test : has_file flight.body.file e.body ≡ true = own_body flight e body in
      let gone : (sent_entry flight.body.file seen row e).queued ≡ None = ap (λ (b : Bool). if b then None else e.queued) test in
      let wrong : ◌≡◌ {A = Option Waiting} None (Some v) = sym gone ∙ ap (λ (y : Entry). y.queued) same ∙ some in cc

  -- and so are those that are lost
  lost_waits : (row : ℕ) (x : Entry) → entry_at flight.path (entries_after_loss flight.path false row items (queued_at flight.path items)) ≡ Some x → ⊥
  lost_waits row x at =
      let gone : entries_after_loss flight.path false row items (queued_at flight.path items) ≡ without_entry flight.path false items =
      ap (entries_after_loss flight.path false row items) (queued_is t flight now e w found body queued was_tried early) in
      let none : entry_at flight.path (without_entry flight.path false items) ≡ None = gone_at flight.path false flight.path items (goes_same flight.path flight.path true (same_self flight.path)) in
      let wrong : ◌≡◌ {A = Option Entry} None (Some x) = sym none ∙ ap (entry_at flight.path) (sym gone) ∙ at in cc

  again_waits : (seconds : ℕ) → WaitsAfter (ends.Again seconds) (fated_again t.index (waiting_at flight.path items) now seconds)
  again_waits seconds = by (nat_lt ((waiting_at flight.path items).attempts + 1) 15)
    where
      by : (b : Bool) → WaitsAfter (ends.Again seconds) (if b then fates.Waits ((waiting_at flight.path items).attempts + 1) (moment (now + pause ((waiting_at flight.path items).attempts + 1) seconds)) else fates.Lost t.index.next_lost)
      by true x v at some =
          let wait : Waiting = record { attempts = (waiting_at flight.path items).attempts + 1; due = moment (now + pause ((waiting_at flight.path items).attempts + 1) seconds); tried = (waiting_at flight.path items).tried } in
          let same : waiting_so wait e ≡ x = changed_is (waiting_so wait) x at in
          let still : (waiting_at flight.path items).tried ≡ true = ap (λ (wait : Waiting). wait.tried) (waits_so t flight now e w found body queued was_tried early) ∙ was_tried in
          let waits : (waiting_so wait e).queued ≡ Some wait = ap (option_map (λ (old : Waiting). wait)) queued in
          record {
            seconds = seconds;
            done_is = refl;
            attempts = (waiting_at flight.path items).attempts + 1;
            due = moment (now + pause ((waiting_at flight.path items).attempts + 1) seconds);
            fated_is = refl;
            body = ap (λ (y : Entry). y.body) (sym same) ∙ body;
            waits = ap (λ (y : Entry). y.queued) (sym same) ∙ waits ∙ ap (λ (b : Bool). some_waiting (record { attempts = (waiting_at flight.path items).attempts + 1; due = moment (now + pause ((waiting_at flight.path items).attempts + 1) seconds); tried = b })) still;
          }
      by false x v at some = absurd (lost_waits (t.index.records + 1) x at)

  current_waits : (done : Done) → WaitsAfter done (fated_current t.index flight now done)
  current_waits (ends.Sent seen) x v at some = absurd (sent_waits seen (t.index.records + 1) x v at some)
  current_waits (ends.Again seconds) x v at some = again_waits seconds x v at some
  current_waits ends.Refused x v at some = absurd (lost_waits (t.index.records + 1) x at)

  pub settling_waits : (done : Done) (x : Entry) (v : Waiting) → entry_at flight.path (changed t (settle_effect t (Some flight) now done)).index.entries ≡ Some x → x.queued ≡ Some v → IsWaiting flight done (fated_of t.index flight now done) x
  settling_waits done = subst (WaitsAfter done) (sym (current_fate t flight now e w found body queued was_tried early done)) (current_waits done)

-- the table of a desk that took this job
abbrev pub with_taken : DeskTable → Flight → DeskTable
with_taken t flight = changed t (take_effect t (Some flight))

-- what is queued of a path behind a turn that settled: it is as it was, or it is of the job, which is to be sent again
abbrev StillOne : DeskTable → ℕ → Flight → Done → PathParts → Entry → Type 0
StillOne t now flight done path x = (entry_at path t.index.entries ≡ Some x) ⊎ ((same_path path flight.path ≡ true) × IsWaiting flight done (fated_of (with_taken t flight).index flight now done) x)

still_one : (t u : DeskTable) (now : ℕ) (one : Settling t u now) → IsSound t → t.stopping ≡ true → now < 18446744073709551615 → (path : PathParts) (x : Entry) (v : Waiting)
    → entry_at path u.index.entries ≡ Some x → x.queued ≡ Some v → StillOne t now one.flight one.done path x
still_one t u now one sound stopping early path x v at some =
    let flight = one.flight in
    let old = due_entry t now flight sound one.taken_is in
    let mid : DeskTable = with_taken t flight in
    let wait : Waiting = tried_wait t flight in
    let entry : Entry = waiting_so wait old.old in
    let entries_are : mid.index.entries ≡ with_changed flight.path (waiting_so wait) t.index.entries = tried_entries t flight stopping in
    let found : entry_at flight.path mid.index.entries ≡ Some entry = tried_found t flight old.old stopping old.found in
    let queued : entry.queued ≡ Some wait = ap (option_map (λ (before : Waiting). wait)) old.queued in
    let end : DeskTable = changed mid (settle_effect mid (Some flight) now one.done) in
    let spends : Spends now flight.path mid.index.entries end.index.entries = settling_spends mid flight now entry wait found old.body queued refl early one.done in
    let here : entry_at path end.index.entries ≡ Some x = ap (λ (y : DeskTable). entry_at path y.index.entries) (sym one.after_is) ∙ at in
    by_test {A = StillOne t now flight one.done path x} (same_path path flight.path)
    (λ same. inr (same, settling_waits mid flight now entry wait found old.body queued refl early one.done x v (sym (entry_same path flight.path end.index.entries same) ∙ here) some))
    (λ other. inl (sym (changed_other path flight.path (waiting_so wait) t.index.entries other) ∙ sym (ap (entry_at path) entries_are) ∙ sym (spends.others path other) ∙ here))

take_steps : (t : DeskTable) (now : ℕ) (flight : Flight) (ended : ℕ) → taken t now ≡ Some flight → steps_by Went t Uploader now Take ended ≡ step_of t Uploader now Take ended ∷ []
take_steps t now flight ended is = ap (λ (found : Option Flight). unless_idle (take_effect t found).told (step_of t Uploader now Take ended)) is

settle_steps : (t : DeskTable) (now : ℕ) (flight : Flight) (done : Done) (ended : ℕ) → t.job ≡ Some flight
    → steps_by Went t Uploader now (Settle flight.number done) ended ≡ step_of t Uploader now (Settle flight.number done) ended ∷ []
settle_steps t now flight done ended is = ap (λ (e : Effect). unless_idle e.told (step_of t Uploader now (Settle flight.number done) ended)) (settle_effect_is t now flight done is)

abbrev some_told : Told → Option Told
some_told told = Some told

-- the step that settled a job
record SettleStep (t u : DeskTable) (now : ℕ) (flight : Flight) (old new : List Step) : Type 0 where
  done : Done
  settle : Step
  trace : new ≡ old ++ settle ∷ []
  table : u ≡ changed t (settle_effect t (Some flight) now done)
  after_is : after t settle.now settle.deed ≡ u
  deed : settle.deed ≡ deeds.Settle flight.number done
  told : settle.told ≡ some_told (tells.Settled (fated_of t.index flight now done))

settle_step : {D : Type 0} (view : DiskView D) (base : BaseParts) (a b : DeviceLog) (x y : Desk D) (now : ℕ) (job : Job) (turned : Turned) (one : Did) → SentSo view base now job a b x y turned → turned ≡ Ok one
    → x.table.job ≡ Some (flight_in job) → SettleStep x.table y.table now (flight_in job) x.recorder.trace.steps.items y.recorder.trace.steps.items
settle_step view base a b x y now job turned one (starved want sends same is) came flies = let wrong : turned_did one ≡ turned_fault faults.Memory = sym came ∙ is in cc
settle_step view base a b x y now job turned one (settled done answered sends asked is) came flies =
    let so : turned_did one ≡ did_of (result_by asked.met.verdict x.table now (Settle job.number done) asked.met.bytes) = sym came ∙ is ∙ ap did_of asked.answer in
    let went = settle_verdict x.table now (Settle job.number done) asked.met.bytes asked.met.verdict one so in
    let before : List Step = x.recorder.trace.steps.items in
    let ended : ℕ = view.moment y.recorder.disk in
    let effect = settle_effect_is x.table now (flight_in job) done flies in
    let table : y.table ≡ changed x.table (settle_effect x.table (Some (flight_in job)) now done) =
    asked.was.table ∙ ap (λ (v : Verdict). table_by v x.table now (Settle job.number done)) went ∙ ap (changed x.table) effect in record {
      done = done;
      settle = step_of x.table Uploader now (Settle job.number done) ended;
      trace = asked.was.steps ∙ ap (λ (v : Verdict). before ++ steps_by v x.table Uploader now (Settle job.number done) ended) went
          ∙ ap (λ (l : List Step). before ++ l) (settle_steps x.table now (flight_in job) done ended flies);
      table = table;
      after_is = ap (changed x.table) effect ∙ sym table;
      deed = refl;
      told = ap (λ (e : Effect). e.told) effect;
    }

-- the two steps of a turn that settled
pub record TurnSteps (t u : DeskTable) (now : ℕ) (old new : List Step) : Type 0 where
  pub one : Settling t u now
  pub take : Step
  pub settle : Step
  pub trace : new ≡ old ++ take ∷ settle ∷ []
  pub taken_so : after t take.now take.deed ≡ with_taken t one.flight
  pub settled_so : after (with_taken t one.flight) settle.now settle.deed ≡ u
  pub deed : settle.deed ≡ deeds.Settle one.flight.number one.done
  pub told : settle.told ≡ some_told (tells.Settled (fated_of (with_taken t one.flight).index one.flight now one.done))

pub turn_steps : {D : Type 0} (view : DiskView D) (base : BaseParts) (a b : DeviceLog) (x y : Desk D) (now : ℕ) (turned : Turned) (fated : Fated) → TurnSo view base now a b x y turned → turned ≡ Ok (did.Settled fated)
    → TurnSteps x.table y.table now x.recorder.trace.steps.items y.recorder.trace.steps.items
turn_steps view base a b x y now turned fated (idle answer asked none same is) came = let wrong : turned_did (did.Settled fated) ≡ turned_did did.Nothing = sym came ∙ is in cc
turn_steps view base a b x y now turned fated (stopped fault asked same is) came = let wrong : turned_did (did.Settled fated) ≡ turned_fault (fault_of fault) = sym came ∙ is in cc
turn_steps view base a b x y now turned fated (took mid answer job asked has sent) came =
    let flight : Flight = flight_in job in
    let before : List Step = x.recorder.trace.steps.items in
    let middle : List Step = mid.recorder.trace.steps.items in
    let facts = took_facts x.table now asked.met answer job asked.answer has in
    let here : mid.table ≡ with_taken x.table flight = (took_table view x mid now answer job asked has).1 in
    let end : SettleStep (with_taken x.table flight) y.table now flight middle y.recorder.trace.steps.items =
    subst (λ (t : DeskTable). SettleStep t y.table now flight middle y.recorder.trace.steps.items) here (settle_step view base a b mid y now job turned (did.Settled fated) sent came (ap (λ (t : DeskTable). t.job) here)) in
    let ended : ℕ = view.moment mid.recorder.disk in
    let take : Step = step_of x.table Uploader now Take ended in
    let first : middle ≡ before ++ take ∷ [] =
    asked.was.steps ∙ ap (λ (v : Verdict). before ++ steps_by v x.table Uploader now Take ended) facts.went ∙ ap (λ (l : List Step). before ++ l) (take_steps x.table now flight ended facts.taken_is) in record {
      one = record { flight = flight; done = end.done; taken_is = facts.taken_is; after_is = end.table };
      take = take;
      settle = end.settle;
      trace = end.trace ∙ ap (λ (l : List Step). l ++ end.settle ∷ []) first ∙ append_assoc before (take ∷ []) (end.settle ∷ []);
      taken_so = take_flies x.table now flight facts.taken_is;
      settled_so = end.after_is;
      deed = end.deed;
      told = end.told;
    }

-- the steps of a drain so far, the table after them, and what is still queued in it
pub record StillSo (t u : DeskTable) (old new : List Step) : Type 0 where
  pub steps : List Step
  pub trace : new ≡ old ++ steps
  pub table : table_after t steps ≡ u
  pub each : (path : PathParts) (e : Entry) (w : Waiting) → entry_at path u.index.entries ≡ Some e → e.queued ≡ Some w → (entry_at path t.index.entries ≡ Some e) ⊎ IsAgain t steps path e

pub still_begins : (t : DeskTable) (old : List Step) → StillSo t t old old
still_begins t old = record { steps = []; trace = sym (append-nil old); table = refl; each = λ path e w at some. inl at }

-- steps behind change nothing in it
again_behind : (t : DeskTable) (steps more : List Step) (path : PathParts) (e : Entry) → IsAgain t steps path e → IsAgain t (steps ++ more) path e
again_behind t steps more path e again = record {
  before = again.before;
  settle = again.settle;
  since = again.since ++ more;
  split = ap (λ (l : List Step). l ++ more) again.split ∙ append_assoc again.before (again.settle ∷ again.since) more;
  flight = again.flight;
  flies = again.flies;
  path_is = again.path_is;
  seconds = again.seconds;
  deed = again.deed;
  attempts = again.attempts;
  due = again.due;
  told = again.told;
  body = again.body;
  waits = again.waits;
}

-- one turn more
pub still_on : (t u v : DeskTable) (now : ℕ) (a b c : List Step) → StillSo t u a b → TurnSteps u v now b c → IsSound u → u.stopping ≡ true → now < 18446744073709551615 → StillSo t v a c
still_on t u v now a b c so turn sound stopping early = record {
  steps = so.steps ++ turn.take ∷ turn.settle ∷ [];
  trace = turn.trace ∙ ap (λ (l : List Step). l ++ turn.take ∷ turn.settle ∷ []) so.trace ∙ append_assoc a so.steps (turn.take ∷ turn.settle ∷ []);
  table = ap (table_after t) split ∙ table_push t (so.steps ++ turn.take ∷ []) turn.settle ∙ ap (λ (w : DeskTable). after w turn.settle.now turn.settle.deed) taken_is ∙ turn.settled_so;
  each = λ path e w at some. by path e w some (still_one u v now turn.one sound stopping early path e w at some);
}
  where
    split : so.steps ++ turn.take ∷ turn.settle ∷ [] ≡ (so.steps ++ turn.take ∷ []) ++ turn.settle ∷ []
    split = sym (append_assoc so.steps (turn.take ∷ []) (turn.settle ∷ []))

    taken_is : table_after t (so.steps ++ turn.take ∷ []) ≡ with_taken u turn.one.flight
    taken_is = table_push t so.steps turn.take ∙ ap (λ (w : DeskTable). after w turn.take.now turn.take.deed) so.table ∙ turn.taken_so

    earlier : (path : PathParts) (e : Entry) → (entry_at path t.index.entries ≡ Some e) ⊎ IsAgain t so.steps path e → (entry_at path t.index.entries ≡ Some e) ⊎ IsAgain t (so.steps ++ turn.take ∷ turn.settle ∷ []) path e
    earlier path e (inl was) = inl was
    earlier path e (inr again) = inr (again_behind t so.steps (turn.take ∷ turn.settle ∷ []) path e again)

    by : (path : PathParts) (e : Entry) (w : Waiting) → e.queued ≡ Some w → StillOne u now turn.one.flight turn.one.done path e → (entry_at path t.index.entries ≡ Some e) ⊎ IsAgain t (so.steps ++ turn.take ∷ turn.settle ∷ []) path e
    by path e w some (inl was) = earlier path e (so.each path e w was some)
    by path e w some (inr new) = inr (record {
      before = so.steps ++ turn.take ∷ [];
      settle = turn.settle;
      since = [];
      split = split;
      flight = turn.one.flight;
      flies = ap (λ (w : DeskTable). w.job) taken_is;
      path_is = new.0;
      seconds = new.1.seconds;
      deed = turn.deed ∙ ap (λ (done : Done). deeds.Settle turn.one.flight.number done) new.1.done_is;
      attempts = new.1.attempts;
      due = new.1.due;
      told = turn.told ∙ ap (λ (fated : Fated). some_told (tells.Settled fated)) new.1.fated_is;
      body = new.1.body;
      waits = new.1.waits;
    })

-- where nothing is next, no entry is due
next_stays : (now : ℕ) (stopping : Bool) (best : Item) (items : List Item) → fold (sooner now stopping) (Some best) items ≡ None → ⊥
next_stays now stopping best [] is = let wrong : ◌≡◌ {A = Option Item} (Some best) None = is in cc
next_stays now stopping best (x ∷ xs) is = by (is_next now stopping (Some best) x) is (next_stays now stopping x xs) (next_stays now stopping best xs)
  where
    by : (b : Bool) → fold (sooner now stopping) (if b then Some x else Some best) xs ≡ None → (fold (sooner now stopping) (Some x) xs ≡ None → ⊥) → (fold (sooner now stopping) (Some best) xs ≡ None → ⊥) → ⊥
    by true h new kept = new h
    by false h new kept = kept h

first_not : (now : ℕ) (stopping : Bool) (x : Item) (xs : List Item) → next_due now stopping (x ∷ xs) ≡ None → (is_due now stopping x.entry.queued ≡ false) × (next_due now stopping xs ≡ None)
first_not now stopping x xs is = by (is_due now stopping x.entry.queued) refl is
  where
    by : (b : Bool) → is_due now stopping x.entry.queued ≡ b → fold (sooner now stopping) (if b then Some x else None) xs ≡ None → (is_due now stopping x.entry.queued ≡ false) × (next_due now stopping xs ≡ None)
    by true due h = absurd (next_stays now stopping x xs h)
    by false due h = (due, h)

not_due_at : (now : ℕ) (stopping : Bool) (path : PathParts) (items : List Item) (e : Entry) → next_due now stopping items ≡ None → entry_at path items ≡ Some e → is_due now stopping e.queued ≡ false
unfolding entry_at
not_due_at now stopping path [] e none at = let wrong : ◌≡◌ {A = Option Entry} None (Some e) = at in cc
not_due_at now stopping path (x ∷ xs) e none at =
    let first = first_not now stopping x xs none in
    by (has_path path x) at first.0 (not_due_at now stopping path xs e first.1)
  where
    by : (b : Bool) → (if b then Some x.entry else entry_at path xs) ≡ Some e → is_due now stopping x.entry.queued ≡ false → (entry_at path xs ≡ Some e → is_due now stopping e.queued ≡ false) → is_due now stopping e.queued ≡ false
    by true h off later = let same : x.entry ≡ e = cc in subst (λ (y : Entry). is_due now stopping y.queued ≡ false) same off
    by false h off later = later h

-- a turn that did nothing is no step
idle_steps : (t : DeskTable) (now : ℕ) (ended : ℕ) (v : Verdict) (answer : Answer) (bytes : List ℕ) → an_answer answer ≡ result_by v t now Take bytes → taken t now ≡ None → steps_by v t Uploader now Take ended ≡ []
idle_steps t now ended Went answer bytes is none = ap (λ (found : Option Flight). unless_idle (take_effect t found).told (step_of t Uploader now Take ended)) none
idle_steps t now ended (Stopped fault) answer bytes is none = refl
idle_steps t now ended Starved answer bytes is none = refl

turn_quiet : {D : Type 0} (view : DiskView D) (base : BaseParts) (a b : DeviceLog) (x y : Desk D) (now : ℕ) (turned : Turned) → TurnSo view base now a b x y turned → turned ≡ Ok did.Nothing → taken x.table now ≡ None
    → y.recorder.trace.steps.items ≡ x.recorder.trace.steps.items
turn_quiet view base a b x y now turned (idle answer asked nothing same is) came none =
    asked.was.steps ∙ ap (λ (l : List Step). x.recorder.trace.steps.items ++ l) (idle_steps x.table now (view.moment y.recorder.disk) asked.met.verdict answer asked.met.bytes asked.answer none) ∙ append-nil x.recorder.trace.steps.items
turn_quiet view base a b x y now turned (stopped fault asked same is) came none = let wrong : turned_did did.Nothing ≡ turned_fault (fault_of fault) = sym came ∙ is in cc
turn_quiet view base a b x y now turned (took mid answer job asked has sent) came none =
    let facts = took_facts x.table now asked.met answer job asked.answer has in
    let wrong : ◌≡◌ {A = Option Flight} None (Some (flight_in job)) = sym none ∙ facts.taken_is in cc

-- behind the last turn
pub still_ends : {D : Type 0} (view : DiskView D) (base : BaseParts) (now : ℕ) (b c : DeviceLog) (x y z : Desk D) → StillSo x.table y.table x.recorder.trace.steps.items y.recorder.trace.steps.items
    → TurnSo view base now b c y z (Ok did.Nothing) → next_due now true z.table.index.entries ≡ None → LeavesAgain now x z
still_ends {D} view base now b c x y z so one nothing =
    let none = turn_none view base b c y z now (Ok did.Nothing) one refl in record {
      steps = so.steps;
      trace = turn_quiet view base b c y z now (Ok did.Nothing) one refl none.none ∙ so.trace;
      each = λ path e w at some.
          by path e (not_due_at now true path z.table.index.entries e nothing at) (so.each path e w (ap (λ (t : DeskTable). entry_at path t.index.entries) (sym none.same) ∙ at) some);
    }
  where
    by : (path : PathParts) (e : Entry) → is_due now true e.queued ≡ false → (entry_at path x.table.index.entries ≡ Some e) ⊎ IsAgain x.table so.steps path e
        → ((entry_at path x.table.index.entries ≡ Some e) × (is_due now true e.queued ≡ false)) ⊎ IsAgain x.table so.steps path e
    by path e off (inl was) = inl (was, off)
    by path e off (inr again) = inr again
