-- What each deed comes to: its mark, its answer, its record and what it changes.
use Rattle.std.specs.Prelude.{ℕ, ◌+◌, ◌-◌, ◌*◌, ◌^◌, min, max, Bool, true, false, not, List, [], ◌∷◌, ◌++◌, filter, Option, Some, None, option_and_then, if◌then◌else◌, nat_eq, nat_lt}
use Rattle.dav_text.specs.Path.{PathParts}
use Rattle.dav_store.specs.declared.body_id.BodyId.{BodyId}
use Rattle.dav_index.specs.Item.{Item}
use Rattle.dav_index.specs.Items.{entry_at, goes_with}
use Rattle.dav_index.specs.Tables.{fresh_waiting, has_file, queued_at, replay, with_waiting}
use Rattle.dav_index.specs.Queries.{next_due}
use Rattle.dav_index.specs.declared.entry.Entry.{Entry}
use Rattle.dav_index.specs.declared.entry.Waiting.{Waiting}
use Rattle.dav_index.specs.declared.record.Record.{Record}
use Rattle.dav_index.specs.declared.record.Record.TheVariants as records
use Rattle.dav_index.specs.declared.table.Table.{Table}
use Rattle.dav_deeds.specs.declared.answer.Fated.{Fated}
use Rattle.dav_deeds.specs.declared.answer.Fated.TheVariants.{Clean, Superseded, Waits, Lost}
use Rattle.dav_deeds.specs.declared.answer.Flight.{Flight}
use Rattle.dav_deeds.specs.declared.answer.Told.{Told}
use Rattle.dav_deeds.specs.declared.answer.Told.TheVariants as answers
use Rattle.dav_deeds.specs.declared.ask.Done.{Done}
use Rattle.dav_deeds.specs.declared.ask.Done.TheVariants.{Sent, Again, Refused}
use Rattle.dav_deeds.specs.declared.deed.Deed.{Deed}
use Rattle.dav_deeds.specs.declared.deed.Deed.TheVariants.{Store, Forget, Take, Settle, Stop}
use Rattle.dav_deeds.specs.declared.deed.Mark.{Mark}
use Rattle.dav_deeds.specs.declared.deed.Mark.TheVariants as marks
use Rattle.dav_deeds.specs.declared.fault.DeskFault.{DeskFault}
use Rattle.dav_deeds.specs.DeskTable.{DeskTable}
use Rattle.dav_deeds.specs.Refusals.{refusal_of}

-- how the bytes of a path wait
pub record Wait : Type 0 where
  pub path : PathParts
  pub waiting : Waiting

-- what a deed comes to: its mark, what is answered, what is put on record, how the bytes of a path wait
-- from then on, the files that nothing needs any more, the job in flight afterwards, the number of jobs
-- so far, and whether the desk is about to end
pub record Effect : Type 0 where
  pub mark : Mark
  pub told : Option Told
  pub on_record : Option Record
  pub waits : Option Wait
  pub released : List ℕ
  pub job : Option Flight
  pub jobs : ℕ
  pub stopping : Bool

-- nothing but a mark and an answer
abbrev pub quiet : DeskTable → Mark → Option Told → Effect
quiet t mark told = record {
  mark = mark;
  told = told;
  on_record = None;
  waits = None;
  released = [];
  job = t.job;
  jobs = t.jobs;
  stopping = t.stopping;
}

-- a moment, up to the greatest that there is
abbrev pub moment : ℕ → ℕ
moment at = min at 18446744073709551615

abbrev pub is_nothing : {X : Type 0} → List X → Bool
is_nothing [] = true
is_nothing (x ∷ xs) = false

-- the path as an entry keeps it: no slash stands at its end, but for `/` itself
abbrev pub bare : PathParts → PathParts
bare path = record { segments = path.segments; slash = is_nothing path.segments }

-- the file of a body
abbrev pub file_of : Option BodyId → List ℕ
file_of None = []
file_of (Some body) = body.file ∷ []

-- the files of the bodies of these entries
abbrev pub files_of : List Item → List ℕ
files_of [] = []
files_of (item ∷ items) = file_of item.entry.body ++ files_of items

-- the body that is kept of a path
abbrev pub body_at : PathParts → List Item → Option BodyId
body_at path items = option_and_then (λ (entry : Entry). entry.body) (entry_at path items)

-- whether it is the file of the job in flight
abbrev pub is_flying : Option Flight → ℕ → Bool
is_flying None file = false
is_flying (Some flight) file = nat_eq flight.body.file file

-- the files but that of the job in flight
abbrev pub grounded : Option Flight → List ℕ → List ℕ
grounded job files = filter (λ file. not (is_flying job file)) files

-- how the bytes of an entry wait
abbrev pub waiting_in : Option Waiting → Waiting
waiting_in None = fresh_waiting
waiting_in (Some waiting) = waiting

abbrev pub waiting_of : Option Entry → Waiting
waiting_of None = fresh_waiting
waiting_of (Some entry) = waiting_in entry.queued

-- how the bytes of a path wait
abbrev pub waiting_at : PathParts → List Item → Waiting
waiting_at path items = waiting_of (entry_at path items)

-- a store: the body is queued, from ten seconds on, and the one before it is needed no more
abbrev pub store_effect : DeskTable → PathParts → ℕ → Option BodyId → Effect
store_effect t path now None = quiet t marks.Plain None
store_effect t path now (Some body) = record {
  mark = marks.Body body;
  told = Some (answers.Closed body);
  on_record = Some (records.Closed (bare path) body);
  waits = Some (record { path = bare path; waiting = record { attempts = 0; due = moment (now + 10); tried = false } });
  released = grounded t.job (file_of (body_at path t.index.entries));
  job = t.job;
  jobs = t.jobs;
  stopping = t.stopping;
}

-- the entries that go with the path
abbrev pub going : PathParts → Bool → List Item → List Item
going path below items = filter (goes_with path below) items

-- the record that a path is forgotten, where anything goes with it
abbrev pub forgot_record : PathParts → Bool → Bool → List Item → Option Record
forgot_record path locks below [] = None
forgot_record path locks below (item ∷ items) = Some (records.Forgot path locks below)

abbrev pub forget_effect : DeskTable → PathParts → Bool → Bool → Effect
forget_effect t path locks below = record {
  mark = marks.Plain;
  told = Some answers.Forgot;
  on_record = forgot_record path locks below (going path below t.index.entries);
  waits = None;
  released = grounded t.job (files_of (going path below t.index.entries));
  job = t.job;
  jobs = t.jobs;
  stopping = t.stopping;
}

abbrev pub flight_with : ℕ → Item → Option BodyId → Option Flight
flight_with number item None = None
flight_with number item (Some body) = Some (record { number = number; path = item.path; body = body; seen = item.entry.seen })

abbrev pub flight_of : ℕ → Option Item → Option Flight
flight_of number None = None
flight_of number (Some item) = flight_with number item item.entry.body

-- the number of the next job
abbrev pub next_job : DeskTable → ℕ
next_job t = min (t.jobs + 1) 18446744073709551615

-- the job that may be taken beside the one in flight
abbrev pub taken_beside : DeskTable → ℕ → Option Flight → Option Flight
taken_beside t now (Some flight) = None
taken_beside t now None = flight_of (next_job t) (next_due now t.stopping t.index.entries)

-- the job that a take gives
abbrev pub taken : DeskTable → ℕ → Option Flight
taken t now = taken_beside t now t.job

-- the bytes of the path count as tried
abbrev pub tried : DeskTable → Flight → Option Wait
tried t flight =
    if t.stopping then
    Some (record {
      path = flight.path;
      waiting = record {
        attempts = (waiting_at flight.path t.index.entries).attempts;
        due = (waiting_at flight.path t.index.entries).due;
        tried = true;
      };
    })
    else None

abbrev pub take_effect : DeskTable → Option Flight → Effect
take_effect t None = quiet t marks.Plain (Some answers.Idle)
take_effect t (Some flight) = record {
  mark = marks.Job flight.number;
  told = Some (answers.Took flight);
  on_record = None;
  waits = tried t flight;
  released = [];
  job = Some flight;
  jobs = flight.number;
  stopping = t.stopping;
}

-- whether the bytes of the job are still those that are queued of its path
abbrev pub is_current : Table → Flight → Bool
is_current t flight = has_file flight.body.file (queued_at flight.path t.entries)

-- 30 seconds, doubled with each attempt after the first, and at most 300
abbrev pub doubled : ℕ → ℕ
doubled attempts = min (30 * 2 ^ (attempts - 1)) 300

-- how many seconds to wait after this many attempts: longer where the server asked for it, but for that at
-- most an hour
abbrev pub pause : ℕ → ℕ → ℕ
pause attempts after = max (doubled attempts) (min after 3600)

-- one more attempt was in vain: the bytes wait, or are lost after the fifteenth
abbrev pub fated_again : Table → Waiting → ℕ → ℕ → Fated
fated_again t waiting now after =
    if nat_lt (waiting.attempts + 1) 15 then Waits (waiting.attempts + 1) (moment (now + pause (waiting.attempts + 1) after))
    else Lost t.next_lost

-- what becomes of the bytes of a job that are still queued
abbrev pub fated_current : Table → Flight → ℕ → Done → Fated
fated_current t flight now (Sent seen) = Clean
fated_current t flight now (Again after) = fated_again t (waiting_at flight.path t.entries) now after
fated_current t flight now Refused = Lost t.next_lost

-- what becomes of the bytes of a job
abbrev pub fated_of : Table → Flight → ℕ → Done → Fated
fated_of t flight now done = if is_current t flight then fated_current t flight now done else Superseded

abbrev pub mark_of_fate : Fated → Mark
mark_of_fate Clean = marks.Plain
mark_of_fate Superseded = marks.Plain
mark_of_fate (Waits attempts due) = marks.Plain
mark_of_fate (Lost number) = marks.LostAs number

abbrev pub loss_of_fate : Flight → Fated → Option Record
loss_of_fate flight Clean = None
loss_of_fate flight Superseded = None
loss_of_fate flight (Waits attempts due) = None
loss_of_fate flight (Lost number) = Some (records.Lost number flight.path false)

-- the record of a settling. What is known of the file is on record also where newer bytes are queued
abbrev pub record_of_fate : Flight → Done → Fated → Option Record
record_of_fate flight (Sent seen) fated = Some (records.Sent flight.path flight.body.file seen)
record_of_fate flight (Again after) fated = loss_of_fate flight fated
record_of_fate flight Refused fated = loss_of_fate flight fated

abbrev pub wait_of_fate : Table → Flight → Fated → Option Wait
wait_of_fate t flight Clean = None
wait_of_fate t flight Superseded = None
wait_of_fate t flight (Waits attempts due) =
    Some (record { path = flight.path; waiting = record { attempts = attempts; due = due; tried = (waiting_at flight.path t.entries).tried } })
wait_of_fate t flight (Lost number) = None

-- the bytes of a job are needed no more once newer ones are queued
abbrev pub released_by_fate : Flight → Fated → List ℕ
released_by_fate flight Clean = []
released_by_fate flight Superseded = flight.body.file ∷ []
released_by_fate flight (Waits attempts due) = []
released_by_fate flight (Lost number) = []

abbrev pub settle_by_fate : DeskTable → Flight → Done → Fated → Effect
settle_by_fate t flight done fated = record {
  mark = mark_of_fate fated;
  told = Some (answers.Settled fated);
  on_record = record_of_fate flight done fated;
  waits = wait_of_fate t.index flight fated;
  released = released_by_fate flight fated;
  job = None;
  jobs = t.jobs;
  stopping = t.stopping;
}

abbrev pub settle_effect : DeskTable → Option Flight → ℕ → Done → Effect
settle_effect t None now done = quiet t marks.Plain None
settle_effect t (Some flight) now done = settle_by_fate t flight done (fated_of t.index flight now done)

abbrev pub stop_effect : DeskTable → Effect
stop_effect t = record {
  mark = marks.Plain;
  told = Some answers.Stopping;
  on_record = None;
  waits = None;
  released = [];
  job = t.job;
  jobs = t.jobs;
  stopping = true;
}

-- what a deed comes to that isn't refused
abbrev pub effect_done : DeskTable → ℕ → Deed → Effect
effect_done t now (Store path len body) = store_effect t path now body
effect_done t now (Forget path locks below) = forget_effect t path locks below
effect_done t now Take = take_effect t (taken t now)
effect_done t now (Settle job done) = settle_effect t t.job now done
effect_done t now Stop = stop_effect t

abbrev pub effect_unless : Option DeskFault → DeskTable → ℕ → Deed → Effect
effect_unless (Some fault) t now deed = quiet t (marks.Refused fault) None
effect_unless None t now deed = effect_done t now deed

-- what a deed at this moment comes to
abbrev pub effect_of : DeskTable → ℕ → Deed → Effect
effect_of t now deed = effect_unless (refusal_of t deed) t now deed

-- the table, the bytes of a path waiting so
abbrev pub waited : Table → Option Wait → Table
waited t None = t
waited t (Some wait) = with_waiting wait.path wait.waiting t

-- the table after what is on record, if anything is
abbrev pub recorded : Table → Option Record → Table
recorded t None = t
recorded t (Some r) = replay t r

-- the table after an effect
abbrev pub changed : DeskTable → Effect → DeskTable
changed t e = record { index = waited (recorded t.index e.on_record) e.waits; job = e.job; jobs = e.jobs; stopping = e.stopping }

-- the table after a deed at this moment, the record of the deed, its mark, what is answered, and the files
-- that nothing needs any more
abbrev pub after : DeskTable → ℕ → Deed → DeskTable
after t now deed = changed t (effect_of t now deed)

abbrev pub record_of : DeskTable → ℕ → Deed → Option Record
record_of t now deed = (effect_of t now deed).on_record

abbrev pub mark_of : DeskTable → ℕ → Deed → Mark
mark_of t now deed = (effect_of t now deed).mark

abbrev pub told_of : DeskTable → ℕ → Deed → Option Told
told_of t now deed = (effect_of t now deed).told

abbrev pub released_of : DeskTable → ℕ → Deed → List ℕ
released_of t now deed = (effect_of t now deed).released
