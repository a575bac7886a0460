-- How a run ends behind the lines: its last line, and what the desk and the wire did before it.
use Rattle.std.proofs.Common.{◌≡◌, ◌≢◌, ◌⊎◌, inl, inr, ℕ, List, [], ◌∷◌, ◌++◌, length, Bool, true, false, not, if◌then◌else◌, Option, Some, None, Ok, Err, refl, sym, ◌∙◌, ap, subst, append-nil, arith}
use Rattle.dav_machine.specs.Log.{event, any_failed}
use Rattle.dav_machine.specs.Devices.{one_device}
use Rattle.dav_machine.specs.Machine.{Run, run_with, prepend, and_then}
use Rattle.dav_machine.specs.Part.{lift, lifted_run}
use Rattle.dav_edge.specs.Connections.{connections_of}
use Rattle.dav_edge.specs.Device.{Answer, Happened, ByteMachine, is_failure}
use Rattle.dav_edge.proofs.Sending.{sent_so}
use Rattle.dav_text.specs.Path.{PathParts}
use Rattle.dav_uri.specs.Target.{BaseParts}
use Rattle.dav_deeds.specs.DeskTable.{DeskTable}
use Rattle.dav_deeds.specs.Effects.{told_of, mark_of, effect_unless, store_effect}
use Rattle.dav_deeds.specs.Legal.{IsOfShell, deed_of, body_unless}
use Rattle.dav_deeds.specs.Made.{answer_by}
use Rattle.dav_deeds.specs.Refusals.{refusal_of, store_refusal}
use Rattle.dav_deeds.specs.Sound.{IsSound}
use Rattle.dav_deeds.specs.declared.answer.Answer.TheVariants as told_answers
use Rattle.dav_deeds.specs.declared.answer.Flight.{Flight}
use Rattle.dav_deeds.specs.declared.answer.Job.{Job}
use Rattle.dav_deeds.specs.declared.answer.Told.{Told}
use Rattle.dav_deeds.specs.declared.answer.Told.TheVariants as tolds
use Rattle.dav_deeds.specs.declared.deed.Mark.{Mark}
use Rattle.dav_deeds.specs.declared.deed.Mark.TheVariants as marks
use Rattle.dav_store.specs.Body.{id_of}
use Rattle.dav_store.specs.declared.body_id.BodyId.{BodyId}
use Rattle.dav_deeds.specs.declared.ask.Ask.{Ask}
use Rattle.dav_deeds.specs.declared.ask.Ask.TheVariants as asks
use Rattle.dav_deeds.specs.declared.fault.DeskFault.{DeskFault}
use Rattle.dav_deeds.specs.declared.fault.DeskFault.TheVariants as faults
use Rattle.dav_desk.specs.Verdict.{Verdict, Went, Stopped, Starved, with_bytes, result_by}
use Rattle.dav_upload.specs.Asking.{Asking, Met, Asked, Answered, table_met, answer_met, table_through, Asks}
use Rattle.dav_upload.specs.Drain.{Drained, Drains}
use Rattle.dav_upload.specs.Pair.{Answers as PairAnswers}
use Rattle.dav_upload.specs.Backs.{HasPutOf, job_sent}
use Rattle.dav_upload.specs.Resting.{IsResting}
use Rattle.dav_upload.specs.Sent.{AsksBacked, OfJobs, none as no_jobs, PathsDiffer, job_told, jobs_told, bytes_told, step_asked}
use Rattle.dav_upload.specs.declared.did.UploadFault.TheVariants as uploads
use Rattle.dav_upload.proofs.Asks.{an_answer, a_fault}
use Rattle.dav_upload.proofs.DrainLaws.{drain_table, drain_backed, drain_connects, DrainRun}
use Rattle.dav_upload.proofs.Once.{drain_once}
use Rattle.dav_upload.proofs.ShellAsks.{shell_rests, stop_stops}
use Rattle.dav_run.specs.declared.ended.Status.{Status}
use Rattle.dav_run.specs.declared.ended.Status.TheVariants as status
use Rattle.dav_run.specs.declared.stop.Stop.{Stop}
use Rattle.dav_run.specs.declared.stop.Stop.TheVariants as stops
use Rattle.dav_run.specs.Devices.{Made, Answers, all, calls_on, the_sink, the_desk, the_pair}
use Rattle.dav_run.specs.Kept.{Wrote, IsStore, NoStores}
use Rattle.dav_run.specs.Run.{Ending, ending, Ends, Says, words_end, input_end, memory_end, disk_end, cache_end, SaysCache, tells, memory, SaysMemory, SaysFault, closing_status, left_of, SaysLeft, tells as left_tells, memory as left_memory, after_drain, stop_ask, stopping, after_shell}
use Rattle.dav_run.specs.Shell.{State, with_table}
use Rattle.dav_run.proofs.DrainAsks.{IsOfUploader, AllOfUploader, drain_asks, HasStopped, stopped_first, stopped_later, drain_stopped, gave_up}
use Rattle.dav_run.proofs.OneAsk.{asked_once}
use Rattle.dav_run.proofs.Tracing.{AllAsks}
use Rattle.dav_run.proofs.Faulting.{AllOfShell}
use Rattle.dav_run.proofs.Writing.{wrote_sent, wrote_as}

abbrev pub EndRun : Type 0
EndRun = Run Made Answers Ending

abbrev SinkRun : Type 0
SinkRun = Run (List Happened) (List Answer) Status

-- a line on the sink, and the status that follows it
record Line (line : List ℕ) (s : Status) (run : SinkRun) : Type 0 where
  status_is : run.result ≡ s
  wrote : Wrote run.made line

says_line : (line : List ℕ) (s : Status) (answers : List Answer) (run : SinkRun) → Says line s answers run → Line line s run
says_line line s answers run does =
    let whole : run ≡ prepend one_device does.before.made (run_with s [] does.before.left) = does.whole ∙ ap (prepend one_device does.before.made) does.goes_on in
    let so = sent_so line answers does.before does.begins in
    record {
      status_is = ap (λ (r : SinkRun). r.result) whole;
      wrote = wrote_as does.before.made run.made line line (sym (ap (λ (r : SinkRun). r.made) whole ∙ append-nil does.before.made)) refl (wrote_sent line does.before so);
    }

-- a fault with a status of its own kind
abbrev pub IsOwn : DeskFault → Type 0
IsOwn fault = (fault ≢ faults.Disk) × (fault ≢ faults.Memory)

-- How the last line went, and the status, where the shell came to this stop: these faults of the desk may be its cause, this is the table then, and whether a line answered a fault.
pub data LastLine (stop : Stop) (Caused : DeskFault → Type 0) (final : DeskTable) (faulty : Bool) (s : Status) (out : List Happened) : Type 0 where
  input : stop ≡ stops.Input → s ≡ status.Input → Wrote out input_end → LastLine stop Caused final faulty s out
  starved : s ≡ status.Memory → Wrote out memory_end → LastLine stop Caused final faulty s out
  disk : Caused faults.Disk → s ≡ status.Disk → Wrote out disk_end → LastLine stop Caused final faulty s out
  cache : (fault : DeskFault) → IsOwn fault → Caused fault → s ≡ status.Cache fault → Wrote out (cache_end fault) → LastLine stop Caused final faulty s out
  closing : stop ≡ stops.End → s ≡ closing_status faulty → any_failed is_failure out ≡ false → Wrote out (left_of final) → LastLine stop Caused final faulty s out
  untold : stop ≡ stops.End → s ≡ status.Output → any_failed is_failure out ≡ true → Wrote out (left_of final) → LastLine stop Caused final faulty s out

-- the causes may be told otherwise
pub last_caused : (stop : Stop) (One Two : DeskFault → Type 0) (final : DeskTable) (faulty : Bool) (s : Status) (out : List Happened) → ((fault : DeskFault) → One fault → Two fault) → LastLine stop One final faulty s out
    → LastLine stop Two final faulty s out
last_caused stop One Two final faulty s out other (input at is wrote) = input at is wrote
last_caused stop One Two final faulty s out other (starved is wrote) = starved is wrote
last_caused stop One Two final faulty s out other (disk cause is wrote) = disk (other faults.Disk cause) is wrote
last_caused stop One Two final faulty s out other (cache fault own cause is wrote) = cache fault own (other fault cause) is wrote
last_caused stop One Two final faulty s out other (closing at is fine wrote) = closing at is fine wrote
last_caused stop One Two final faulty s out other (untold at is failed wrote) = untold at is failed wrote

module _ (stop : Stop) (Caused : DeskFault → Type 0) (final : DeskTable) (faulty : Bool) where
  abbrev LastOf : SinkRun → Type 0
  LastOf run = LastLine stop Caused final faulty run.result run.made

  last_input : (answers : List Answer) (run : SinkRun) → stop ≡ stops.Input → Says input_end status.Input answers run → LastOf run
  last_input answers run at does = let line = says_line input_end status.Input answers run does in input at line.status_is line.wrote

  last_memory : (answers : List Answer) (run : SinkRun) → SaysMemory answers run → LastOf run
  last_memory answers run does = let line = says_line memory_end status.Memory answers run does in starved line.status_is line.wrote

  last_cache : (fault : DeskFault) (answers : List Answer) (run : SinkRun) → IsOwn fault → Caused fault → SaysCache fault answers run → LastOf run
  last_cache fault answers run own cause (tells does) = let line = says_line (cache_end fault) (status.Cache fault) answers run does in cache fault own cause line.status_is line.wrote
  last_cache fault answers run own cause (memory does) = last_memory answers run does

  last_fault : (fault : DeskFault) (answers : List Answer) (run : SinkRun) → (fault ≢ faults.Memory → Caused fault) → SaysFault fault answers run → LastOf run
  last_fault faults.Disk answers run cause does = let line = says_line disk_end status.Disk answers run does in disk (cause (λ h. cc)) line.status_is line.wrote
  last_fault (faults.NotACache at) answers run cause does = last_cache (faults.NotACache at) answers run (λ h. cc, λ h. cc) (cause (λ h. cc)) does
  last_fault (faults.Damaged file kept found) answers run cause does = last_cache (faults.Damaged file kept found) answers run (λ h. cc, λ h. cc) (cause (λ h. cc)) does
  last_fault (faults.OtherServer kept asked) answers run cause does = last_cache (faults.OtherServer kept asked) answers run (λ h. cc, λ h. cc) (cause (λ h. cc)) does
  last_fault (faults.Queued path) answers run cause does = last_cache (faults.Queued path) answers run (λ h. cc, λ h. cc) (cause (λ h. cc)) does
  last_fault (faults.NoSuchJob number) answers run cause does = last_cache (faults.NoSuchJob number) answers run (λ h. cc, λ h. cc) (cause (λ h. cc)) does
  last_fault (faults.Crowded oldest) answers run cause does = last_cache (faults.Crowded oldest) answers run (λ h. cc, λ h. cc) (cause (λ h. cc)) does
  last_fault (faults.Limit which) answers run cause does = last_cache (faults.Limit which) answers run (λ h. cc, λ h. cc) (cause (λ h. cc)) does
  last_fault faults.Memory answers run cause does = last_memory answers run does

  left_by : (went : Bool) (s : Status) (out : List Happened) → stop ≡ stops.End → s ≡ (if went then closing_status faulty else status.Output) → any_failed is_failure out ≡ not went → Wrote out (left_of final) → LastLine stop Caused final faulty s out
  left_by true s out at is failed wrote = closing at is failed wrote
  left_by false s out at is failed wrote = untold at is failed wrote

  last_left : (answers : List Answer) (run : SinkRun) → stop ≡ stops.End → SaysLeft (left_of final) faulty answers run → LastOf run
  last_left answers run at (left_tells does) =
      let sends = does.before in
      let whole : run ≡ prepend one_device sends.made (run_with (if sends.result then closing_status faulty else status.Output) [] sends.left) = does.whole ∙ ap (prepend one_device sends.made) does.goes_on in
      let made : run.made ≡ sends.made = ap (λ (r : SinkRun). r.made) whole ∙ append-nil sends.made in
      let so = sent_so (left_of final) answers sends does.begins in
      left_by sends.result run.result run.made at (ap (λ (r : SinkRun). r.result) whole) (ap (any_failed is_failure) made ∙ so.failed)
      (wrote_as sends.made run.made (left_of final) (left_of final) (sym made) refl (wrote_sent (left_of final) sends so))
  last_left answers run at (left_memory does) = last_memory answers run does

-- a run of the last line alone
pub record Ended (stop : Stop) (Caused : DeskFault → Type 0) (st : State) (run : EndRun) : Type 0 where
  pub result : run.result ≡ ending run.result.status st
  pub last : LastLine stop Caused st.table st.faulty run.result.status run.made.out
  pub up : run.made.up ≡ []
  pub desk : run.made.desk ≡ []

-- what the sink was told, and how the run ends
pub record Spoke (says_so : ByteMachine Status) (st : State) (run : EndRun) : Type 0 where
  pub answers : List Answer
  pub below : SinkRun
  pub does : says_so answers below
  pub result : run.result ≡ ending below.result st
  pub out : run.made.out ≡ below.made
  pub up : run.made.up ≡ []
  pub desk : run.made.desk ≡ []

pub spoke : (says_so : ByteMachine Status) (st : State) (answers : Answers) (run : EndRun) → Ends says_so st answers run → Spoke says_so st run
spoke says_so st answers run does =
    let below = does.begins.below in
    let whole : run ≡ run_with (ending below.result st) (calls_on (below.made ++ []) [] []) (the_sink.put below.left answers) =
    does.whole ∙ ap (prepend all does.before.made) does.goes_on
    ∙ ap (λ (b : Run Made Answers Status). prepend all b.made (run_with (ending b.result st) all.nothing b.left)) does.begins.is in
    record {
      answers = answers.out;
      below = below;
      does = does.begins.does;
      result = ap (λ (r : EndRun). r.result) whole;
      out = ap (λ (r : EndRun). r.made.out) whole ∙ append-nil below.made;
      up = ap (λ (r : EndRun). r.made.up) whole;
      desk = ap (λ (r : EndRun). r.made.desk) whole;
    }

ended : (stop : Stop) (Caused : DeskFault → Type 0) (says_so : ByteMachine Status) (st : State) (answers : Answers) (run : EndRun) → Ends says_so st answers run
    → ((given : List Answer) (below : SinkRun) → says_so given below → LastLine stop Caused st.table st.faulty below.result below.made) → Ended stop Caused st run
ended stop Caused says_so st answers run does last =
    let so = spoke says_so st answers run does in
    let s : run.result.status ≡ so.below.result = ap (λ (e : Ending). e.status) so.result in
    record {
      result = so.result ∙ ap (λ (t : Status). ending t st) (sym s);
      last = subst (λ (t : Status). LastLine stop Caused st.table st.faulty t run.made.out) (sym s)
          (subst (LastLine stop Caused st.table st.faulty so.below.result) (sym so.out) (last so.answers so.below so.does));
      up = so.up;
      desk = so.desk;
    }

-- the last line behind a drain
drain_ended : (drained : Drained) (st : State) (answers : Answers) (run : EndRun) → after_drain drained st answers run → Ended stops.End (λ fault. drained ≡ gave_up fault) st run
drain_ended (Ok done) st answers run does =
    ended stops.End (λ fault. Ok done ≡ gave_up fault) (SaysLeft (left_of st.table) st.faulty) st answers run does
    (λ given below so. last_left stops.End (λ fault. Ok done ≡ gave_up fault) st.table st.faulty given below refl so)
drain_ended (Err (uploads.Desk fault)) st answers run does =
    ended stops.End (λ other. gave_up fault ≡ gave_up other) (SaysFault fault) st answers run does
    (λ given below so. last_fault stops.End (λ other. gave_up fault ≡ gave_up other) st.table st.faulty fault given below (λ h. refl) so)
drain_ended (Err uploads.Memory) st answers run does =
    ended stops.End (λ fault. Err uploads.Memory ≡ gave_up fault) SaysMemory st answers run does (last_memory stops.End (λ fault. Err uploads.Memory ≡ gave_up fault) st.table st.faulty)

-- what the desk and the wire did behind the lines, and how the run ends
pub record Finished (stop : Stop) (Caused : DeskFault → List Asked → Type 0) (base : BaseParts) (st : State) (run : EndRun) : Type 0 where
  pub final : DeskTable
  pub table : final ≡ table_through st.table run.made.desk
  pub result : run.result ≡ ending run.result.status (with_table st final)
  pub last : LastLine stop (λ fault. Caused fault run.made.desk) final st.faulty run.result.status run.made.out
  pub no_stores : NoStores run.made.desk
  pub backed : AsksBacked base [] st.table run.made.desk run.made.up
  pub sent : OfJobs base (jobs_told st.table run.made.desk) (connections_of run.made.up)

-- nothing but the last line
alone : (stop : Stop) (Caused : DeskFault → List Asked → Type 0) (base : BaseParts) (st : State) (run : EndRun) → Ended stop (λ fault. Caused fault []) st run → Finished stop Caused base st run
alone stop Caused base st run one = record {
  final = st.table;
  table = ap (table_through st.table) (sym one.desk);
  result = one.result;
  last = subst (λ (es : List Asked). LastLine stop (λ fault. Caused fault es) st.table st.faulty run.result.status run.made.out) (sym one.desk) one.last;
  no_stores = subst NoStores (sym one.desk) tt;
  backed = subst (λ (es : List Asked). AsksBacked base [] st.table es run.made.up) (sym one.desk) tt;
  sent = subst (λ (es : List Asked). OfJobs base (jobs_told st.table es) (connections_of run.made.up)) (sym one.desk)
      (subst (λ (l : List Happened). OfJobs base [] (connections_of l)) (sym one.up) no_jobs);
}

-- an ask of what sends files is no store
not_store : (ask : Ask) → IsOfUploader ask → IsStore ask → ⊥
not_store (asks.Store path bytes) of store = of
not_store (asks.Forget path locks below) of store = store
not_store asks.Take of store = store
not_store (asks.Settle job done) of store = store
not_store asks.Stop of store = store

not_stores : (es : List Asked) → AllOfUploader es → NoStores es
not_stores [] of = tt
not_stores (e ∷ es) of = (not_store e.asked.ask of.0, not_stores es of.1)

-- what a shell asks tells no job

not_took : (t : DeskTable) (now : ℕ) (ask : Ask) (flight : Flight) → IsOfShell ask → told_of t now (deed_of t ask) ≡ Some (tolds.Took flight) → ⊥
not_took t now ask flight of is = by (refusal_of t (deed_of t ask)) ask of is
  where
    none_is : Option Told
    none_is = None

    took : Option Told
    took = Some (tolds.Took flight)

    stored : (body : Option BodyId) (path : PathParts) → (store_effect t path now body).told ≡ took → ⊥
    stored None path h = let nothing : none_is ≡ took = h in cc
    stored (Some id) path h = let other : Some (tolds.Closed id) ≡ took = h in cc

    by : (r : Option DeskFault) (a : Ask) → IsOfShell a → (effect_unless r t now (deed_of t a)).told ≡ took → ⊥
    by (Some fault) a shell h = let nothing : none_is ≡ took = h in cc
    by None (asks.Store path bytes) shell h = stored (body_unless (store_refusal t.index path (length bytes)) (id_of t.index.next_file bytes)) path h
    by None (asks.Forget path locks below) shell h = let other : Some tolds.Forgot ≡ took = h in cc
    by None asks.Take shell h = shell
    by None (asks.Settle job done) shell h = shell
    by None asks.Stop shell h = let other : Some tolds.Stopping ≡ took = h in cc

-- an answer that is no job tells none, and no bytes
record TellsNone (answered : Answered) : Type 0 where
  jobs : job_told answered ≡ []
  bytes : (before : List ℕ) → bytes_told before answered ≡ before

tells_none : (mark : Mark) (told : Option Told) (bytes : List ℕ) → ((flight : Flight) → told ≡ Some (tolds.Took flight) → ⊥) → TellsNone (with_bytes (answer_by mark told) bytes)
tells_none (marks.Refused fault) None bytes other = record { jobs = refl; bytes = λ before. refl }
tells_none marks.Plain None bytes other = record { jobs = refl; bytes = λ before. refl }
tells_none (marks.Body body) None bytes other = record { jobs = refl; bytes = λ before. refl }
tells_none (marks.Job number) None bytes other = record { jobs = refl; bytes = λ before. refl }
tells_none (marks.LostAs number) None bytes other = record { jobs = refl; bytes = λ before. refl }
tells_none mark (Some (tolds.Closed body)) bytes other = record { jobs = refl; bytes = λ before. refl }
tells_none mark (Some tolds.Forgot) bytes other = record { jobs = refl; bytes = λ before. refl }
tells_none mark (Some (tolds.Took flight)) bytes other = absurd (other flight refl)
tells_none mark (Some tolds.Idle) bytes other = record { jobs = refl; bytes = λ before. refl }
tells_none mark (Some (tolds.Settled fated)) bytes other = record { jobs = refl; bytes = λ before. refl }
tells_none mark (Some tolds.Stopping) bytes other = record { jobs = refl; bytes = λ before. refl }

shell_tells : (t : DeskTable) (e : Asked) → IsOfShell e.asked.ask → TellsNone (answer_met t e.asked e.answer)
shell_tells t e of = by e.answer.verdict
  where
    by : (v : Verdict) → TellsNone (result_by v t e.asked.now e.asked.ask e.answer.bytes)
    by Went = tells_none (mark_of t e.asked.now (deed_of t e.asked.ask)) (told_of t e.asked.now (deed_of t e.asked.ask)) e.answer.bytes (λ flight is. not_took t e.asked.now e.asked.ask flight of is)
    by (Stopped fault) = record { jobs = refl; bytes = λ before. refl }
    by Starved = record { jobs = refl; bytes = λ before. refl }

shell_sends : (base : BaseParts) (bodies : ℕ → List ℕ) (t : DeskTable) (ask : Ask) (mark : Mark) → IsOfShell ask → HasPutOf base bodies (job_sent t.job (deed_of t ask) mark) []
shell_sends base bodies t (asks.Store path bytes) mark of = tt
shell_sends base bodies t (asks.Forget path locks below) mark of = tt
shell_sends base bodies t asks.Take mark of = absurd of
shell_sends base bodies t (asks.Settle job done) mark of = absurd of
shell_sends base bodies t asks.Stop mark of = tt

-- nothing is sent for what a shell asks
pub shell_backed : (base : BaseParts) (bytes : List ℕ) (es more : List Asked) (t : DeskTable) (up : List Happened) → AllOfShell es → AsksBacked base bytes (table_through t es) more up → AsksBacked base bytes t (es ++ more) up
shell_backed base bytes [] more t up of backed = backed
shell_backed base bytes (e ∷ es) more t up of backed = (
  [],
  up,
  refl,
  shell_sends base (λ file. bytes) t e.asked.ask (step_asked t e).mark of.0,
  subst (λ (b : List ℕ). AsksBacked base b (table_met t e.asked e.answer) (es ++ more) up) (sym ((shell_tells t e of.0).bytes bytes)) (shell_backed base bytes es more (table_met t e.asked e.answer) up of.1 backed),
)

pub shell_jobs : (es more : List Asked) (t : DeskTable) → AllOfShell es → jobs_told t (es ++ more) ≡ jobs_told (table_through t es) more
shell_jobs [] more t of = refl
shell_jobs (e ∷ es) more t of =
    ap (λ (jobs : List Job). jobs ++ jobs_told (table_met t e.asked e.answer) (es ++ more)) (shell_tells t e of.0).jobs ∙ shell_jobs es more (table_met t e.asked e.answer) of.1

pub shell_resting : (es : List Asked) (t : DeskTable) → AllOfShell es → AllAsks es → IsResting t → IsResting (table_through t es)
shell_resting [] t of all_asks rests = rests
shell_resting (e ∷ es) t of all_asks rests = shell_resting es (table_met t e.asked e.answer) of.1 all_asks.1 (shell_rests t e.asked.now e.asked.ask e.answer.verdict all_asks.0 of.0 rests)

-- a drain, and the last line behind it

record AfterDrain (base : BaseParts) (st : State) (run : EndRun) : Type 0 where
  finished : Finished stops.End HasStopped base st run
  differ : IsSound st.table → st.table.stopping ≡ true → PathsDiffer (jobs_told st.table run.made.desk)

after_drains : (base : BaseParts) (st : State) (given : PairAnswers) (below : DrainRun) (left : Answers) (after run : EndRun) → Drains base 0 st.table given below → after_drain below.result.0 (with_table st below.result.1) left after
    → run ≡ prepend all (calls_on [] below.made.up below.made.desk) after → AfterDrain base st run
after_drains base st given below left after run drains goes whole =
    let u : DeskTable = below.result.1 in
    let end = drain_ended below.result.0 (with_table st u) left after goes in
    let same : run.result ≡ after.result = ap (λ (r : EndRun). r.result) whole in
    let desk : run.made.desk ≡ below.made.desk = ap (λ (r : EndRun). r.made.desk) whole ∙ ap (λ (es : List Asked). below.made.desk ++ es) end.desk ∙ append-nil below.made.desk in
    let up : run.made.up ≡ below.made.up = ap (λ (r : EndRun). r.made.up) whole ∙ ap (λ (es : List Happened). below.made.up ++ es) end.up ∙ append-nil below.made.up in
    let out : run.made.out ≡ after.made.out = ap (λ (r : EndRun). r.made.out) whole in
    let last : LastLine stops.End (λ fault. HasStopped fault below.made.desk) u st.faulty after.result.status after.made.out =
    last_caused stops.End (λ fault. below.result.0 ≡ gave_up fault) (λ fault. HasStopped fault below.made.desk) u st.faulty after.result.status after.made.out (λ fault is. drain_stopped base 0 st.table given below fault drains is) end.last in
    record {
      finished = record {
        final = u;
        table = drain_table base 0 st.table given below drains ∙ ap (table_through st.table) (sym desk);
        result = same ∙ end.result ∙ ap (λ (e : Ending). ending e.status (with_table st u)) (sym same);
        last = subst (λ (es : List Asked). LastLine stops.End (λ fault. HasStopped fault es) u st.faulty run.result.status run.made.out) (sym desk)
            (subst (λ (e : Ending). LastLine stops.End (λ fault. HasStopped fault below.made.desk) u st.faulty e.status run.made.out) (sym same)
            (subst (LastLine stops.End (λ fault. HasStopped fault below.made.desk) u st.faulty after.result.status) (sym out) last));
        no_stores = subst NoStores (sym desk) (not_stores below.made.desk (drain_asks base 0 st.table given below drains));
        backed = subst (λ (es : List Asked). AsksBacked base [] st.table es run.made.up) (sym desk) (subst (AsksBacked base [] st.table below.made.desk) (sym up) (drain_backed base 0 st.table given below drains));
        sent = subst (λ (es : List Asked). OfJobs base (jobs_told st.table es) (connections_of run.made.up)) (sym desk)
            (subst (λ (l : List Happened). OfJobs base (jobs_told st.table below.made.desk) (connections_of l)) (sym up) (drain_connects base 0 st.table given below drains));
      };
      differ = λ sound stopping. subst (λ (es : List Asked). PathsDiffer (jobs_told st.table es)) (sym desk) (drain_once base 0 st.table given below sound stopping (omega arith) drains);
    }

drained : (base : BaseParts) (st : State) (answers : Answers) (run : EndRun) → and_then all (lift the_pair (Drains base 0 st.table)) (λ r. after_drain r.0 (with_table st r.1)) answers run → AfterDrain base st run
drained base st answers run does =
    let below = does.begins.below in
    let first : does.before.result ≡ below.result = ap (λ (r : Run Made Answers (Drained × DeskTable)). r.result) does.begins.is in
    after_drains base st (the_pair.look answers) below does.before.left does.after run does.begins.does
    (subst (λ (r : Drained × DeskTable). after_drain r.0 (with_table st r.1) does.before.left does.after) first does.goes_on)
    (does.whole ∙ ap (λ (r : Run Made Answers (Drained × DeskTable)). prepend all r.made does.after) does.begins.is)

-- the desk is told that the input ended, and what is behind that

abbrev AllAsked : Type 0
AllAsked = Run Made Answers (Answered × DeskTable)

record AskedIn (t : DeskTable) (a : Asking) (run : AllAsked) : Type 0 where
  met : Met
  result : run.result ≡ (answer_met t a met, table_met t a met)
  made : run.made ≡ calls_on [] [] (event a met ∷ [])

asked_in : (t : DeskTable) (a : Asking) (answers : Answers) (run : AllAsked) → lift the_desk (Asks t a) answers run → AskedIn t a run
asked_in t a answers run does =
    let one = asked_once t a answers.desk does.below does.does in
    let whole : run ≡ lifted_run the_desk answers (run_with (answer_met t a one.met, table_met t a one.met) (event a one.met ∷ []) one.more) = does.is ∙ ap (lifted_run the_desk answers) one.is in
    record { met = one.met; result = ap (λ (r : AllAsked). r.result) whole; made = ap (λ (r : AllAsked). r.made) whole }

-- a desk that doesn't answer that was stopped, unless there was no memory
stop_stopped : (t : DeskTable) (met : Met) (fault : DeskFault) → answer_met t stop_ask met ≡ a_fault fault → fault ≢ faults.Memory → HasStopped fault (event stop_ask met ∷ [])
stop_stopped t met fault is other = stopped_first fault (event stop_ask met) [] (by met.verdict refl is)
  where
    by : (v : Verdict) → met.verdict ≡ v → result_by v t 0 asks.Stop met.bytes ≡ a_fault fault → met.verdict ≡ Stopped fault
    by Went went so = let h : an_answer told_answers.Stopping ≡ a_fault fault = so in absurd (cc)
    by (Stopped one) went so = let h : a_fault one ≡ a_fault fault = so in let same : one ≡ fault = cc in went ∙ ap Stopped same
    by Starved went so = let h : a_fault faults.Memory ≡ a_fault fault = so in let same : fault ≡ faults.Memory = cc in absurd (other same)

-- what the desk was told before it stands in front
in_front : (base : BaseParts) (st : State) (met : Met) (after run : EndRun) → Finished stops.End HasStopped base (with_table st (table_met st.table stop_ask met)) after → run ≡ prepend all (calls_on [] [] (event stop_ask met ∷ [])) after
    → Finished stops.End HasStopped base st run
in_front base st met after run one whole = subst (Finished stops.End HasStopped base st) (sym whole) (record {
  final = one.final;
  table = one.table;
  result = one.result;
  last = last_caused stops.End (λ fault. HasStopped fault after.made.desk) (λ fault. HasStopped fault (e ∷ after.made.desk)) one.final st.faulty after.result.status after.made.out (λ fault has. stopped_later fault e after.made.desk has) one.last;
  no_stores = (λ h. h, one.no_stores);
  backed = shell_backed base [] (e ∷ []) after.made.desk st.table after.made.up (tt, tt) one.backed;
  sent = subst (λ (jobs : List Job). OfJobs base jobs (connections_of after.made.up)) (sym (shell_jobs (e ∷ []) after.made.desk st.table (tt, tt))) one.sent;
})
  where
    e : Asked
    e = event stop_ask met

record AfterStop (base : BaseParts) (st : State) (run : EndRun) : Type 0 where
  finished : Finished stops.End HasStopped base st run
  differ : IsResting st.table → PathsDiffer (jobs_told st.table run.made.desk)

after_stop : (base : BaseParts) (st : State) (met : Met) (answered : Answered) (left : Answers) (after run : EndRun) → answer_met st.table stop_ask met ≡ answered → stopping base answered (with_table st (table_met st.table stop_ask met)) left after
    → run ≡ prepend all (calls_on [] [] (event stop_ask met ∷ [])) after → AfterStop base st run
after_stop base st met (Err fault) left after run is goes whole =
    let u : DeskTable = table_met st.table stop_ask met in
    let e : Asked = event stop_ask met in
    let end = ended stops.End (λ other. HasStopped other (e ∷ [])) (SaysFault fault) (with_table st u) left after goes
    (λ given below so. last_fault stops.End (λ other. HasStopped other (e ∷ [])) u st.faulty fault given below (stop_stopped st.table met fault is) so) in
    record {
      finished = subst (Finished stops.End HasStopped base st) (sym whole) (record {
        final = u;
        table = ap (table_through u) (sym end.desk);
        result = end.result;
        last = subst (λ (es : List Asked). LastLine stops.End (λ other. HasStopped other (e ∷ es)) u st.faulty after.result.status after.made.out) (sym end.desk) end.last;
        no_stores = (λ h. h, subst NoStores (sym end.desk) tt);
        backed = shell_backed base [] (e ∷ []) after.made.desk st.table after.made.up (tt, tt) (subst (λ (es : List Asked). AsksBacked base [] u es after.made.up) (sym end.desk) tt);
        sent = subst (λ (jobs : List Job). OfJobs base jobs (connections_of after.made.up)) (sym (shell_jobs (e ∷ []) after.made.desk st.table (tt, tt)))
            (subst (λ (es : List Asked). OfJobs base (jobs_told u es) (connections_of after.made.up)) (sym end.desk) (subst (λ (l : List Happened). OfJobs base [] (connections_of l)) (sym end.up) no_jobs));
      });
      differ = λ rests. subst (λ (r : EndRun). PathsDiffer (jobs_told st.table r.made.desk)) (sym whole)
          (subst PathsDiffer (sym (shell_jobs (e ∷ []) after.made.desk st.table (tt, tt))) (subst (λ (es : List Asked). PathsDiffer (jobs_told u es)) (sym end.desk) tt));
    }
after_stop base st met (Ok answer) left after run is goes whole =
    let u : DeskTable = table_met st.table stop_ask met in
    let e : Asked = event stop_ask met in
    let one = drained base (with_table st u) left after goes in
    record {
      finished = in_front base st met after run one.finished whole;
      differ = λ rests.
          let rests_now : IsResting u = shell_rests st.table 0 asks.Stop met.verdict tt tt rests in
          subst (λ (r : EndRun). PathsDiffer (jobs_told st.table r.made.desk)) (sym whole)
          (subst PathsDiffer (sym (shell_jobs (e ∷ []) after.made.desk st.table (tt, tt)))
          (one.differ rests_now.sound (stop_stops st.table 0 asks.Stop met.verdict met.bytes answer (sym is) refl)));
    }

end_finished : (base : BaseParts) (st : State) (answers : Answers) (run : EndRun) → after_shell base st stops.End answers run → AfterStop base st run
end_finished base st answers run does =
    let one = asked_in st.table stop_ask answers does.before does.begins in
    after_stop base st one.met (answer_met st.table stop_ask one.met) does.before.left does.after run refl
    (subst (λ (r : Answered × DeskTable). stopping base r.0 (with_table st r.1) does.before.left does.after) one.result does.goes_on)
    (does.whole ∙ ap (λ (m : Made). prepend all m does.after) one.made)

-- at the end of the input the desk is asked
pub end_asks : (base : BaseParts) (st : State) (answers : Answers) (run : EndRun) → after_shell base st stops.End answers run → run.made.desk ≡ [] → ⊥
end_asks base st answers run does none =
    let one = asked_in st.table stop_ask answers does.before does.begins in
    let desk : run.made.desk ≡ event stop_ask one.met ∷ does.after.made.desk = ap (λ (r : EndRun). r.made.desk) does.whole ∙ ap (λ (m : Made). m.desk ++ does.after.made.desk) one.made in
    let no : event stop_ask one.met ∷ does.after.made.desk ≡ [] = sym desk ∙ none in cc

-- the shell stopped in the input, in the sink, in the desk, or at the end of the input

-- why a fault of the desk ended the run
abbrev pub IsCause : Stop → DeskFault → List Asked → Type 0
IsCause stop fault es = (stop ≡ stops.Desk fault) ⊎ HasStopped fault es

pub record Behind (base : BaseParts) (stop : Stop) (st : State) (run : EndRun) : Type 0 where
  pub finished : Finished stop (IsCause stop) base st run
  pub differ : IsResting st.table → PathsDiffer (jobs_told st.table run.made.desk)
  pub still : (stop ≡ stops.End → ⊥) → run.made.up ≡ []

alone_behind : (base : BaseParts) (stop : Stop) (st : State) (run : EndRun) → Ended stop (λ fault. IsCause stop fault []) st run → Behind base stop st run
alone_behind base stop st run one = record {
  finished = alone stop (IsCause stop) base st run one;
  differ = λ rests. subst (λ (es : List Asked). PathsDiffer (jobs_told st.table es)) (sym one.desk) tt;
  still = λ h. one.up;
}

pub behind : (base : BaseParts) (stop : Stop) (st : State) (answers : Answers) (run : EndRun) → (stop ≡ stops.Output → ⊥) → after_shell base st stop answers run → Behind base stop st run
behind base stops.Output st answers run other does = absurd (other refl)
behind base stops.Input st answers run other does =
    alone_behind base stops.Input st run
    (ended stops.Input (λ fault. IsCause stops.Input fault []) (Says input_end status.Input) st answers run does
    (λ given below so. last_input stops.Input (λ fault. IsCause stops.Input fault []) st.table st.faulty given below refl so))
behind base (stops.Desk fault) st answers run other does =
    alone_behind base (stops.Desk fault) st run
    (ended (stops.Desk fault) (λ one. IsCause (stops.Desk fault) one []) (SaysFault fault) st answers run does
    (λ given below so. last_fault (stops.Desk fault) (λ one. IsCause (stops.Desk fault) one []) st.table st.faulty fault given below (λ h. inl refl) so))
behind base stops.End st answers run other does =
    let one = end_finished base st answers run does in
    let f = one.finished in
    record {
      finished = record {
        final = f.final;
        table = f.table;
        result = f.result;
        last = last_caused stops.End (λ fault. HasStopped fault run.made.desk) (λ fault. IsCause stops.End fault run.made.desk) f.final st.faulty run.result.status run.made.out (λ fault has. inr has) f.last;
        no_stores = f.no_stores;
        backed = f.backed;
        sent = f.sent;
      };
      differ = one.differ;
      still = λ h. absurd (h refl);
    }

-- the words were refused
pub told_words : (st : State) (answers : Answers) (run : EndRun) → Ends (Says words_end status.Words) st answers run → (run.result ≡ ending status.Words st) × Wrote run.made.out words_end × (run.made.up ≡ []) × (run.made.desk ≡ [])
told_words st answers run does =
    let so = spoke (Says words_end status.Words) st answers run does in
    let line = says_line words_end status.Words so.answers so.below so.does in
    (so.result ∙ ap (λ (t : Status). ending t st) line.status_is, subst (λ (es : List Happened). Wrote es words_end) (sym so.out) line.wrote, so.up, so.desk)

pub told_memory : (st : State) (answers : Answers) (run : EndRun) → Ends SaysMemory st answers run → Ended (stops.Desk faults.Memory) (λ fault. ⊥) st run
told_memory st answers run does =
    ended (stops.Desk faults.Memory) (λ fault. ⊥) SaysMemory st answers run does (last_memory (stops.Desk faults.Memory) (λ fault. ⊥) st.table st.faulty)

pub told_fault : (fault : DeskFault) (st : State) (answers : Answers) (run : EndRun) → Ends (SaysFault fault) st answers run → Ended (stops.Desk fault) (λ other. other ≡ fault) st run
told_fault fault st answers run does =
    ended (stops.Desk fault) (λ other. other ≡ fault) (SaysFault fault) st answers run does
    (λ given below so. last_fault (stops.Desk fault) (λ other. other ≡ fault) st.table st.faulty fault given below (λ h. refl) so)
