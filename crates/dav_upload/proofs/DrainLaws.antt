-- What a run of the drain tells: the table after its asks, the requests behind them, and one connection at most for each job.
use Rattle.std.proofs.Common.{◌≡◌, ℕ, List, [], ◌∷◌, ◌++◌, Option, Some, None, Ok, refl, sym, ◌∙◌, ap, subst, append_assoc, append-nil}
use Rattle.dav_machine.specs.Log.{event}
use Rattle.dav_machine.specs.Machine.{Run}
use Rattle.dav_edge.specs.Connections.{Connection, Connections, with_standing, all_of, after_calls, connections_of}
use Rattle.dav_edge.specs.Device.{Happened, Answer as WireAnswer}
use Rattle.dav_edge.proofs.Connecting.{after_calls-append}
use Rattle.dav_uri.specs.Target.{BaseParts}
use Rattle.dav_text.specs.declared.tag.Seen.{Seen}
use Rattle.dav_deeds.specs.DeskTable.{DeskTable}
use Rattle.dav_deeds.specs.declared.answer.Answer.TheVariants as answers
use Rattle.dav_deeds.specs.declared.answer.Flight.{Flight}
use Rattle.dav_deeds.specs.declared.answer.Job.{Job}
use Rattle.dav_deeds.specs.declared.ask.Ask.TheVariants.{Settle}
use Rattle.dav_deeds.specs.declared.ask.Done.{Done}
use Rattle.dav_deeds.specs.declared.ask.Done.TheVariants as ends
use Rattle.dav_desk.specs.Verdict.{Verdict, Went, Stopped, Starved, result_by}
use Rattle.dav_upload.specs.declared.came.Came.{Came}
use Rattle.dav_upload.specs.Backs.{HasPut, HasPutOf, job_sent}
use Rattle.dav_upload.specs.Exchange.{Uploads, put_text}
use Rattle.dav_upload.specs.Ending.{done_of, flight_in}
use Rattle.dav_upload.specs.Asking.{Met, Asked, Answered, table_met, answer_met, table_through}
use Rattle.dav_upload.specs.Pair.{Made, Answers}
use Rattle.dav_upload.specs.Drain.{take_ask, settle_ask, Turned, Drained, Drains, last, turn}
use Rattle.dav_upload.specs.Sent.{bytes_told, step_asked, AsksBacked, job_told, jobs_told, IsBegun, OfJobs, none, unconnected, connected}
use Rattle.dav_upload.proofs.Adding.{as_list, OnSome, Adds, upload_adds}
use Rattle.dav_upload.proofs.Asks.{took_facts, take_flies, settle_answers}
use Rattle.dav_upload.proofs.OneTurn.{UploadedRun, TurnRun, AfterTake, none as none_done, unsent, sent, OneTurn, one_turn}
use Rattle.dav_upload.proofs.Backing.{put_of_behind}
use Rattle.dav_upload.proofs.SentJobs.{upload_puts}
use Rattle.dav_upload.proofs.Turning.{settling_sends}

abbrev pub DrainRun : Type 0
DrainRun = Run Made Answers (Drained × DeskTable)

abbrev Result2 : Type 0
Result2 = Turned × DeskTable

-- calls in front are those of no ask
backed_behind : (base : BaseParts) (bytes : List ℕ) (t : DeskTable) (desk : List Asked) (front up : List Happened) → AsksBacked base bytes t desk up → AsksBacked base bytes t desk (front ++ up)
backed_behind base bytes t [] front up backed = tt
backed_behind base bytes t (e ∷ es) front up backed = (
  front ++ backed.0,
  backed.1,
  ap (λ (l : List Happened). front ++ l) backed.2 ∙ sym (append_assoc front backed.0 backed.1),
  put_of_behind base (λ file. bytes) (job_sent t.job (step_asked t e).deed (step_asked t e).mark) front backed.0 backed.3,
  backed.4,
)

-- a settling of the job in flight tells no job
pub settle_told : (u : DeskTable) (now : ℕ) (job : Job) (done : Done) (met : Met) → u.job ≡ Some (flight_in job) → job_told (answer_met u (settle_ask now job.number done) met) ≡ []
settle_told u now job done met flies = by met.verdict
  where
    by : (v : Verdict) → job_told (result_by v u now (Settle job.number done) met.bytes) ≡ []
    by Went = ap job_told (settle_answers u now (flight_in job) done met.bytes flies)
    by (Stopped fault) = refl
    by Starved = refl

-- the job that was taken is in flight
pub taken_flies : (t : DeskTable) (now : ℕ) (met : Met) (job : Job) → answer_met t (take_ask now) met ≡ Ok (answers.Took job) → (table_met t (take_ask now) met).job ≡ Some (flight_in job)
taken_flies t now met job told =
    let facts = took_facts t now met (answers.Took job) job (sym told) refl in
    ap (λ (v : Verdict). (table_met t (take_ask now) (record { verdict = v; bytes = met.bytes })).job) facts.went
    ∙ ap (λ (u : DeskTable). u.job) (take_flies t now (flight_in job) facts.taken_is)

-- What a turn tells, whatever it came to: the asks that it made lead to its table, each job that it told has one connection at most, and what is settled as sent has
-- its request. The same of asks and calls behind them.
record Tells (base : BaseParts) (t u : DeskTable) (desk : List Asked) (up : List Happened) : Type 0 where
  table : u ≡ table_through t desk
  connections : List Connection
  of_jobs : OfJobs base (jobs_told t desk) connections
  adds : (ended : List Connection) → after_calls (with_standing ended None) up ≡ with_standing (ended ++ connections) None
  backed : (bytes : List ℕ) → AsksBacked base bytes t desk up

tells_nothing : (base : BaseParts) (t : DeskTable) → Tells base t t [] []
tells_nothing base t = record {
  table = refl;
  connections = [];
  of_jobs = none;
  adds = λ ended. ap (λ (l : List Connection). with_standing l None) (sym (append-nil ended));
  backed = λ bytes. tt;
}

-- a take that told no job, and the rest
tells_idle : (base : BaseParts) (t u : DeskTable) (now : ℕ) (met : Met) (desk : List Asked) (up : List Happened) → job_told (answer_met t (take_ask now) met) ≡ [] → Tells base (table_met t (take_ask now) met) u desk up
    → Tells base t u (event (take_ask now) met ∷ desk) up
tells_idle base t u now met desk up told rest = record {
  table = rest.table;
  connections = rest.connections;
  of_jobs = subst (λ (jobs : List Job). OfJobs base (jobs ++ jobs_told (table_met t (take_ask now) met) desk) rest.connections) (sym told) rest.of_jobs;
  adds = rest.adds;
  backed = λ bytes. ([], up, refl, tt, rest.backed (bytes_told bytes (answer_met t (take_ask now) met)));
}

jobs_add : (base : BaseParts) (job : Job) (jobs : List Job) (new : Option Connection) (connections : List Connection) → OnSome new (IsBegun base (put_text base job.path job.seen job.bytes)) → OfJobs base jobs connections → OfJobs base (job ∷ jobs) (as_list new ++ connections)
jobs_add base job jobs None connections begun rest = unconnected job jobs connections rest
jobs_add base job jobs (Some c) connections begun rest = connected job jobs c connections begun rest

-- a take that told a job, the calls by which its file was sent, and the rest
tells_job : (base : BaseParts) (t u : DeskTable) (now : ℕ) (met : Met) (job : Job) (desk : List Asked) (es up : List Happened) → answer_met t (take_ask now) met ≡ Ok (answers.Took job) → Adds base (put_text base job.path job.seen job.bytes) es
    → u ≡ table_through (table_met t (take_ask now) met) desk → (connections : List Connection) → OfJobs base (jobs_told (table_met t (take_ask now) met) desk) connections
    → ((ended : List Connection) → after_calls (with_standing ended None) up ≡ with_standing (ended ++ connections) None) → AsksBacked base job.bytes (table_met t (take_ask now) met) desk (es ++ up)
    → Tells base t u (event (take_ask now) met ∷ desk) (es ++ up)
tells_job base t u now met job desk es up told added table connections jobs adds backed = record {
  table = table;
  connections = as_list added.new ++ connections;
  of_jobs = subst (λ (answered : Answered). OfJobs base (job_told answered ++ jobs_told (table_met t (take_ask now) met) desk) (as_list added.new ++ connections)) (sym told)
      (jobs_add base job (jobs_told (table_met t (take_ask now) met) desk) added.new connections added.begun jobs);
  adds = λ ended.
      after_calls-append (with_standing ended None) es up
      ∙ ap (λ (cs : Connections). after_calls cs up) (added.adds ended)
      ∙ adds (ended ++ as_list added.new)
      ∙ ap (λ (l : List Connection). with_standing l None) (append_assoc ended (as_list added.new) connections);
  backed = λ bytes. ([], es ++ up, refl, tt, subst (λ (answered : Answered). AsksBacked base (bytes_told bytes answered) (table_met t (take_ask now) met) desk (es ++ up)) (sym told) backed);
}

done_sent : (base : BaseParts) (job : Job) (given : List WireAnswer) (uploaded : UploadedRun) (came : Option Came) (seen : Seen) → Uploads base job.path job.seen job.bytes given uploaded → uploaded.result ≡ Ok came → done_of came ≡ ends.Sent seen
    → HasPut base (λ file. job.bytes) (flight_in job) uploaded.made
done_sent base job given uploaded came seen uploads heard is = upload_puts base (λ file. job.bytes) job given uploaded came seen uploads heard is refl

-- a turn that sent its job and settled it, and the rest
tells_sent : (base : BaseParts) (t u : DeskTable) (now : ℕ) (met ended : Met) (job : Job) (came : Option Came) (given : List WireAnswer) (uploaded : UploadedRun) (desk : List Asked) (up : List Happened)
    → answer_met t (take_ask now) met ≡ Ok (answers.Took job) → Uploads base job.path job.seen job.bytes given uploaded → uploaded.result ≡ Ok came
    → Tells base (table_met (table_met t (take_ask now) met) (settle_ask now job.number (done_of came)) ended) u desk up
    → Tells base t u (event (take_ask now) met ∷ event (settle_ask now job.number (done_of came)) ended ∷ desk) (uploaded.made ++ up)
tells_sent base t u now met ended job came given uploaded desk up told uploads heard rest =
    let mid : DeskTable = table_met t (take_ask now) met in
    let settling = settle_ask now job.number (done_of came) in
    let flies : mid.job ≡ Some (flight_in job) = taken_flies t now met job told in
    let none_told : job_told (answer_met mid settling ended) ≡ [] = settle_told mid now job (done_of came) ended flies in
    tells_job base t u now met job (event settling ended ∷ desk) uploaded.made up told (upload_adds base job.path job.seen job.bytes given uploaded uploads) rest.table rest.connections
    (subst (λ (jobs : List Job). OfJobs base (jobs ++ jobs_told (table_met mid settling ended) desk) rest.connections) (sym none_told) rest.of_jobs)
    rest.adds (
      uploaded.made,
      up,
      refl,
      subst (λ (o : Option Flight). HasPutOf base (λ file. job.bytes) (job_sent o (step_asked mid (event settling ended)).deed (step_asked mid (event settling ended)).mark) uploaded.made) (sym flies)
          (settling_sends base (λ file. job.bytes) (flight_in job) job.number (done_of came) (step_asked mid (event settling ended)).mark uploaded.made
          (λ seen is. done_sent base job given uploaded came seen uploads heard is)),
      rest.backed (bytes_told job.bytes (answer_met mid settling ended)),
    )

-- a turn, and what is told behind it
tells_turn : (base : BaseParts) (now : ℕ) (t u : DeskTable) (one : TurnRun) (turned : OneTurn base now t one) (desk : List Asked) (up : List Happened) → Tells base one.result.1 u desk up → Tells base t u (one.made.desk ++ desk) (one.made.up ++ up)
tells_turn base now t u one turned desk up rest =
    subst (λ (made : Made). Tells base t u (made.desk ++ desk) (made.up ++ up)) (sym turned.made)
    (by turned.does (subst (λ (r : Result2). Tells base r.1 u desk up) turned.result rest))
  where
    by : AfterTake base now (answer_met t (take_ask now) turned.met) (table_met t (take_ask now) turned.met) turned.after → Tells base turned.after.result.1 u desk up
        → Tells base t u (event (take_ask now) turned.met ∷ (turned.after.made.desk ++ desk)) (turned.after.made.up ++ up)
    by (none_done drained told made table ends) more =
        subst (λ (m : Made). Tells base t u (event (take_ask now) turned.met ∷ (m.desk ++ desk)) (m.up ++ up)) (sym made)
        (tells_idle base t u now turned.met desk up told (subst (λ (v : DeskTable). Tells base v u desk up) table more))
    by (unsent job given uploaded told uploads made result) more =
        subst (λ (m : Made). Tells base t u (event (take_ask now) turned.met ∷ (m.desk ++ desk)) (m.up ++ up)) (sym made)
        (let behind = subst (λ (r : Result2). Tells base r.1 u desk up) result more in
        tells_job base t u now turned.met job desk uploaded.made up told (upload_adds base job.path job.seen job.bytes given uploaded uploads) behind.table behind.connections behind.of_jobs behind.adds
        (backed_behind base job.bytes (table_met t (take_ask now) turned.met) desk uploaded.made up (behind.backed job.bytes)))
    by (sent job met came given uploaded told uploads heard made result) more =
        subst (λ (m : Made). Tells base t u (event (take_ask now) turned.met ∷ (m.desk ++ desk)) (m.up ++ up)) (sym made)
        (tells_sent base t u now turned.met met job came given uploaded desk up told uploads heard (subst (λ (r : Result2). Tells base r.1 u desk up) result more))

tells_drain : (base : BaseParts) (now : ℕ) (t : DeskTable) (given : Answers) (run : DrainRun) → Drains base now t given run → Tells base t run.result.1 run.made.desk run.made.up
tells_drain base now before answers whole (last t given run one drained does ends is) =
    let told = tells_turn base now t one.result.1 one (one_turn base now t given one does) [] [] (tells_nothing base one.result.1) in
    subst (λ (r : DrainRun). Tells base t r.result.1 r.made.desk r.made.up) (sym is)
    (subst (λ (es : List Happened). Tells base t one.result.1 one.made.desk es) (append-nil one.made.up)
    (subst (λ (ds : List Asked). Tells base t one.result.1 ds (one.made.up ++ [])) (append-nil one.made.desk) told))
tells_drain base now before answers whole (turn t given run one rest does goes later is) =
    subst (λ (r : DrainRun). Tells base t r.result.1 r.made.desk r.made.up) (sym is)
    (tells_turn base now t rest.result.1 one (one_turn base now t given one does) rest.made.desk rest.made.up (tells_drain base now one.result.1 one.left rest later))

pub drain_table : (base : BaseParts) (now : ℕ) (t : DeskTable) (given : Answers) (run : DrainRun) → Drains base now t given run → run.result.1 ≡ table_through t run.made.desk
drain_table base now t given run does = (tells_drain base now t given run does).table

pub drain_backed : (base : BaseParts) (now : ℕ) (t : DeskTable) (given : Answers) (run : DrainRun) → Drains base now t given run → AsksBacked base [] t run.made.desk run.made.up
drain_backed base now t given run does = (tells_drain base now t given run does).backed []

pub drain_connects : (base : BaseParts) (now : ℕ) (t : DeskTable) (given : Answers) (run : DrainRun) → Drains base now t given run → OfJobs base (jobs_told t run.made.desk) (connections_of run.made.up)
drain_connects base now t given run does =
    let all = tells_drain base now t given run does in
    subst (OfJobs base (jobs_told t run.made.desk)) (sym (ap all_of (all.adds []))) all.of_jobs
