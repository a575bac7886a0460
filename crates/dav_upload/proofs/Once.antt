-- A drain takes a job of each path once at most.
use Rattle.std.proofs.Common.{◌≡◌, ℕ, ◌<◌, true, false, List, [], ◌∷◌, ◌++◌, Option, Some, None, Ok, Err, refl, sym, ◌∙◌, ap, subst}
use Rattle.std.proofs.lemmas.Bool.{false≢true}
use Rattle.dav_machine.specs.Log.{event}
use Rattle.dav_uri.specs.Target.{BaseParts}
use Rattle.dav_text.specs.Path.{PathParts}
use Rattle.dav_index.specs.Items.{Every, same_path, same_segments}
use Rattle.dav_deeds.specs.DeskTable.{DeskTable}
use Rattle.dav_deeds.specs.Effects.{take_effect, changed, settle_effect}
use Rattle.dav_deeds.specs.Sound.{IsSound}
use Rattle.dav_deeds.specs.declared.answer.Answer.TheVariants as answers
use Rattle.dav_deeds.specs.declared.answer.Flight.{Flight}
use Rattle.dav_deeds.specs.declared.answer.Job.{Job}
use Rattle.dav_deeds.specs.declared.ask.Ask.TheVariants.{Take, Settle}
use Rattle.dav_deeds.specs.declared.ask.Done.{Done}
use Rattle.dav_deeds.proofs.Paths.{segments_self}
use Rattle.dav_desk.specs.Verdict.{Verdict, Went, Stopped, Starved, result_by, table_by}
use Rattle.dav_upload.specs.declared.did.UploadFault.TheVariants as faults
use Rattle.dav_upload.specs.Ending.{done_of, flight_in}
use Rattle.dav_upload.specs.Asking.{Met, Asked, Answered, table_met, answer_met}
use Rattle.dav_upload.specs.Pair.{Made, Answers, calls_on}
use Rattle.dav_upload.specs.Drain.{take_ask, settle_ask, Turned, fault_of, did_of, Drained, drained_by, Drains, last, turn}
use Rattle.dav_upload.specs.Sent.{job_told, jobs_told, IsOther, PathsDiffer}
use Rattle.dav_upload.proofs.Asks.{took_facts, take_flies, settle_effect_is}
use Rattle.dav_upload.proofs.DrainLaws.{DrainRun, settle_told, taken_flies}
use Rattle.dav_upload.proofs.OneTurn.{TurnRun, AfterTake, none, unsent, sent, OneTurn, one_turn}
use Rattle.dav_upload.proofs.SentJobs.{upload_done}
use Rattle.dav_upload.proofs.TurnTables.{Settling, MayTake, taken_may, settling_once, settling_stops, met_sound}

-- each of the jobs is of a path that may be taken, and no two are of one path
record IsOnce (now : ℕ) (t : DeskTable) (jobs : List Job) : Type 0 where
  differ : PathsDiffer jobs
  may : Every (λ (job : Job). MayTake now t job.path) jobs

no_jobs : (now : ℕ) (t : DeskTable) → IsOnce now t []
no_jobs now t = record { differ = tt; may = tt }

one_job : (now : ℕ) (t : DeskTable) (job : Job) → MayTake now t job.path → IsOnce now t (job ∷ [])
one_job now t job may = record { differ = (tt, tt); may = (may, tt) }

segments_differ : (p q : PathParts) → same_path q p ≡ false → p.segments ≡ q.segments → ⊥
segments_differ p q off same =
    false≢true (sym off ∙ ap (λ (s : List (List ℕ)). same_segments q.segments s) same ∙ segments_self q.segments)

others : (t u : DeskTable) (now : ℕ) (one : Settling t u now) (job : Job) → one.flight ≡ flight_in job → IsSound t → t.stopping ≡ true → now < 18446744073709551615 → (jobs : List Job) → Every (λ (later : Job). MayTake now u later.path) jobs
    → IsOther job.path jobs × Every (λ (later : Job). MayTake now t later.path) jobs
others t u now one job is sound stopping early [] may = (tt, tt)
others t u now one job is sound stopping early (x ∷ xs) may =
    let before = settling_once t u now one sound stopping early x.path may.0 in
    let rest = others t u now one job is sound stopping early xs may.1 in
    let off : same_path x.path job.path ≡ false = subst (λ (f : Flight). same_path x.path f.path ≡ false) is before.1 in
    ((segments_differ job.path x.path off, rest.0), (before.0, rest.1))

-- the job of a turn, and those behind it
more_jobs : (t u : DeskTable) (now : ℕ) (one : Settling t u now) (job : Job) (jobs : List Job) → one.flight ≡ flight_in job → IsSound t → t.stopping ≡ true → now < 18446744073709551615 → IsOnce now u jobs → IsOnce now t (job ∷ jobs)
more_jobs t u now one job jobs is sound stopping early rest =
    let behind = others t u now one job is sound stopping early jobs rest.may in
    record {
      differ = (behind.0, rest.differ);
      may = (subst (λ (f : Flight). MayTake now t f.path) is (taken_may t now one.flight sound stopping one.taken_is), behind.1);
    }

abbrev some_end : Drained → Option Drained
some_end drained = Some drained

goes_verdict : (u : DeskTable) (now : ℕ) (job : Job) (done : Done) (bytes : List ℕ) (v : Verdict) → drained_by (did_of (result_by v u now (Settle job.number done) bytes)) ≡ None → v ≡ Went
goes_verdict u now job done bytes Went goes = refl
goes_verdict u now job done bytes (Stopped fault) goes = let h : some_end (Err (fault_of fault)) ≡ None = goes in cc
goes_verdict u now job done bytes Starved goes = let h : some_end (Err faults.Memory) ≡ None = goes in cc

job_may : (t : DeskTable) (now : ℕ) (met : Met) (job : Job) → IsSound t → t.stopping ≡ true → answer_met t (take_ask now) met ≡ Ok (answers.Took job) → MayTake now t job.path
job_may t now met job sound stopping told = taken_may t now (flight_in job) sound stopping (took_facts t now met (answers.Took job) job (sym told) refl).taken_is

-- the jobs of the last turn
last_jobs : (base : BaseParts) (now : ℕ) (t : DeskTable) (one : TurnRun) (turned : OneTurn base now t one) → IsSound t → t.stopping ≡ true → IsOnce now t (jobs_told t one.made.desk)
last_jobs base now t one turned sound stopping = subst (λ (made : Made). IsOnce now t (jobs_told t made.desk)) (sym turned.made) (by turned.does)
  where
    jobs_by : (job : Job) (desk : List Asked) → answer_met t (take_ask now) turned.met ≡ Ok (answers.Took job) → jobs_told (table_met t (take_ask now) turned.met) desk ≡ [] → IsOnce now t (jobs_told t (event (take_ask now) turned.met ∷ desk))
    jobs_by job desk told no_more =
        subst (λ (answered : Answered). IsOnce now t (job_told answered ++ jobs_told (table_met t (take_ask now) turned.met) desk)) (sym told)
        (subst (λ (jobs : List Job). IsOnce now t (job ∷ jobs)) (sym no_more) (one_job now t job (job_may t now turned.met job sound stopping told)))

    by : AfterTake base now (answer_met t (take_ask now) turned.met) (table_met t (take_ask now) turned.met) turned.after → IsOnce now t (jobs_told t (event (take_ask now) turned.met ∷ turned.after.made.desk))
    by (none drained told made table end) =
        subst (λ (m : Made). IsOnce now t (jobs_told t (event (take_ask now) turned.met ∷ m.desk))) (sym made)
        (subst (λ (jobs : List Job). IsOnce now t (jobs ++ [])) (sym told) (no_jobs now t))
    by (unsent job given uploaded told uploads made result) =
        subst (λ (m : Made). IsOnce now t (jobs_told t (event (take_ask now) turned.met ∷ m.desk))) (sym made) (jobs_by job [] told refl)
    by (sent job met came given uploaded told uploads heard made result) =
        subst (λ (m : Made). IsOnce now t (jobs_told t (event (take_ask now) turned.met ∷ m.desk))) (sym made)
        (jobs_by job (event (settle_ask now job.number (done_of came)) met ∷ []) told
        (ap (λ (jobs : List Job). jobs ++ []) (settle_told (table_met t (take_ask now) turned.met) now job (done_of came) met (taken_flies t now turned.met job told))))

-- a turn behind which the drain goes on
record GoesOn (base : BaseParts) (now : ℕ) (t : DeskTable) (one : TurnRun) : Type 0 where
  job : Job
  settling : Settling t one.result.1 now
  same : settling.flight ≡ flight_in job
  sound : IsSound one.result.1
  jobs : (desk : List Asked) → jobs_told t (one.made.desk ++ desk) ≡ job ∷ jobs_told one.result.1 desk

goes_turn : (base : BaseParts) (now : ℕ) (t : DeskTable) (one : TurnRun) (turned : OneTurn base now t one) → IsSound t → drained_by one.result.0 ≡ None → GoesOn base now t one
goes_turn base now t one turned sound goes = by turned.does
  where
    by : AfterTake base now (answer_met t (take_ask now) turned.met) (table_met t (take_ask now) turned.met) turned.after → GoesOn base now t one
    by (none drained told made table end) =
        let h : some_end drained ≡ None = sym end ∙ ap (λ (r : Turned × DeskTable). drained_by r.0) (sym turned.result) ∙ goes in cc
    by (unsent job given uploaded told uploads made result) =
        let h : some_end (Err faults.Memory) ≡ None = ap (λ (r : Turned × DeskTable). drained_by r.0) (sym result) ∙ ap (λ (r : Turned × DeskTable). drained_by r.0) (sym turned.result) ∙ goes in cc
    by (sent job met came given uploaded told uploads heard made result) =
        let mid : DeskTable = table_met t (take_ask now) turned.met in
        let settling = settle_ask now job.number (done_of came) in
        let facts = took_facts t now turned.met (answers.Took job) job (sym told) refl in
        let mid_is : mid ≡ changed t (take_effect t (Some (flight_in job))) = ap (λ (v : Verdict). table_by v t now Take) facts.went ∙ take_flies t now (flight_in job) facts.taken_is in
        let flies : mid.job ≡ Some (flight_in job) = ap (λ (u : DeskTable). u.job) mid_is in
        let results : one.result ≡ (did_of (answer_met mid settling met), table_met mid settling met) = turned.result ∙ result in
        let went = goes_verdict mid now job (done_of came) met.bytes met.verdict (ap (λ (r : Turned × DeskTable). drained_by r.0) (sym results) ∙ goes) in
        let table : one.result.1 ≡ table_met mid settling met = ap (λ (r : Turned × DeskTable). r.1) results in
        let after : one.result.1 ≡ changed mid (settle_effect mid (Some (flight_in job)) now (done_of came)) =
        table ∙ ap (λ (v : Verdict). table_by v mid now (Settle job.number (done_of came))) went ∙ ap (changed mid) (settle_effect_is mid now (flight_in job) (done_of came) flies) in
        record {
          job = job;
          settling = record {
            flight = flight_in job;
            done = done_of came;
            taken_is = facts.taken_is;
            after_is = after ∙ ap (λ (u : DeskTable). changed u (settle_effect u (Some (flight_in job)) now (done_of came))) mid_is;
          };
          same = refl;
          sound = subst IsSound (sym table)
              (met_sound mid now (Settle job.number (done_of came)) met.verdict (upload_done base job given uploaded came uploads heard) (met_sound t now Take turned.met.verdict tt sound));
          jobs = λ desk.
              ap (λ (m : Made). jobs_told t (m.desk ++ desk)) (turned.made ∙ ap (λ (m : Made). calls_on m.up (event (take_ask now) turned.met ∷ m.desk)) made)
              ∙ ap (λ (answered : Answered). job_told answered ++ jobs_told mid (event settling met ∷ desk)) told
              ∙ ap (λ (jobs : List Job). job ∷ (jobs ++ jobs_told (table_met mid settling met) desk)) (settle_told mid now job (done_of came) met flies)
              ∙ ap (λ (u : DeskTable). job ∷ jobs_told u desk) (sym table);
        }

once : (base : BaseParts) (now : ℕ) (t : DeskTable) (given : Answers) (run : DrainRun) → IsSound t → t.stopping ≡ true → now < 18446744073709551615 → Drains base now t given run → IsOnce now t (jobs_told t run.made.desk)
once base now before answers whole sound stopping early (last t given run one drained does end is) =
    subst (λ (r : DrainRun). IsOnce now t (jobs_told t r.made.desk)) (sym is) (last_jobs base now t one (one_turn base now t given one does) sound stopping)
once base now before answers whole sound stopping early (turn t given run one rest does goes later is) =
    let first = goes_turn base now t one (one_turn base now t given one does) sound goes in
    let behind = once base now one.result.1 one.left rest first.sound (settling_stops t one.result.1 now first.settling ∙ stopping) early later in
    subst (λ (r : DrainRun). IsOnce now t (jobs_told t r.made.desk)) (sym is)
    (subst (IsOnce now t) (sym (first.jobs rest.made.desk))
    (more_jobs t one.result.1 now first.settling first.job (jobs_told one.result.1 rest.made.desk) first.same sound stopping early behind))

pub drain_once : (base : BaseParts) (now : ℕ) (t : DeskTable) (given : Answers) (run : DrainRun) → IsSound t → t.stopping ≡ true → now < 18446744073709551615 → Drains base now t given run → PathsDiffer (jobs_told t run.made.desk)
drain_once base now t given run sound stopping early does = (once base now t given run sound stopping early does).differ
