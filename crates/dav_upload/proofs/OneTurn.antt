-- What a run of one turn is made of.
use Rattle.std.proofs.Common.{◌≡◌, ℕ, List, [], ◌∷◌, ◌++◌, Option, Some, None, Ok, Err, sym, refl, ◌∙◌, ap, subst, append-nil}
use Rattle.dav_machine.specs.Log.{event}
use Rattle.dav_machine.specs.Devices.{one_device}
use Rattle.dav_machine.specs.Machine.{Run, run_with, prepend, give}
use Rattle.dav_machine.specs.Part.{lift, lifted_run}
use Rattle.dav_edge.specs.Device.{Happened, Answer as WireAnswer}
use Rattle.dav_uri.specs.Target.{BaseParts}
use Rattle.std.specs.Option.{option_to_list}
use Rattle.dav_deeds.specs.Answers.{job_in}
use Rattle.dav_deeds.specs.DeskTable.{DeskTable}
use Rattle.dav_deeds.specs.declared.answer.Answer.{Answer}
use Rattle.dav_deeds.proofs.Rows.{answer_given}
use Rattle.dav_deeds.specs.declared.answer.Answer.TheVariants as answers
use Rattle.dav_deeds.specs.declared.answer.Job.{Job}
use Rattle.dav_upload.specs.declared.came.Came.{Came}
use Rattle.dav_upload.specs.declared.did.Did.TheVariants as did
use Rattle.dav_upload.specs.declared.did.UploadFault.{UploadFault}
use Rattle.dav_upload.specs.declared.did.UploadFault.TheVariants as faults
use Rattle.dav_upload.specs.Exchange.{Uploaded, Uploads}
use Rattle.dav_upload.specs.Ending.{Ending, ending_of, done_of}
use Rattle.dav_upload.specs.Asking.{Asking, Met, Asked, Answered, table_met, answer_met, Asks}
use Rattle.dav_upload.specs.Pair.{Made, Answers, calls_on, answers_of, pair, the_wire, the_desk}
use Rattle.dav_upload.specs.Drain.{take_ask, settle_ask, Turned, fault_of, did_of, JobSends, Settles, Finishes, goes_on, TurnsOf, Drained, drained_by}
use Rattle.dav_upload.specs.Sent.{job_told}

abbrev pub UploadedRun : Type 0
UploadedRun = Run (List Happened) (List WireAnswer) Uploaded

abbrev pub TurnRun : Type 0
TurnRun = Run Made Answers (Turned × DeskTable)

abbrev AskedRun : Type 0
AskedRun = Run (List Asked) (List Met) (Answered × DeskTable)

abbrev PairAsked : Type 0
PairAsked = Run Made Answers (Answered × DeskTable)

abbrev EndingRun : Type 0
EndingRun = Run (List Happened) (List WireAnswer) Ending

abbrev PairEnding : Type 0
PairEnding = Run Made Answers Ending

-- a run of one ask
record AskRun (t : DeskTable) (a : Asking) (run : AskedRun) : Type 0 where
  met : Met
  more : List Met
  is : run ≡ run_with (answer_met t a met, table_met t a met) (event a met ∷ []) more

ask_run : (t : DeskTable) (a : Asking) (left : List Met) (run : AskedRun) → Asks t a left run → AskRun t a run
ask_run t a [] run does = absurd does
ask_run t a (met ∷ more) run does = record { met = met; more = more; is = does.is ∙ ap (prepend one_device (event a met ∷ [])) does.does }

-- the same beside a wire
record PairAsk (t : DeskTable) (a : Asking) (run : PairAsked) : Type 0 where
  met : Met
  left : Answers
  is : run ≡ run_with (answer_met t a met, table_met t a met) (calls_on [] (event a met ∷ [])) left

pair_ask : (t : DeskTable) (a : Asking) (given : Answers) (run : PairAsked) → lift the_desk (Asks t a) given run → PairAsk t a run
pair_ask t a given run does =
    let one = ask_run t a given.desk does.below does.does in
    record { met = one.met; left = answers_of given.up one.more; is = does.is ∙ ap (lifted_run the_desk given) one.is }

-- a file was sent, and how its job ends
record PairSent (base : BaseParts) (job : Job) (run : PairEnding) : Type 0 where
  given : List WireAnswer
  uploaded : UploadedRun
  uploads : Uploads base job.path job.seen job.bytes given uploaded
  left : Answers
  is : run ≡ run_with (ending_of uploaded.result) (calls_on uploaded.made []) left

pair_sent : (base : BaseParts) (job : Job) (given : Answers) (run : PairEnding) → lift the_wire (JobSends base job) given run → PairSent base job run
pair_sent base job given run does =
    let sends = does.does in
    let uploaded = sends.before in
    let below : does.below ≡ run_with (ending_of uploaded.result) uploaded.made uploaded.left =
    sends.whole ∙ ap (prepend one_device uploaded.made) sends.goes_on ∙ ap (λ (made : List Happened). run_with (ending_of uploaded.result) made uploaded.left) (append-nil uploaded.made) in
    record {
      given = given.up;
      uploaded = uploaded;
      uploads = sends.begins;
      left = answers_of uploaded.left given.desk;
      is = does.is ∙ ap (lifted_run the_wire given) below;
    }

-- Behind a take with this answer, which leaves this table: nothing is done, or the job's file is sent, and what came of it is settled unless there was no memory.
pub data AfterTake (base : BaseParts) (now : ℕ) (answered : Answered) (u : DeskTable) (run : TurnRun) : Type 0 where
  none : (drained : Drained) → job_told answered ≡ [] → run.made ≡ calls_on [] [] → run.result.1 ≡ u → drained_by run.result.0 ≡ Some drained → AfterTake base now answered u run
  unsent : (job : Job) (given : List WireAnswer) (uploaded : UploadedRun) → answered ≡ Ok (answers.Took job) → Uploads base job.path job.seen job.bytes given uploaded
      → run.made ≡ calls_on uploaded.made [] → run.result ≡ (Err faults.Memory, u) → AfterTake base now answered u run
  sent : (job : Job) (met : Met) (came : Option Came) (given : List WireAnswer) (uploaded : UploadedRun) → answered ≡ Ok (answers.Took job) → Uploads base job.path job.seen job.bytes given uploaded → uploaded.result ≡ Ok came
      → run.made ≡ calls_on uploaded.made (event (settle_ask now job.number (done_of came)) met ∷ [])
      → run.result ≡ (did_of (answer_met u (settle_ask now job.number (done_of came)) met), table_met u (settle_ask now job.number (done_of came)) met) → AfterTake base now answered u run

abbrev turned_err : UploadFault → DeskTable → Turned × DeskTable
turned_err fault t = (Err fault, t)

nothing_done : (base : BaseParts) (now : ℕ) (answered : Answered) (u : DeskTable) (left : Answers) (run : TurnRun) → job_told answered ≡ [] → give pair (Ok did.Nothing, u) left run → AfterTake base now answered u run
nothing_done base now answered u left run told gives =
    none (Ok tt) told (ap (λ (r : TurnRun). r.made) gives) (ap (λ (r : TurnRun). r.result.1) gives) (ap (λ (r : TurnRun). drained_by r.result.0) gives)

settle_run : (base : BaseParts) (now : ℕ) (job : Job) (u : DeskTable) (came : Option Came) (given : List WireAnswer) (uploaded : UploadedRun) (left : Answers) (rest run : TurnRun)
    → Uploads base job.path job.seen job.bytes given uploaded → uploaded.result ≡ Ok came → run ≡ prepend pair (calls_on uploaded.made []) rest → Settles now job u (Ok (done_of came)) left rest → AfterTake base now (Ok (answers.Took job)) u run
settle_run base now job u came given uploaded left rest run uploads heard is does =
    let settling = settle_ask now job.number (done_of came) in
    let one = pair_ask u settling left does.before does.begins in
    let after : does.after ≡ run_with (did_of (answer_met u settling one.met), table_met u settling one.met) (calls_on [] []) one.left =
    subst (λ (r : PairAsked). does.after ≡ run_with (did_of r.result.0, r.result.1) (calls_on [] []) r.left) one.is does.goes_on in
    let whole : rest ≡ run_with (did_of (answer_met u settling one.met), table_met u settling one.met) (calls_on [] (event settling one.met ∷ [])) one.left =
    does.whole ∙ ap (λ (r : PairAsked). prepend pair r.made does.after) one.is ∙ ap (prepend pair (calls_on [] (event settling one.met ∷ []))) after in
    let all : run ≡ run_with (did_of (answer_met u settling one.met), table_met u settling one.met) (calls_on (uploaded.made ++ []) (event settling one.met ∷ [])) one.left = is ∙ ap (prepend pair (calls_on uploaded.made [])) whole in
    sent job one.met came given uploaded refl uploads heard
    (ap (λ (r : TurnRun). r.made) all ∙ ap (λ (es : List Happened). calls_on es (event settling one.met ∷ [])) (append-nil uploaded.made)) (ap (λ (r : TurnRun). r.result) all)

finish_by : (base : BaseParts) (now : ℕ) (job : Job) (u : DeskTable) (given : List WireAnswer) (uploaded : UploadedRun) (left : Answers) (rest run : TurnRun) (heard : Uploaded)
    → Uploads base job.path job.seen job.bytes given uploaded → uploaded.result ≡ heard → run ≡ prepend pair (calls_on uploaded.made []) rest → Settles now job u (ending_of heard) left rest → AfterTake base now (Ok (answers.Took job)) u run
finish_by base now job u given uploaded left rest run (Ok came) uploads is whole does = settle_run base now job u came given uploaded left rest run uploads is whole does
finish_by base now job u given uploaded left rest run (Err want) uploads is whole does =
    let all : run ≡ run_with (turned_err faults.Memory u) (calls_on (uploaded.made ++ []) []) left = whole ∙ ap (prepend pair (calls_on uploaded.made [])) does in
    unsent job given uploaded refl uploads (ap (λ (r : TurnRun). r.made) all ∙ ap (λ (es : List Happened). calls_on es []) (append-nil uploaded.made)) (ap (λ (r : TurnRun). r.result) all)

finish_run : (base : BaseParts) (now : ℕ) (job : Job) (u : DeskTable) (left : Answers) (run : TurnRun) → Finishes base now u (Some job) left run → AfterTake base now (Ok (answers.Took job)) u run
finish_run base now job u left run does =
    let one = pair_sent base job left does.before does.begins in
    let whole : run ≡ prepend pair (calls_on one.uploaded.made []) does.after = does.whole ∙ ap (λ (r : PairEnding). prepend pair r.made does.after) one.is in
    let settles : Settles now job u (ending_of one.uploaded.result) one.left does.after = subst (λ (r : PairEnding). Settles now job u r.result r.left does.after) one.is does.goes_on in
    finish_by base now job u one.given one.uploaded one.left does.after run one.uploaded.result one.uploads refl whole settles

after_take : (base : BaseParts) (now : ℕ) (answered : Answered) (u : DeskTable) (left : Answers) (run : TurnRun) → goes_on base now answered u left run → AfterTake base now answered u run
after_take base now (Err fault) u left run does =
    none (Err (fault_of fault)) refl (ap (λ (r : TurnRun). r.made) does) (ap (λ (r : TurnRun). r.result.1) does) (ap (λ (r : TurnRun). drained_by r.result.0) does)
after_take base now (Ok answer) u left run does = by (job_in answer) refl does
  where
    by : (found : Option Job) → job_in answer ≡ found → Finishes base now u found left run → AfterTake base now (Ok answer) u run
    by None is nothing = nothing_done base now (Ok answer) u left run (ap option_to_list is) nothing
    by (Some job) is some = subst (λ (a : Answer). AfterTake base now (Ok a) u run) (sym (answer_given answer job is)) (finish_run base now job u left run some)

-- A turn is a take and what is behind it.
pub record OneTurn (base : BaseParts) (now : ℕ) (t : DeskTable) (run : TurnRun) : Type 0 where
  pub met : Met
  pub after : TurnRun
  pub does : AfterTake base now (answer_met t (take_ask now) met) (table_met t (take_ask now) met) after
  pub made : run.made ≡ calls_on after.made.up (event (take_ask now) met ∷ after.made.desk)
  pub result : run.result ≡ after.result

pub one_turn : (base : BaseParts) (now : ℕ) (t : DeskTable) (given : Answers) (run : TurnRun) → TurnsOf base now t given run → OneTurn base now t run
one_turn base now t given run does =
    let one = pair_ask t (take_ask now) given does.before does.begins in
    let whole : run ≡ prepend pair (calls_on [] (event (take_ask now) one.met ∷ [])) does.after = does.whole ∙ ap (λ (r : PairAsked). prepend pair r.made does.after) one.is in
    let behind : goes_on base now (answer_met t (take_ask now) one.met) (table_met t (take_ask now) one.met) one.left does.after =
    subst (λ (r : PairAsked). goes_on base now r.result.0 r.result.1 r.left does.after) one.is does.goes_on in
    record {
      met = one.met;
      after = does.after;
      does = after_take base now (answer_met t (take_ask now) one.met) (table_met t (take_ask now) one.met) one.left does.after behind;
      made = ap (λ (r : TurnRun). r.made) whole;
      result = ap (λ (r : TurnRun). r.result) whole;
    }
