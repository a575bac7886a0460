-- What a drain asks of a desk, and what a drain that gave up was stopped by.
use Rattle.std.proofs.Common.{◌≡◌, ◌≢◌, ◌⊎◌, inl, inr, ℕ, List, [], ◌∷◌, ◌++◌, Some, None, Ok, Err, refl, sym, ◌∙◌, ap, subst, append_assoc}
use Rattle.dav_machine.specs.Log.{event}
use Rattle.dav_machine.specs.Machine.{Run, run_with, prepend}
use Rattle.dav_machine.specs.Part.{lift, lifted_run}
use Rattle.dav_uri.specs.Target.{BaseParts}
use Rattle.dav_deeds.specs.DeskTable.{DeskTable}
use Rattle.dav_deeds.specs.Effects.{fated_of}
use Rattle.dav_deeds.specs.declared.answer.Answer.TheVariants as answers
use Rattle.dav_deeds.specs.declared.answer.Job.{Job}
use Rattle.dav_deeds.specs.declared.ask.Ask.{Ask}
use Rattle.dav_deeds.specs.declared.ask.Ask.TheVariants as asks
use Rattle.dav_deeds.specs.declared.ask.Done.{Done}
use Rattle.dav_deeds.specs.declared.fault.DeskFault.{DeskFault}
use Rattle.dav_deeds.specs.declared.fault.DeskFault.TheVariants as desk
use Rattle.dav_desk.specs.Verdict.{Verdict, Went, Stopped, Starved, result_by}
use Rattle.dav_upload.specs.declared.did.Did.TheVariants as did
use Rattle.dav_upload.specs.declared.did.UploadFault.{UploadFault}
use Rattle.dav_upload.specs.declared.did.UploadFault.TheVariants as faults
use Rattle.dav_upload.specs.Asking.{Asking, Met, Asked, Answered, table_met, answer_met, Asks}
use Rattle.dav_upload.specs.Drain.{take_ask, settle_ask, Turned, fault_of, did_in, did_of, Settles, Finishes, goes_on, TurnsOf, Drained, drained_by, Drains, last, turn}
use Rattle.dav_upload.specs.Ending.{Ending, flight_in}
use Rattle.dav_upload.specs.Pair.{Made, Answers, calls_on, answers_of, pair, the_desk}
use Rattle.dav_upload.proofs.Asks.{an_answer, a_fault, take_answers, settle_answers}
use Rattle.dav_upload.proofs.DrainLaws.{DrainRun, taken_flies}
use Rattle.dav_upload.proofs.OneTurn.{TurnRun, AfterTake, none, unsent, sent, OneTurn, one_turn}
use Rattle.dav_run.proofs.OneAsk.{asked_once}

-- what sends files takes jobs and settles them
abbrev pub IsOfUploader : Ask → Type 0
IsOfUploader (asks.Store path bytes) = ⊥
IsOfUploader (asks.Forget path locks below) = ⊥
IsOfUploader asks.Take = Unit {0}
IsOfUploader (asks.Settle number done) = Unit {0}
IsOfUploader asks.Stop = ⊥

abbrev pub AllOfUploader : List Asked → Type 0
AllOfUploader [] = Unit {0}
AllOfUploader (e ∷ es) = IsOfUploader e.asked.ask × AllOfUploader es

all_then : (es fs : List Asked) → AllOfUploader es → AllOfUploader fs → AllOfUploader (es ++ fs)
all_then [] fs one two = two
all_then (e ∷ es) fs one two = (one.0, all_then es fs one.1 two)

-- one of the asks was stopped by the fault
pub record HasStopped (fault : DeskFault) (es : List Asked) : Type 0 where
  pub before : List Asked
  pub stopped : Asked
  pub since : List Asked
  pub split : es ≡ before ++ stopped ∷ since
  pub verdict : stopped.answer.verdict ≡ Stopped fault

pub stopped_first : (fault : DeskFault) (e : Asked) (es : List Asked) → e.answer.verdict ≡ Stopped fault → HasStopped fault (e ∷ es)
stopped_first fault e es is = record { before = []; stopped = e; since = es; split = refl; verdict = is }

pub stopped_behind : (fault : DeskFault) (es fs : List Asked) → HasStopped fault fs → HasStopped fault (es ++ fs)
stopped_behind fault es fs has = record {
  before = es ++ has.before;
  stopped = has.stopped;
  since = has.since;
  split = ap (λ (l : List Asked). es ++ l) has.split ∙ sym (append_assoc es has.before (has.stopped ∷ has.since));
  verdict = has.verdict;
}

pub stopped_later : (fault : DeskFault) (e : Asked) (es : List Asked) → HasStopped fault es → HasStopped fault (e ∷ es)
stopped_later fault e es has = stopped_behind fault (e ∷ []) es has

pub stopped_front : (fault : DeskFault) (es fs : List Asked) → HasStopped fault es → HasStopped fault (es ++ fs)
stopped_front fault es fs has = record {
  before = has.before;
  stopped = has.stopped;
  since = has.since ++ fs;
  split = ap (λ (l : List Asked). l ++ fs) has.split ∙ append_assoc has.before (has.stopped ∷ has.since) fs;
  verdict = has.verdict;
}

-- a drain takes and settles

turn_asks : (base : BaseParts) (now : ℕ) (t : DeskTable) (one : TurnRun) (turned : OneTurn base now t one) → AllOfUploader one.made.desk
turn_asks base now t one turned = subst (λ (made : Made). AllOfUploader made.desk) (sym turned.made) (tt, by turned.does)
  where
    by : AfterTake base now (answer_met t (take_ask now) turned.met) (table_met t (take_ask now) turned.met) turned.after → AllOfUploader turned.after.made.desk
    by (none drained told made table end) = subst (λ (m : Made). AllOfUploader m.desk) (sym made) tt
    by (unsent job given uploaded told uploads made result) = subst (λ (m : Made). AllOfUploader m.desk) (sym made) tt
    by (sent job met came given uploaded told uploads heard made result) = subst (λ (m : Made). AllOfUploader m.desk) (sym made) (tt, tt)

pub drain_asks : (base : BaseParts) (now : ℕ) (t : DeskTable) (given : Answers) (run : DrainRun) → Drains base now t given run → AllOfUploader run.made.desk
drain_asks base now before answers whole (last t given run one drained does ends is) =
    subst (λ (r : DrainRun). AllOfUploader r.made.desk) (sym is) (turn_asks base now t one (one_turn base now t given one does))
drain_asks base now before answers whole (turn t given run one rest does goes later is) =
    subst (λ (r : DrainRun). AllOfUploader r.made.desk) (sym is)
    (all_then one.made.desk rest.made.desk (turn_asks base now t one (one_turn base now t given one does)) (drain_asks base now one.result.1 one.left rest later))

-- a turn that gave up by a fault of the desk was stopped by it

abbrev stuck : DeskFault → Turned
stuck fault = Err (faults.Desk fault)

abbrev pub gave_up : DeskFault → Drained
gave_up fault = Err (faults.Desk fault)

-- a fault of the desk is what a turn tells of it, unless there was no memory
same_fault : (one fault : DeskFault) → fault_of one ≡ faults.Desk fault → (one ≡ fault) × (fault ≢ desk.Memory)
same_fault desk.Disk fault is = let same : desk.Disk ≡ fault = cc in (same, λ h. let x : desk.Disk ≡ desk.Memory = same ∙ h in cc)
same_fault (desk.NotACache at) fault is = let same : desk.NotACache at ≡ fault = cc in (same, λ h. let x : desk.NotACache at ≡ desk.Memory = same ∙ h in cc)
same_fault (desk.Damaged file kept found) fault is = let same : desk.Damaged file kept found ≡ fault = cc in (same, λ h. let x : desk.Damaged file kept found ≡ desk.Memory = same ∙ h in cc)
same_fault (desk.OtherServer kept asked) fault is = let same : desk.OtherServer kept asked ≡ fault = cc in (same, λ h. let x : desk.OtherServer kept asked ≡ desk.Memory = same ∙ h in cc)
same_fault (desk.Queued path) fault is = let same : desk.Queued path ≡ fault = cc in (same, λ h. let x : desk.Queued path ≡ desk.Memory = same ∙ h in cc)
same_fault (desk.NoSuchJob number) fault is = let same : desk.NoSuchJob number ≡ fault = cc in (same, λ h. let x : desk.NoSuchJob number ≡ desk.Memory = same ∙ h in cc)
same_fault (desk.Crowded oldest) fault is = let same : desk.Crowded oldest ≡ fault = cc in (same, λ h. let x : desk.Crowded oldest ≡ desk.Memory = same ∙ h in cc)
same_fault (desk.Limit which) fault is = let same : desk.Limit which ≡ fault = cc in (same, λ h. let x : desk.Limit which ≡ desk.Memory = same ∙ h in cc)
same_fault desk.Memory fault is = let x : faults.Memory ≡ faults.Desk fault = is in absurd (cc)

did_stuck : (answered : Answered) (fault : DeskFault) → did_of answered ≡ stuck fault → (answered ≡ a_fault fault) × (fault ≢ desk.Memory)
did_stuck (Ok answer) fault is = let x : Ok (did_in answer) ≡ stuck fault = is in absurd (cc)
did_stuck (Err one) fault is =
    let both : Err (fault_of one) ≡ stuck fault = is in
    let inside : fault_of one ≡ faults.Desk fault = cc in
    let same = same_fault one fault inside in
    (ap a_fault same.0, same.1)

-- a take or a settling of the job in flight that told a fault was stopped by it, unless there was no memory

take_stopped : (t : DeskTable) (now : ℕ) (met : Met) (fault : DeskFault) → answer_met t (take_ask now) met ≡ a_fault fault → fault ≢ desk.Memory → met.verdict ≡ Stopped fault
take_stopped t now met fault is other = by met.verdict refl is
  where
    by : (v : Verdict) → met.verdict ≡ v → result_by v t now asks.Take met.bytes ≡ a_fault fault → met.verdict ≡ Stopped fault
    by Went went so = let has = take_answers t now met.bytes in let x : an_answer has.0 ≡ a_fault fault = sym has.1 ∙ so in absurd (cc)
    by (Stopped one) went so = let both : a_fault one ≡ a_fault fault = so in let same : one ≡ fault = cc in went ∙ ap Stopped same
    by Starved went so = let both : a_fault desk.Memory ≡ a_fault fault = so in let same : fault ≡ desk.Memory = cc in absurd (other same)

settle_stopped : (u : DeskTable) (now : ℕ) (job : Job) (done : Done) (met : Met) (fault : DeskFault) → u.job ≡ Some (flight_in job) → answer_met u (settle_ask now job.number done) met ≡ a_fault fault → fault ≢ desk.Memory → met.verdict ≡ Stopped fault
settle_stopped u now job done met fault flies is other = by met.verdict refl is
  where
    by : (v : Verdict) → met.verdict ≡ v → result_by v u now (asks.Settle job.number done) met.bytes ≡ a_fault fault → met.verdict ≡ Stopped fault
    by Went went so = let x : an_answer (answers.Settled (fated_of u.index (flight_in job) now done)) ≡ a_fault fault = sym (settle_answers u now (flight_in job) done met.bytes flies) ∙ so in absurd (cc)
    by (Stopped one) went so = let both : a_fault one ≡ a_fault fault = so in let same : one ≡ fault = cc in went ∙ ap Stopped same
    by Starved went so = let both : a_fault desk.Memory ≡ a_fault fault = so in let same : fault ≡ desk.Memory = cc in absurd (other same)

abbrev PairAsked : Type 0
PairAsked = Run Made Answers (Answered × DeskTable)

abbrev PairEnding : Type 0
PairEnding = Run Made Answers Ending

-- one ask beside a wire
record PairAsk (t : DeskTable) (a : Asking) (run : PairAsked) : Type 0 where
  met : Met
  left : Answers
  is : run ≡ run_with (answer_met t a met, table_met t a met) (calls_on [] (event a met ∷ [])) left

pair_ask : (t : DeskTable) (a : Asking) (given : Answers) (run : PairAsked) → lift the_desk (Asks t a) given run → PairAsk t a run
pair_ask t a given run does =
    let one = asked_once t a given.desk does.below does.does in
    record { met = one.met; left = answers_of given.up one.more; is = does.is ∙ ap (lifted_run the_desk given) one.is }

-- behind a take: its fault, or a settling that was stopped
abbrev StuckBy : Answered → DeskFault → TurnRun → Type 0
StuckBy answered fault run = ((answered ≡ a_fault fault) × (fault ≢ desk.Memory)) ⊎ HasStopped fault run.made.desk

nothing_stuck : (u : DeskTable) (left : Answers) (run : TurnRun) (fault : DeskFault) → run ≡ run_with (Ok did.Nothing, u) (calls_on [] []) left → run.result.0 ≡ stuck fault → ⊥
nothing_stuck u left run fault is so = let x : Ok did.Nothing ≡ stuck fault = ap (λ (r : TurnRun). r.result.0) (sym is) ∙ so in cc

settles_stuck : (now : ℕ) (job : Job) (u : DeskTable) (came : Ending) (left : Answers) (run : TurnRun) (fault : DeskFault) → u.job ≡ Some (flight_in job) → Settles now job u came left run → run.result.0 ≡ stuck fault → HasStopped fault run.made.desk
settles_stuck now job u (Ok done) left run fault flies does so =
    let settling = settle_ask now job.number done in
    let one = pair_ask u settling left does.before does.begins in
    let whole : run ≡ run_with (did_of (answer_met u settling one.met), table_met u settling one.met) (calls_on [] (event settling one.met ∷ [])) one.left =
    does.whole ∙ ap (λ (r : TurnRun). prepend pair does.before.made r) does.goes_on
    ∙ ap (λ (r : PairAsked). prepend pair r.made (run_with (did_of r.result.0, r.result.1) (calls_on [] []) r.left)) one.is in
    let told = did_stuck (answer_met u settling one.met) fault (ap (λ (r : TurnRun). r.result.0) (sym whole) ∙ so) in
    subst (λ (r : TurnRun). HasStopped fault r.made.desk) (sym whole)
    (stopped_first fault (event settling one.met) [] (settle_stopped u now job done one.met fault flies told.0 told.1))
settles_stuck now job u (Err want) left run fault flies does so = let x : Err faults.Memory ≡ stuck fault = ap (λ (r : TurnRun). r.result.0) (sym does) ∙ so in absurd (cc)

finishes_stuck : (base : BaseParts) (now : ℕ) (job : Job) (u : DeskTable) (left : Answers) (run : TurnRun) (fault : DeskFault) → u.job ≡ Some (flight_in job) → Finishes base now u (Some job) left run → run.result.0 ≡ stuck fault
    → HasStopped fault run.made.desk
finishes_stuck base now job u left run fault flies does so =
    let desk_is : run.made.desk ≡ does.after.made.desk =
    ap (λ (r : TurnRun). r.made.desk) does.whole ∙ ap (λ (r : PairEnding). r.made.desk ++ does.after.made.desk) does.begins.is in
    let after = settles_stuck now job u does.before.result does.before.left does.after fault flies does.goes_on (ap (λ (r : TurnRun). r.result.0) (sym does.whole) ∙ so) in
    subst (HasStopped fault) (sym desk_is) after

behind_take : (base : BaseParts) (now : ℕ) (answered : Answered) (u : DeskTable) (left : Answers) (run : TurnRun) (fault : DeskFault) → ((job : Job) → answered ≡ Ok (answers.Took job) → u.job ≡ Some (flight_in job))
    → goes_on base now answered u left run → run.result.0 ≡ stuck fault → StuckBy answered fault run
behind_take base now (Err one) u left run fault flies does so =
    let both : Err (fault_of one) ≡ stuck fault = ap (λ (r : TurnRun). r.result.0) (sym does) ∙ so in
    inl (did_stuck (Err one) fault both)
behind_take base now (Ok (answers.Took job)) u left run fault flies does so = inr (finishes_stuck base now job u left run fault (flies job refl) does so)
behind_take base now (Ok (answers.Closed body)) u left run fault flies does so = absurd (nothing_stuck u left run fault does so)
behind_take base now (Ok answers.Forgot) u left run fault flies does so = absurd (nothing_stuck u left run fault does so)
behind_take base now (Ok answers.Idle) u left run fault flies does so = absurd (nothing_stuck u left run fault does so)
behind_take base now (Ok (answers.Settled fated)) u left run fault flies does so = absurd (nothing_stuck u left run fault does so)
behind_take base now (Ok answers.Stopping) u left run fault flies does so = absurd (nothing_stuck u left run fault does so)

turn_stopped : (base : BaseParts) (now : ℕ) (t : DeskTable) (given : Answers) (run : TurnRun) (fault : DeskFault) → TurnsOf base now t given run → run.result.0 ≡ stuck fault → HasStopped fault run.made.desk
turn_stopped base now t given run fault does so =
    let one = pair_ask t (take_ask now) given does.before does.begins in
    let e : Asked = event (take_ask now) one.met in
    let whole : run ≡ prepend pair (calls_on [] (e ∷ [])) does.after = does.whole ∙ ap (λ (r : PairAsked). prepend pair r.made does.after) one.is in
    let behind : goes_on base now (answer_met t (take_ask now) one.met) (table_met t (take_ask now) one.met) one.left does.after =
    subst (λ (r : PairAsked). goes_on base now r.result.0 r.result.1 r.left does.after) one.is does.goes_on in
    subst (λ (r : TurnRun). HasStopped fault r.made.desk) (sym whole)
    (elim (behind_take base now (answer_met t (take_ask now) one.met) (table_met t (take_ask now) one.met) one.left does.after fault (λ job told. taken_flies t now one.met job told) behind
    (ap (λ (r : TurnRun). r.result.0) (sym whole) ∙ so)) [
      | inl told ↦ stopped_first fault e does.after.made.desk (take_stopped t now one.met fault told.0 told.1)
      | inr later ↦ stopped_later fault e does.after.made.desk later
    ])

some_stuck : (turned : Turned) (fault : DeskFault) → drained_by turned ≡ Some (gave_up fault) → turned ≡ stuck fault
some_stuck (Ok did.Nothing) fault is = let x : Some (Ok tt) ≡ Some (gave_up fault) = is in absurd (cc)
some_stuck (Ok (did.Settled fated)) fault is = let x : None ≡ Some (gave_up fault) = is in absurd (cc)
some_stuck (Err one) fault is = let x : Some (Err one) ≡ Some (gave_up fault) = is in let same : one ≡ faults.Desk fault = cc in ap (λ (f : UploadFault). let r : Turned = Err f in r) same

-- a drain that gave up by a fault of the desk was stopped by it
pub drain_stopped : (base : BaseParts) (now : ℕ) (t : DeskTable) (given : Answers) (run : DrainRun) (fault : DeskFault) → Drains base now t given run → run.result.0 ≡ gave_up fault → HasStopped fault run.made.desk
drain_stopped base now before answers_ whole fault (last t given run one drained does ends is) so =
    let ended : drained ≡ gave_up fault = ap (λ (r : DrainRun). r.result.0) (sym is) ∙ so in
    subst (λ (r : DrainRun). HasStopped fault r.made.desk) (sym is)
    (turn_stopped base now t given one fault does (some_stuck one.result.0 fault (ends ∙ ap (λ (d : Drained). Some d) ended)))
drain_stopped base now before answers_ whole fault (turn t given run one rest does goes later is) so =
    subst (λ (r : DrainRun). HasStopped fault r.made.desk) (sym is)
    (stopped_behind fault one.made.desk rest.made.desk (drain_stopped base now one.result.1 one.left rest fault later (ap (λ (r : DrainRun). r.result.0) (sym is) ∙ so)))
