-- Asks of a desk, and what their answers say.
use Rattle.std.proofs.Common.{◌≡◌, ◌≢◌, ℕ, ◌≤◌, List, [], ◌∷◌, ◌++◌, Option, Some, None, Ok, Err, IfOk, Bool, true, if◌then◌else◌, nat_eq, refl, sym, ◌∙◌, ap, subst, arith}
use Rattle.std.proofs.lemmas.Bool.Decides.{nat_tests}
use Rattle.dav_deeds.specs.DeskTable.{DeskTable}
use Rattle.dav_deeds.specs.Answers.{job_in, job_of}
use Rattle.dav_deeds.specs.Legal.{IsAsk, deed_of}
use Rattle.dav_deeds.specs.Effects.{Effect, told_of, take_effect, taken, changed, effect_of, effect_unless, settle_effect, fated_of}
use Rattle.dav_deeds.specs.Made.{answer_by}
use Rattle.dav_deeds.specs.Refusals.{job_fault}
use Rattle.dav_deeds.specs.declared.answer.Answer.{Answer}
use Rattle.dav_deeds.specs.declared.answer.Answer.TheVariants as answers
use Rattle.dav_deeds.specs.declared.answer.Flight.{Flight}
use Rattle.dav_deeds.specs.declared.answer.Job.{Job}
use Rattle.dav_deeds.specs.declared.answer.Told.{Told}
use Rattle.dav_deeds.specs.declared.ask.Ask.{Ask}
use Rattle.dav_deeds.specs.declared.ask.Ask.TheVariants.{Take, Settle}
use Rattle.dav_deeds.specs.declared.ask.Done.{Done}
use Rattle.dav_deeds.specs.declared.deed.Deed.TheVariants as deeds
use Rattle.dav_deeds.specs.declared.ask.Who.TheVariants.{Uploader}
use Rattle.dav_deeds.specs.declared.fault.DeskFault.{DeskFault}
use Rattle.dav_deeds.specs.declared.fault.DeskFault.TheVariants as desk
use Rattle.dav_desk.specs.declared.desk.Desk.{Desk}
use Rattle.dav_desk.specs.Verdict.{Verdict, Went, Stopped, Starved, with_bytes, result_by, table_by}
use Rattle.dav_desk.specs.Ended.{IsAsked}
use Rattle.dav_desk.specs.Ends.{IsEnd}
use Rattle.dav_desk.specs.Working.{AreGiven, HasBytes, HasSum}
use Rattle.dav_upload.specs.declared.did.UploadFault.TheVariants as faults
use Rattle.dav_upload.specs.Ending.{flight_in}
use Rattle.dav_upload.specs.Asking.{Asked, Answered, Met, answer_met}
use Rattle.dav_upload.specs.Desks.{DiskView, Works, Stops, HasBytesIf, HasSumIf, WereAsked, AskedSo}
use Rattle.dav_upload.specs.Drain.{take_ask, fault_of}

-- asks one after another, and others behind them
pub were_then : {D : Type 0} (view : DiskView D) (es fs : List Asked) (x y z : Desk D) → WereAsked view es x y → WereAsked view fs y z → WereAsked view (es ++ fs) x z
were_then {D} view [] fs x y z same more = subst (λ (d : Desk D). WereAsked view fs d z) same more
were_then {D} view (e ∷ es) fs x y z were more = (were.0, were.1, were_then view es fs were.0 y z were.2 more)

pub bytes_so : {D : Type 0} (view : DiskView D) (x : Desk D) (told : Option Told) (result : Answered)
    → IfOk result (λ answer. (url : List ℕ) (opening : DeskTable) (start : ℕ) (given : ℕ → List ℕ) → Works view url opening start given x → HasBytes given told answer)
    → (url : List ℕ) (opening : DeskTable) (start : ℕ) (given : ℕ → List ℕ) → Works view url opening start given x → HasBytesIf given told result
bytes_so view x told (Ok answer) has url opening start given working = has url opening start given working
bytes_so view x told (Err fault) has url opening start given working = tt

pub sums_so : (told : Option Told) (result : Answered) → IfOk result (HasSum told) → HasSumIf told result
sums_so told (Ok answer) has = has
sums_so told (Err fault) has = tt

-- what a step of the desk says of an ask
pub asked_so : {D : Type 0} (view : DiskView D) (now : ℕ) (ask : Ask) (x y : Desk D) (result : Answered)
    → IsAsk ask → IsAsked view.honest view.moment view.seen view.faults Uploader now ask x y result
    → (view.honest y.recorder.disk → (url : List ℕ) (opening : DeskTable) (start : ℕ) (given : ℕ → List ℕ) → AreGiven x.table given ask → Works view url opening start given x → y.recorder.dead ≡ None → Works view url opening start given y)
    → (view.honest y.recorder.disk → (url : List ℕ) (opening : DeskTable) (start : ℕ) (given : ℕ → List ℕ) → AreGiven x.table given ask → Works view url opening start given x → y.recorder.dead ≢ None → Stops view url opening start given y)
    → (view.honest y.recorder.disk → IfOk result (λ answer. (url : List ℕ) (opening : DeskTable) (start : ℕ) (given : ℕ → List ℕ) → Works view url opening start given x → HasBytes given (told_of x.table now (deed_of x.table ask)) answer))
    → IfOk result (HasSum (told_of x.table now (deed_of x.table ask))) → (view.honest y.recorder.disk → view.honest x.recorder.disk) → view.faults x.recorder.disk ≤ view.faults y.recorder.disk
    → AskedSo view now ask x y result
asked_so view now ask x y result is_ask asked working stopped bytes sum keeps no_fewer = record {
  met = record { verdict = asked.verdict; bytes = asked.bytes };
  was = record {
    is_ask = is_ask;
    table = asked.table;
    steps = asked.steps;
    cause = asked.cause;
    working = working;
    stopped = stopped;
    bytes = λ honest url opening start given works.
        subst (HasBytesIf given (told_of x.table now (deed_of x.table ask))) asked.answer (bytes_so view x (told_of x.table now (deed_of x.table ask)) result (bytes honest) url opening start given works);
    sums = subst (HasSumIf (told_of x.table now (deed_of x.table ask))) asked.answer (sums_so (told_of x.table now (deed_of x.table ask)) result sum);
    keeps = keeps;
    no_fewer = no_fewer;
  };
  answer = asked.answer;
}

abbrev pub an_answer : Answer → Answered
an_answer answer = Ok answer

abbrev pub a_fault : DeskFault → Answered
a_fault fault = Err fault

abbrev pub a_job : Job → Option Job
a_job job = Some job

pub same_answer : (a b : Answer) → an_answer a ≡ an_answer b → a ≡ b
same_answer a b is = cc

same_job : (a b : Job) → a_job a ≡ a_job b → a ≡ b
same_job a b is = cc

-- a take that told a job went, and the job is the one that may be taken
pub record TookFacts (t : DeskTable) (now : ℕ) (met : Met) (answer : Answer) (job : Job) : Type 0 where
  pub went : met.verdict ≡ Went
  pub taken_is : taken t now ≡ Some (flight_in job)
  pub answer_is : answer ≡ answers.Took job

took_by : (t : DeskTable) (found : Option Flight) (bytes : List ℕ) (answer : Answer) (job : Job)
    → an_answer answer ≡ with_bytes (answer_by (take_effect t found).mark (take_effect t found).told) bytes → job_in answer ≡ Some job → (found ≡ Some (flight_in job)) × (answer ≡ answers.Took job)
took_by t None bytes answer job is has =
    let idle : answer ≡ answers.Idle = same_answer answer answers.Idle is in
    let none : None ≡ a_job job = sym (ap job_in idle) ∙ has in cc
took_by t (Some flight) bytes answer job is has =
    let took : answer ≡ answers.Took (job_of flight bytes) = same_answer answer (answers.Took (job_of flight bytes)) is in
    let same : job_of flight bytes ≡ job = same_job (job_of flight bytes) job (sym (ap job_in took) ∙ has) in
    (ap (λ (j : Job). let f : Option Flight = Some (flight_in j) in f) same, took ∙ ap (λ (j : Job). answers.Took j) same)

pub took_facts : (t : DeskTable) (now : ℕ) (met : Met) (answer : Answer) (job : Job) → an_answer answer ≡ answer_met t (take_ask now) met → job_in answer ≡ Some job → TookFacts t now met answer job
took_facts t now met answer job is has = by met.verdict refl is
  where
    by : (v : Verdict) → met.verdict ≡ v → an_answer answer ≡ result_by v t now Take met.bytes → TookFacts t now met answer job
    by Went went so = let facts = took_by t (taken t now) met.bytes answer job so has in record { went = went; taken_is = facts.0; answer_is = facts.1 }
    by (Stopped fault) went so = let wrong : an_answer answer ≡ a_fault fault = so in cc
    by Starved went so = let wrong : an_answer answer ≡ a_fault desk.Memory = so in cc

-- a take that went has an answer
take_by : (t : DeskTable) (found : Option Flight) (bytes : List ℕ) → (answer : Answer) × (with_bytes (answer_by (take_effect t found).mark (take_effect t found).told) bytes ≡ an_answer answer)
take_by t None bytes = (answers.Idle, refl)
take_by t (Some flight) bytes = (answers.Took (job_of flight bytes), refl)

pub take_answers : (t : DeskTable) (now : ℕ) (bytes : List ℕ) → (answer : Answer) × (result_by Went t now Take bytes ≡ an_answer answer)
take_answers t now bytes = take_by t (taken t now) bytes

-- the job that was taken is in flight
flies_by : (t : DeskTable) (found : Option Flight) (flight : Flight) → found ≡ Some flight → (changed t (take_effect t found)).job ≡ Some flight
flies_by t found flight is = subst (λ (f : Option Flight). (changed t (take_effect t f)).job ≡ Some flight) (sym is) refl

pub take_flies : (t : DeskTable) (now : ℕ) (flight : Flight) → taken t now ≡ Some flight → table_by Went t now Take ≡ changed t (take_effect t (Some flight))
take_flies t now flight is = ap (λ (f : Option Flight). changed t (take_effect t f)) is

-- a settling of the job in flight is not refused
not_refused : (flight : Flight) → job_fault flight.number (Some flight) ≡ None
not_refused flight =
    let own : nat_eq flight.number flight.number ≡ true = grind (arith, nat_tests) in
    ap (λ (b : Bool). let f : Option DeskFault = if b then None else Some (desk.NoSuchJob flight.number) in f) own

pub settle_effect_is : (t : DeskTable) (now : ℕ) (flight : Flight) (done : Done) → t.job ≡ Some flight → effect_of t now (deeds.Settle flight.number done) ≡ settle_effect t (Some flight) now done
settle_effect_is t now flight done is =
    ap (λ (job : Option Flight). effect_unless (job_fault flight.number job) t now (deeds.Settle flight.number done)) is
    ∙ ap (λ (fault : Option DeskFault). effect_unless fault t now (deeds.Settle flight.number done)) (not_refused flight)
    ∙ ap (λ (job : Option Flight). settle_effect t job now done) is

pub settle_answers : (t : DeskTable) (now : ℕ) (flight : Flight) (done : Done) (bytes : List ℕ) → t.job ≡ Some flight
    → result_by Went t now (Settle flight.number done) bytes ≡ an_answer (answers.Settled (fated_of t.index flight now done))
settle_answers t now flight done bytes is =
    ap (λ (e : Effect). with_bytes (answer_by e.mark e.told) bytes) (settle_effect_is t now flight done is)

-- a fault that ends a desk is none of memory
pub end_is_desk : (fault : DeskFault) → IsEnd fault → fault_of fault ≡ faults.Desk fault
end_is_desk desk.Disk is = refl
end_is_desk (desk.NotACache at) is = refl
end_is_desk (desk.Damaged file stored found) is = refl
end_is_desk (desk.OtherServer kept asked) is = refl
end_is_desk (desk.Queued path) is = refl
end_is_desk (desk.NoSuchJob number) is = refl
end_is_desk (desk.Crowded oldest) is = refl
end_is_desk (desk.Limit which) is = refl
end_is_desk desk.Memory is = absurd is
