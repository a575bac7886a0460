-- What a turn leaves of a desk on a disk that keeps the model.
use Rattle.std.proofs.Common.{◌≡◌, ◌⊎◌, inl, inr, ℕ, ◌≤◌, Bool, true, false, if◌then◌else◌, List, [], ◌∷◌, ◌++◌, Option, Some, None, Result, Ok, Err, refl, sym, ◌∙◌, ap, subst, append-nil}
use Rattle.dav_disk.specs.Disk.{MightLeave}
use Rattle.dav_machine.specs.Log.{event}
use Rattle.dav_machine.proofs.Logs.{grows_then, grows_same}
use Rattle.dav_edge.specs.Device.{Happened, DeviceLog, Grew, is_failure}
use Rattle.dav_uri.specs.Target.{BaseParts}
use Rattle.dav_store.specs.declared.body_id.BodyId.{BodyId}
use Rattle.dav_deeds.specs.Answers.{is_idle, kind_told}
use Rattle.dav_deeds.specs.DeskTable.{DeskTable}
use Rattle.dav_deeds.specs.Effects.{take_effect, changed, told_of}
use Rattle.dav_deeds.specs.Legal.{deed_of, table_after}
use Rattle.dav_deeds.specs.declared.answer.Answer.{Answer}
use Rattle.dav_deeds.specs.declared.answer.Answer.TheVariants as answers
use Rattle.dav_deeds.specs.declared.answer.Flight.{Flight}
use Rattle.dav_deeds.specs.declared.answer.Job.{Job}
use Rattle.dav_deeds.specs.declared.answer.Told.{Told}
use Rattle.dav_deeds.specs.declared.answer.Told.TheVariants as tells
use Rattle.dav_deeds.specs.declared.ask.Ask.{Ask}
use Rattle.dav_deeds.specs.declared.ask.Ask.TheVariants.{Take, Settle}
use Rattle.dav_deeds.specs.declared.ask.Who.TheVariants.{Uploader}
use Rattle.dav_deeds.specs.declared.deed.Deed.{Deed}
use Rattle.dav_deeds.specs.declared.deed.Step.{Step}
use Rattle.dav_deeds.specs.declared.fault.DeskFault.{DeskFault}
use Rattle.dav_recorder.specs.Survives.{with_under}
use Rattle.dav_desk.specs.declared.desk.Desk.{Desk}
use Rattle.dav_desk.specs.Verdict.{Verdict, Went, Stopped, Starved, step_of, steps_by, unless_idle, result_by, table_by}
use Rattle.dav_desk.specs.Ended.{HasCause, HasDied, WasDead}
use Rattle.dav_desk.specs.Working.{AreGiven}
use Rattle.dav_upload.specs.declared.did.UploadFault.{UploadFault}
use Rattle.dav_upload.specs.declared.did.UploadFault.TheVariants as faults
use Rattle.dav_upload.specs.Backs.{HasPutOf, job_sent}
use Rattle.dav_upload.specs.Ending.{flight_in}
use Rattle.dav_upload.specs.Turns.{Backed}
use Rattle.dav_upload.specs.Outlives.{Outlives}
use Rattle.dav_upload.specs.Asking.{asking, Answered, Met, told_met}
use Rattle.dav_upload.specs.Desks.{DiskView, HasBytesIf, WasAsked, AskedSo}
use Rattle.dav_upload.specs.Drain.{take_ask, Turned, did_of, SentSo, starved, settled, TurnSo, idle, stopped, took}
use Rattle.dav_upload.specs.AtWork.{IsAtWork, IsAtEnd, IsAfter, AllOutlive}
use Rattle.dav_upload.proofs.Asks.{an_answer, a_fault, took_facts, take_answers, take_flies, settle_answers, end_is_desk}
use Rattle.dav_upload.proofs.Backing.{backs_push, backs_more}
use Rattle.dav_upload.proofs.Turning.{puts_if, settling_sends, take_sends_none}
use Rattle.dav_upload.proofs.Whole.{outlives_each}

-- one step more, with the calls since
backed_push : (base : BaseParts) (bodies : ℕ → List ℕ) (t : DeskTable) (steps : List Step) (s : Step) (old mid new : DeviceLog) (part : List Happened) → Backed base bodies t steps old mid → Grew mid new part
    → HasPutOf base bodies (job_sent (table_after t steps).job s.deed s.mark) part → Backed base bodies t (steps ++ s ∷ []) old new
backed_push base bodies t steps s old mid new part backed grew put = record {
  events = backed.events ++ part;
  grew = grows_then is_failure old mid new backed.events part backed.grew grew;
  backs = backs_push base bodies t steps s backed.events part backed.backs put;
}

-- further calls are those of no step
backed_more : (base : BaseParts) (bodies : ℕ → List ℕ) (t : DeskTable) (steps : List Step) (old mid new : DeviceLog) (part : List Happened) → Backed base bodies t steps old mid → Grew mid new part → Backed base bodies t steps old new
backed_more base bodies t steps old mid new part backed grew = record {
  events = backed.events ++ part;
  grew = grows_then is_failure old mid new backed.events part backed.grew grew;
  backs = backs_more base bodies t steps backed.events part backed.backs;
}

by_told : (P : List Step → Type 0) (told : Option Told) (s : Step) → P [] → P (s ∷ []) → P (unless_idle told s)
by_told P told s none one = by (is_idle (kind_told told))
  where
    by : (b : Bool) → P (if b then [] else s ∷ [])
    by true = none
    by false = one

-- a disk that is honest behind a turn was so before
sent_keeps : {D : Type 0} (view : DiskView D) (base : BaseParts) (a b : DeviceLog) (x y : Desk D) (now : ℕ) (job : Job) (turned : Turned) → SentSo view base now job a b x y turned → view.honest y.recorder.disk → view.honest x.recorder.disk
sent_keeps {D} view base a b x y now job turned (starved want sends same is) honest = subst (λ (d : Desk D). view.honest d.recorder.disk) same honest
sent_keeps {D} view base a b x y now job turned (settled done answered sends asked is) honest = asked.was.keeps honest

pub turn_keeps : {D : Type 0} (view : DiskView D) (base : BaseParts) (a b : DeviceLog) (x y : Desk D) (now : ℕ) (turned : Turned) → TurnSo view base now a b x y turned → view.honest y.recorder.disk → view.honest x.recorder.disk
turn_keeps view base a b x y now turned (idle answer asked none same is) honest = asked.was.keeps honest
turn_keeps view base a b x y now turned (stopped fault asked same is) honest = asked.was.keeps honest
turn_keeps view base a b x y now turned (took mid answer job asked has sent) honest = asked.was.keeps (sent_keeps view base a b mid y now job turned sent honest)

module _ {D : Type 0} (view : DiskView D) (base : BaseParts) (url : List ℕ) (opening : DeskTable) (start : ℕ) (given : ℕ → List ℕ) (begun : DeviceLog) where
  abbrev Work : DeviceLog → Desk D → Type 0
  Work wire x = IsAtWork view base url opening start given begun wire x

  abbrev End : DeviceLog → Desk D → Type 0
  End wire x = IsAtEnd view base url opening start given begun wire x

  abbrev After : Turned → DeviceLog → Desk D → Type 0
  After turned wire x = IsAfter turned view base url opening start given begun wire x

  abbrev BackedBy : List Step → DeviceLog → Type 0
  BackedBy steps wire = Backed base given opening steps begun wire

  -- after an ask that went so
  abbrev AfterVerdict : Verdict → DeviceLog → Desk D → Type 0
  AfterVerdict Went wire x = Work wire x
  AfterVerdict (Stopped fault) wire x = End wire x
  AfterVerdict Starved wire x = Work wire x

  module _ (a b : DeviceLog) (part : List Happened) (x y : Desk D) (now : ℕ) (ask : Ask) (met : Met) (work : Work a x) (grew : Grew a b part) (stored : AreGiven x.table given ask)
      (put : (s : Step) → s.deed ≡ deed_of x.table ask → HasPutOf base given (job_sent x.table.job s.deed s.mark) part) (was : WasAsked view (event (asking Uploader now ask) met) x y) (honest : view.honest y.recorder.disk) where
    abbrev this_step : Step
    this_step = step_of x.table Uploader now ask (view.moment y.recorder.disk)

    abbrev steps_before : List Step
    steps_before = x.recorder.trace.steps.items

    same_backed : BackedBy steps_before b
    same_backed = backed_more base given opening steps_before begun a b part work.backed grew

    one_backed : BackedBy (steps_before ++ this_step ∷ []) b
    one_backed =
        backed_push base given opening steps_before this_step begun a b part work.backed grew
        (subst (λ (t : DeskTable). HasPutOf base given (job_sent t.job this_step.deed this_step.mark) part) work.working.table (put this_step refl))

    none_backed : BackedBy (steps_before ++ []) b
    none_backed = subst (λ (l : List Step). BackedBy l b) (sym (append-nil steps_before)) same_backed

    lives : (steps : List Step) → y.recorder.dead ≡ None → y.recorder.trace.steps.items ≡ steps → BackedBy steps b → Work b y
    lives steps alive is backed = record {
      idle = work.idle;
      working = was.working honest url opening start given stored work.working alive;
      backed = subst (λ (l : List Step). BackedBy l b) (sym is) backed;
    }

    dies : (fault : DeskFault) → y.recorder.dead ≡ Some fault → y.recorder.trace.steps.items ≡ steps_before ++ [] → (y.recorder.under ≡ x.recorder.under) ⊎ (y.recorder.under ≡ Some this_step) → End b y
    dies fault dead is under = record {
      idle = work.idle;
      left = was.stopped honest url opening start given stored work.working (λ alive. let h : None ≡ Some fault = sym alive ∙ dead in cc);
      backed = by under;
    }
      where
        by : (y.recorder.under ≡ x.recorder.under) ⊎ (y.recorder.under ≡ Some this_step) → BackedBy (with_under y.recorder.trace.steps.items y.recorder.under) b
        by (inl same) =
            subst (λ (u : Option Step). BackedBy (with_under y.recorder.trace.steps.items u) b) (sym (same ∙ work.working.live.idle))
            (subst (λ (l : List Step). BackedBy l b) (sym (is ∙ append-nil steps_before)) same_backed)
        by (inr some) =
            subst (λ (u : Option Step). BackedBy (with_under y.recorder.trace.steps.items u) b) (sym some)
            (subst (λ (l : List Step). BackedBy (l ++ this_step ∷ []) b) (sym (is ∙ append-nil steps_before)) one_backed)

    after_verdict : (v : Verdict) → HasCause view.honest view.moment view.seen view.faults Uploader now ask v x y
        → y.recorder.trace.steps.items ≡ steps_before ++ steps_by v x.table Uploader now ask (view.moment y.recorder.disk) → AfterVerdict v b y
    after_verdict Went cause is =
        lives (steps_before ++ unless_idle (told_of x.table now (deed_of x.table ask)) this_step) cause.0.dead is
        (by_told (λ (l : List Step). BackedBy (steps_before ++ l) b) (told_of x.table now (deed_of x.table ask)) this_step none_backed one_backed)
    after_verdict (Stopped fault) cause is = by cause
      where
        by : WasDead fault x y ⊎ HasDied view.honest view.moment view.seen view.faults Uploader now ask fault x y → End b y
        by (inl dead) = let h : None ≡ Some fault = sym work.working.alive ∙ dead.dead in cc
        by (inr died) = dies fault died.dead is died.under
    after_verdict Starved cause is = lives (steps_before ++ []) cause.lives.dead is none_backed

    pub after_ask : AfterVerdict met.verdict b y
    after_ask = after_verdict met.verdict was.cause was.steps

  -- what is answered of an ask that isn't refused
  after_answer : (b : DeviceLog) (x y : Desk D) (now : ℕ) (ask : Ask) (bytes : List ℕ) (v : Verdict) (answer : Answer) (turned : Turned)
      → AfterVerdict v b y → HasCause view.honest view.moment view.seen view.faults Uploader now ask v x y → result_by Went x.table now ask bytes ≡ an_answer answer
      → x.recorder.dead ≡ None → turned ≡ did_of (result_by v x.table now ask bytes) → After turned b y
  after_answer b x y now ask bytes Went answer turned after cause goes alive is = subst (λ (r : Turned). After r b y) (sym (is ∙ ap did_of goes)) after
  after_answer b x y now ask bytes (Stopped fault) answer turned after cause goes alive is = by cause
    where
      by : WasDead fault x y ⊎ HasDied view.honest view.moment view.seen view.faults Uploader now ask fault x y → After turned b y
      by (inl dead) = let h : None ≡ Some fault = sym alive ∙ dead.dead in cc
      by (inr died) = subst (λ (r : Turned). After r b y) (sym (is ∙ ap (λ (f : UploadFault). let r : Turned = Err f in r) (end_is_desk fault died.ends))) after
  after_answer b x y now ask bytes Starved answer turned after cause goes alive is = subst (λ (r : Turned). After r b y) (sym is) after

  sent_after : (a b : DeviceLog) (x y : Desk D) (now : ℕ) (job : Job) (turned : Turned) → SentSo view base now job a b x y turned → view.honest y.recorder.disk → Work a x → x.table.job ≡ Some (flight_in job) → given job.body.file ≡ job.bytes → After turned b y
  sent_after a b x y now job turned (starved want sends same is) honest work flies bytes =
      subst (λ (r : Turned). After r b y) (sym is)
      (subst (λ (d : Desk D). Work b d) (sym same) (record {
        idle = work.idle;
        working = work.working;
        backed = backed_more base given opening x.recorder.trace.steps.items begun a b sends.uploads.made work.backed sends.uploads.grew;
      }))
  sent_after a b x y now job turned (settled done answered sends asked is) honest work flies bytes =
      let puts = puts_if base given job done a b sends bytes in
      let ask : Ask = Settle job.number done in
      let after = after_ask a b puts.events x y now ask asked.met work puts.grew (λ id some. let no : ◌≡◌ {A = Option BodyId} None (Some id) = some in cc no) (λ s deed_is.
      subst (λ (o : Option Flight). HasPutOf base given (job_sent o s.deed s.mark) puts.events) (sym flies)
      (subst (λ (d : Deed). HasPutOf base given (job_sent (Some (flight_in job)) d s.mark) puts.events) (sym deed_is) (settling_sends base given (flight_in job) job.number done s.mark puts.events puts.put)))
      asked.was honest in
      let answer = settle_answers x.table now (flight_in job) done asked.met.bytes flies in
      after_answer b x y now ask asked.met.bytes asked.met.verdict _ turned after asked.was.cause answer work.working.alive (is ∙ ap did_of asked.answer)

  -- after a take
  took_after : (a : DeviceLog) (x y : Desk D) (now : ℕ) (answered : Answered) (asked : AskedSo view now Take x y answered) → view.honest y.recorder.disk → Work a x → AfterVerdict asked.met.verdict a y
  took_after a x y now answered asked honest work =
      after_ask a a [] x y now Take asked.met work (grows_same is_failure a) (λ id some. let no : ◌≡◌ {A = Option BodyId} None (Some id) = some in cc no) (λ s deed_is. take_sends_none base given x.table.job s [] deed_is) asked.was honest

  take_work : (a : DeviceLog) (x y : Desk D) (now : ℕ) (answer : Answer) (asked : AskedSo view now Take x y (Ok answer)) → view.honest y.recorder.disk → Work a x → Work a y
  take_work a x y now answer asked honest work = by asked.met.verdict asked.answer (took_after a x y now (Ok answer) asked honest work)
    where
      by : (v : Verdict) → an_answer answer ≡ result_by v x.table now Take asked.met.bytes → AfterVerdict v a y → Work a y
      by Went is after = after
      by (Stopped fault) is after = let wrong : an_answer answer ≡ a_fault fault = is in cc
      by Starved is after = after

  pub turn_after : (a b : DeviceLog) (x y : Desk D) (now : ℕ) (turned : Turned) → TurnSo view base now a b x y turned → view.honest y.recorder.disk → Work a x → After turned b y
  turn_after a b x y now turned (idle answer asked none same is) honest work =
      subst (λ (r : Turned). After r b y) (sym is) (subst (λ (log : DeviceLog). Work log y) (sym same) (take_work a x y now answer asked honest work))
  turn_after a b x y now turned (stopped fault asked same is) honest work =
      let answer = take_answers x.table now asked.met.bytes in
      subst (λ (log : DeviceLog). After turned log y) (sym same)
      (after_answer a x y now Take asked.met.bytes asked.met.verdict answer.0 turned (took_after a x y now (Err fault) asked honest work) asked.was.cause answer.1 work.working.alive (is ∙ ap did_of asked.answer))
  turn_after a b x y now turned (took mid answer job asked has sent) honest work =
      let honest_mid = sent_keeps view base a b mid y now job turned sent honest in
      let facts = took_facts x.table now asked.met answer job asked.answer has in
      let here : mid.table ≡ changed x.table (take_effect x.table (Some (flight_in job))) =
      asked.was.table ∙ ap (λ (v : Verdict). table_by v x.table now Take) facts.went ∙ take_flies x.table now (flight_in job) facts.taken_is in
      let told : HasBytesIf given (Some (tells.Took (flight_in job))) (an_answer (answers.Took job)) =
      subst (λ (o : Option Flight). HasBytesIf given (take_effect x.table o).told (an_answer (answers.Took job))) facts.taken_is
      (subst (HasBytesIf given (told_met x.table (take_ask now))) (sym asked.answer ∙ ap an_answer facts.answer_is) (asked.was.bytes honest_mid url opening start given work.working)) in
      sent_after a b mid y now job turned sent honest (take_work a x mid now answer asked honest_mid work) (ap (λ (t : DeskTable). t.job) here) (sym (told job.body refl))

  work_outlives : (b : DeviceLog) (y : Desk D) → Work b y → AllOutlive view base url opening start given begun b y
  work_outlives b y work =
      let live = work.working.live in
      let steps = y.recorder.trace.steps.items in record {
        events = work.backed.events;
        grew = work.backed.grew;
        each = subst (λ (u : Option Step). (m : ℕ) (image : ℕ → List ℕ) → start ≤ m → MightLeave (view.past y.recorder.disk) (view.moment y.recorder.disk) m image → Outlives base url given opening steps u work.backed.events m image) (sym live.idle)
            (outlives_each base url given opening steps None (view.past y.recorder.disk) start (view.moment y.recorder.disk) work.backed.events work.idle live.legal work.backed.backs live.survive);
      }

  -- each exit gives that the bytes closed last outlive a stop
  pub after_outlives : {X : Type 0} (result : Result X UploadFault) (b : DeviceLog) (y : Desk D) → IsAfter result view base url opening start given begun b y → AllOutlive view base url opening start given begun b y
  after_outlives (Ok z) b y work = work_outlives b y work
  after_outlives (Err (faults.Desk fault)) b y end = record {
    events = end.backed.events;
    grew = end.backed.grew;
    each = outlives_each base url given opening y.recorder.trace.steps.items y.recorder.under (view.past y.recorder.disk) start (view.moment y.recorder.disk) end.backed.events end.idle end.left.legal end.backed.backs end.left.survive;
  }
  after_outlives (Err faults.Memory) b y work = work_outlives b y work
