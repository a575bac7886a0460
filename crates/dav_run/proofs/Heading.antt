-- What a stop at any moment of a run leaves.
use Rattle.std.proofs.Common.{◌≡◌, ◌⊎◌, inl, inr, ℕ, ◌<◌, ◌≤◌, List, [], ◌∷◌, ◌++◌, map, Bool, false, Option, Some, None, Contains, refl, sym, ◌∙◌, ap, subst, append-nil, append_assoc, arith}
use Rattle.std.proofs.lemmas.List.{map-append}
use Rattle.dav_machine.specs.Log.{any_failed}
use Rattle.dav_machine.proofs.Logs.{grows_same}
use Rattle.dav_disk.specs.Disk.{Doubt, IsImage}
use Rattle.dav_edge.specs.Device.{Happened, DeviceLog, Grew, given, is_failure}
use Rattle.dav_uri.specs.Target.{BaseParts}
use Rattle.dav_store.specs.Body.{id_of}
use Rattle.dav_store.specs.declared.body_id.BodyId.{BodyId}
use Rattle.dav_index.specs.Bounds.{bodies_of}
use Rattle.dav_index.specs.Tables.{replay, fresh_table, restarted}
use Rattle.dav_index.specs.declared.record.Record.{Record}
use Rattle.dav_index.specs.declared.table.Table.{Table}
use Rattle.dav_deeds.specs.DeskTable.{DeskTable, started, reopened}
use Rattle.dav_deeds.specs.Effects.{after}
use Rattle.dav_deeds.specs.Legal.{Legal, table_after}
use Rattle.dav_deeds.specs.Sound.{IsSound}
use Rattle.dav_deeds.specs.declared.deed.Mark.TheVariants as marks
use Rattle.dav_deeds.specs.declared.deed.Step.{Step}
use Rattle.dav_deeds.specs.declared.fault.DeskFault.{DeskFault}
use Rattle.dav_deeds.proofs.Flying.{every_at}
use Rattle.dav_deeds.proofs.Restart.{changed_reopens}
use Rattle.dav_deeds.proofs.Resting.{rest_bodies}
use Rattle.dav_deeds.proofs.AllRows.{steps_sound}
use Rattle.dav_deeds.proofs.Stories.{legal_front}
use Rattle.dav_recorder.specs.Recovers.{Recovers, AllRecover, Replays}
use Rattle.dav_recorder.specs.Stands.{IsGiven, IsIn, EachImage}
use Rattle.dav_recorder.specs.Survives.{IsFront, HasUnder, SurviveAll, with_under}
use Rattle.dav_desk.specs.Ended.{HasCause}
use Rattle.dav_desk.specs.Verdict.{Verdict, Went, Stopped, Starved, result_by, table_by}
use Rattle.dav_desk.specs.Working.{AreGiven}
use Rattle.dav_desk.specs.declared.desk.Desk.{Desk}
use Rattle.dav_upload.specs.Asking.{Asked, table_met, told_met, answer_met, table_through, steps_through}
use Rattle.dav_upload.specs.Backs.{Backs}
use Rattle.dav_upload.specs.Desks.{DiskView, Works, Stops, HasBytesIf, WereAsked}
use Rattle.dav_upload.specs.Sent.{step_asked, AsksBacked, AllTold, JobGiven}
use Rattle.dav_upload.proofs.AskBacks.{asks_back, stopped_backs}
use Rattle.dav_upload.proofs.Whole.{outlives_each}
use Rattle.dav_run.specs.Asked.{still, GivenBy, AllGiven}
use Rattle.dav_run.specs.Headline.{Headline}
use Rattle.dav_run.specs.Kept.{closings}
use Rattle.dav_run.specs.Line.{lines_of}
use Rattle.dav_run.specs.Ran.{Started, Unstarted, uncalled, refused, NotStarted, Ran}
use Rattle.dav_run.specs.Run.{Ending, Opened}
use Rattle.dav_run.specs.Shell.{fresh_state}
use Rattle.dav_run.specs.Words.{IsBase}
use Rattle.dav_run.proofs.Bodies.{given_with, with_before, with_given, after_next, has_bodies}
use Rattle.dav_run.proofs.Closing.{bytes_are}
use Rattle.dav_run.proofs.Keeping.{whole_made, whole_outcome, whole_grew, whole_rests, whole_traces, whole_goes}
use Rattle.dav_run.proofs.OneRun.{base_unique}
use Rattle.dav_run.proofs.Tracing.{AllStopped, dead_stays, honest_before, Traces, traces_still, stopped_at}

-- The bytes of two functions are the same for each file below the next one of a table.
abbrev pub Agree : (ℕ → List ℕ) → (ℕ → List ℕ) → DeskTable → Type 0
Agree g h t = (file : ℕ) → file < t.index.next_file → g file ≡ h file

-- a body of a table is in a file below the next one
named_below : (t : DeskTable) (id : BodyId) → IsSound t → Contains (bodies_of (reopened t).index) id → id.file < t.index.next_file
named_below t id sound there =
    every_at (λ (b : BodyId). b.file < t.index.next_file) (bodies_of t.index) id sound.index.files_known (subst (λ (l : List BodyId). Contains l id) (rest_bodies t.index) there)

given_again : (g h : ℕ → List ℕ) (id : BodyId) → g id.file ≡ h id.file → IsGiven g id → IsGiven h id
given_again g h id same is = subst (λ (b : List ℕ). id ≡ id_of id.file b) same is

in_again : (g h image : ℕ → List ℕ) (id : BodyId) → g id.file ≡ h id.file → IsIn g image id → IsIn h image id
in_again g h image id same is = (given_again g h id same is.0, is.1 ∙ same)

recovers_again : (url : List ℕ) (g h image : ℕ → List ℕ) (t : DeskTable) → IsSound t → Agree g h t → Recovers url (reopened t).index g image → Recovers url (reopened t).index h image
recovers_again url g h image t sound agree (inl nothing) = inl nothing
recovers_again url g h image t sound agree (inr recorded) = inr (record {
  records = recorded.records;
  replays = recorded.replays;
  stands = record {
    index = recorded.stands.index;
    kept = λ id there. in_again g h image id (agree id.file (named_below t id sound there)) (recorded.stands.kept id there);
  };
})

steps_next : (t : DeskTable) (steps : List Step) → t.index.next_file ≤ (table_after t steps).index.next_file
steps_next t [] = omega arith
steps_next t (s ∷ steps) =
    let first = after_next t s.now s.deed in
    let rest = steps_next (after t s.now s.deed) steps in
    omega (arith, first, rest)

after_both : (t : DeskTable) (steps more : List Step) → table_after t (steps ++ more) ≡ table_after (table_after t steps) more
after_both t [] more = refl
after_both t (s ∷ steps) more = after_both (after t s.now s.deed) steps more

-- what a stop leaves is a front of all steps
record FrontOf (whole done : List Step) : Type 0 where
  rest : List Step
  split : whole ≡ done ++ rest

front_of : (m : ℕ) (steps done : List Step) (under : Option Step) → IsFront m steps done ⊎ HasUnder under steps done → FrontOf (with_under steps under) done
front_of m steps done None (inl front) = record { rest = front.rest; split = front.split }
front_of m steps done (Some s) (inl front) =
    record { rest = front.rest ++ s ∷ []; split = ap (λ (l : List Step). l ++ s ∷ []) front.split ∙ append_assoc done front.rest (s ∷ []) }
front_of m steps done under (inr over) =
    record { rest = []; split = ap (with_under steps) over.1 ∙ sym over.2 ∙ sym (append-nil done) }

survive_again : (past : ℕ → ℕ → Doubt) (start now : ℕ) (url : List ℕ) (opening : DeskTable) (steps : List Step) (under : Option Step) (g h : ℕ → List ℕ) → IsSound opening → Legal opening (with_under steps under)
    → Agree g h (table_after opening (with_under steps under)) → SurviveAll past start now url opening steps under g → SurviveAll past start now url opening steps under h
survive_again past start now url opening steps under g h sound legal agree survive = λ k image lo hi left.
    let one = survive k image lo hi left in
    let front = front_of k steps one.done under one.some_of in
    let here : DeskTable = table_after opening one.done in
    let legal_here = legal_front opening one.done front.rest (subst (Legal opening) front.split legal) in
    let grows : here.index.next_file ≤ (table_after opening (with_under steps under)).index.next_file =
    subst (λ (t : DeskTable). here.index.next_file ≤ t.index.next_file) (sym (ap (table_after opening) front.split ∙ after_both opening one.done front.rest)) (steps_next here front.rest) in
    record {
      done = one.done;
      some_of = one.some_of;
      recovers = recovers_again url g h image here (steps_sound opening one.done sound legal_here) (λ file early. agree file (omega (arith, early, grows))) one.recovers;
    }

module _ {D : Type 0} (view : DiskView D) (url : List ℕ) (opening : DeskTable) (start : ℕ) (sound : IsSound opening) where
  -- a desk works with other bytes for files that no body is in yet
  pub works_again : (g h : ℕ → List ℕ) (x : Desk D) → Agree g h x.table → Works view url opening start g x → Works view url opening start h x
  works_again g h x agree works =
      let live = works.live in
      let steps : List Step = x.recorder.trace.steps.items in
      let t : DeskTable = table_after opening steps in
      let agree_here : Agree g h t = subst (Agree g h) works.table agree in
      let sound_here = steps_sound opening steps sound live.legal in
      let c = live.consistent in
      record {
        alive = works.alive;
        table = works.table;
        live = record {
          begun = live.begun;
          legal = live.legal;
          consistent = record {
            records = c.records;
            replays = c.replays;
            safe = record {
              index = c.safe.index;
              kept = λ id there.
                  let held = c.safe.kept id there in
                  let same = agree_here id.file (named_below t id sound_here there) in
                  record { is_body = given_again g h id same held.is_body; apart = held.apart; begins = λ bytes out. held.begins bytes out ∙ same };
            };
          };
          survive = survive_again (view.past x.recorder.disk) start (view.moment x.recorder.disk) url opening steps None g h sound live.legal agree_here live.survive;
          idle = live.idle;
        };
      }

  told_stopped : (bodies : ℕ → List ℕ) (es : List Asked) (t : DeskTable) (fault : DeskFault) → AllStopped fault es → AllTold bodies t es
  told_stopped bodies [] t fault all_stopped = tt
  told_stopped bodies (e ∷ es) t fault all_stopped = (
    subst (λ (v : Verdict). HasBytesIf bodies (told_met t e.asked) (result_by v t e.asked.now e.asked.ask e.answer.bytes)) (sym all_stopped.0) tt,
    told_stopped bodies es (table_met t e.asked e.answer) fault all_stopped.1,
  )

  -- a desk that worked works on, or was stopped; and each job was told with its bytes
  pub record Through (bodies : ℕ → List ℕ) (t : DeskTable) (es : List Asked) (z : Desk D) : Type 0 where
    pub ends_so : Works view url opening start bodies z ⊎ Stops view url opening start bodies z
    pub told : AllTold bodies t es

  through_next : (bodies : ℕ → List ℕ) (e : Asked) (es : List Asked) (x z : Desk D) → view.honest z.recorder.disk → (were : WereAsked view (e ∷ es) x z) → AllGiven bodies x.table (e ∷ es) → Works view url opening start bodies x
      → (AllGiven bodies were.0.table es → Works view url opening start bodies were.0 → Through bodies were.0.table es z) → Through bodies x.table (e ∷ es) z
  through_next bodies e es x z honest were all_given works rest = by e.answer.verdict refl were.1.cause
    where
      mid : Desk D
      mid = were.0

      honest_mid : view.honest mid.recorder.disk
      honest_mid = honest_before view es mid z were.2 honest

      answered : HasBytesIf bodies (told_met x.table e.asked) (answer_met x.table e.asked e.answer)
      answered = were.1.bytes honest_mid url opening start bodies works

      met : (v : Verdict) → e.answer.verdict ≡ v → mid.table ≡ table_by v x.table e.asked.now e.asked.ask
      met v is = were.1.table ∙ ap (λ (w : Verdict). table_by w x.table e.asked.now e.asked.ask) is

      given_by : (v : Verdict) → e.answer.verdict ≡ v → GivenBy v (AreGiven x.table bodies e.asked.ask) (AllGiven bodies (table_by v x.table e.asked.now e.asked.ask) es)
      given_by v is = subst (λ (w : Verdict). GivenBy w (AreGiven x.table bodies e.asked.ask) (AllGiven bodies (table_by w x.table e.asked.now e.asked.ask) es)) is all_given

      on : Through bodies mid.table es z → Through bodies x.table (e ∷ es) z
      on later = record { ends_so = later.ends_so; told = (answered, subst (λ (t : DeskTable). AllTold bodies t es) were.1.table later.told) }

      by : (v : Verdict) → e.answer.verdict ≡ v → HasCause view.honest view.moment view.seen view.faults e.asked.who e.asked.now e.asked.ask v x mid → Through bodies x.table (e ∷ es) z
      by Went is cause =
          let all_of_it = given_by Went is in
          on (rest (subst (λ (t : DeskTable). AllGiven bodies t es) (sym (met Went is)) all_of_it.1) (were.1.working honest_mid url opening start bodies all_of_it.0 works cause.0.dead))
      by (Stopped fault) is (inl was) = let x_ : None ≡ Some fault = sym works.alive ∙ was.dead in absurd (cc)
      by (Stopped fault) is (inr died) =
          let stays = dead_stays view es mid z fault died.dead were.2 in
          record {
            ends_so = inr (subst (Stops view url opening start bodies) (sym stays.0)
                (were.1.stopped honest_mid url opening start bodies (given_by (Stopped fault) is) works (λ alive. let x_ : None ≡ Some fault = sym alive ∙ died.dead in cc)));
            told = (answered, told_stopped bodies es (table_met x.table e.asked e.answer) fault stays.1);
          }
      by Starved is cause =
          let other : ℕ → List ℕ = given_with x.table bodies e.asked.ask in
          let agree : Agree bodies other x.table = λ file early. sym (with_before x.table bodies e.asked.ask file early) in
          let now = were.1.working honest_mid url opening start other (with_given x.table bodies e.asked.ask) (works_again bodies other x agree works) cause.lives.dead in
          let back : Agree other bodies mid.table = subst (Agree other bodies) (sym (met Starved is)) (λ file early. with_before x.table bodies e.asked.ask file early) in
          on (rest (subst (λ (t : DeskTable). AllGiven bodies t es) (sym (met Starved is)) (given_by Starved is)) (works_again other bodies mid back now))

  pub through : (bodies : ℕ → List ℕ) (es : List Asked) (x z : Desk D) → view.honest z.recorder.disk → WereAsked view es x z → AllGiven bodies x.table es → Works view url opening start bodies x → Through bodies x.table es z
  through bodies [] x z honest same all_given works = record { ends_so = inl (subst (Works view url opening start bodies) (sym same) works); told = tt }
  through bodies (e ∷ es) x z honest were all_given works =
      through_next bodies e es x z honest were all_given works (λ given_later works_later. through bodies es were.0 z honest were.2 given_later works_later)

  -- what it leaves on the disk, whether it works or was stopped
  pub record Leaves (bodies : ℕ → List ℕ) (z : Desk D) : Type 0 where
    pub legal : Legal opening (with_under z.recorder.trace.steps.items z.recorder.under)
    pub survive : SurviveAll (view.past z.recorder.disk) start (view.moment z.recorder.disk) url opening z.recorder.trace.steps.items z.recorder.under bodies

  pub leaves : (bodies : ℕ → List ℕ) (z : Desk D) → Works view url opening start bodies z ⊎ Stops view url opening start bodies z → Leaves bodies z
  leaves bodies z (inl works) =
      let idle = works.live.idle in
      let steps : List Step = z.recorder.trace.steps.items in
      record {
        legal = subst (λ (o : Option Step). Legal opening (with_under steps o)) (sym idle) works.live.legal;
        survive = subst (λ (o : Option Step). SurviveAll (view.past z.recorder.disk) start (view.moment z.recorder.disk) url opening steps o bodies) (sym idle) works.live.survive;
      }
  leaves bodies z (inr left) = record { legal = left.legal; survive = left.survive }

-- the requests behind the steps, from those behind the asks

-- the requests behind steps stand behind them whatever their moments are
backs_still : (base : BaseParts) (bodies : ℕ → List ℕ) (t : DeskTable) (steps : List Step) (up : List Happened) → Backs base bodies t (map still steps) up → Backs base bodies t steps up
backs_still base bodies t [] up backs = tt
backs_still base bodies t (s ∷ steps) up (part, rest, split, put, backs) = (part, rest, split, put, backs_still base bodies (after t s.now s.deed) steps rest backs)

told_front : (bodies : ℕ → List ℕ) (es fs : List Asked) (t : DeskTable) → AllTold bodies t (es ++ fs) → AllTold bodies t es
told_front bodies [] fs t told = tt
told_front bodies (e ∷ es) fs t told = (told.0, told_front bodies es fs (table_met t e.asked e.answer) told.1)

pub backs_of : (base : BaseParts) (bodies : ℕ → List ℕ) (es : List Asked) (bytes : List ℕ) (t : DeskTable) (steps : List Step) (under : Option Step) (up : List Happened) → Traces t es steps under → AsksBacked base bytes t es up → AllTold bodies t es
    → JobGiven bodies bytes t.job → Backs base bodies t (with_under steps under) up
backs_of base bodies es bytes t steps None up traces backed told given_ =
    backs_still base bodies t steps up (subst (λ (l : List Step). Backs base bodies t l up) (sym (traces_still es t steps None traces)) (asks_back base bodies bytes t es up backed told given_))
backs_of base bodies es bytes t steps (Some s) up traces backed told given_ =
    let at = stopped_at es t steps s traces in
    let one = at.under in
    let same : map still (steps ++ s ∷ []) ≡ steps_through t one.before ++ step_asked (table_through t one.before) one.stopped ∷ [] =
    map-append still steps (s ∷ []) ∙ ap (λ (l : List Step). l ++ still s ∷ []) at.front ∙ ap (λ (x : Step). steps_through t one.before ++ x ∷ []) one.step in
    backs_still base bodies t (steps ++ s ∷ []) up
    (subst (λ (l : List Step). Backs base bodies t l up) (sym same)
    (stopped_backs base bodies bytes t one.before one.stopped one.since up (subst (λ (es_ : List Asked). AsksBacked base bytes t es_ up) one.split backed)
    (told_front bodies one.before (one.stopped ∷ one.since) t (subst (AllTold bodies t) one.split told)) given_))

-- a table that records make is as a start finds it
replay_restarts : (t : Table) (r : Record) → restarted (replay t r) ≡ replay (restarted t) r
replay_restarts t r = ap (λ (d : DeskTable). d.index) (changed_reopens (started t) (record {
  mark = marks.Plain;
  told = None;
  on_record = Some r;
  waits = None;
  released = [];
  job = None;
  jobs = 0;
  stopping = false;
}))

restarts : (before : Table) (records : List Record) (after_ : Table) → restarted before ≡ before → Replays before records after_ → restarted after_ ≡ after_
restarts before [] after_ same is = ap restarted is ∙ same ∙ sym is
restarts before (r ∷ records) after_ same is = restarts (replay before r) records after_ (replay_restarts before r ∙ ap (λ (t : Table). replay t r) same) is.2

as_reopened : (url : List ℕ) (table : Table) (g image : ℕ → List ℕ) → Recovers url table g image → Recovers url (reopened (started table)).index g image
as_reopened url table g image (inl nothing) = inl (nothing.0, ap restarted nothing.1)
as_reopened url table g image (inr recorded) =
    let one : Recovers url table g image = inr recorded in
    subst (λ (t : Table). Recovers url t g image) (sym (restarts fresh_table recorded.records table refl recorded.replays)) one

-- a run over a desk that started
module _ {D : Type 0} (view : DiskView D) (words : List (List ℕ)) (bytes : List ℕ) (failed : Bool) (o p u v : DeviceLog) (disk_old disk_new : D) (steps : List Step) (under : Option Step) (end : Ending)
    (ran : Started view words bytes failed o p u v disk_old disk_new steps under end) where
  pub started_headline : (s0 s1 : DeviceLog) (heard : List Happened) → Grew s0 s1 heard → bytes ≡ given heard → view.honest disk_new → (base : BaseParts) → ran.base ≡ base → (table : Table) (g : ℕ → List ℕ)
      → AllRecover base.text table g (view.past disk_old (view.moment disk_old)) → Headline s0 s1 u v (view.past disk_new) (view.moment disk_old) (view.moment disk_new) base table g steps under
  started_headline s0 s1 heard gave bytes_are_ honest base base_is table g recover =
      let out = whole_outcome view words bytes failed o p u v disk_old disk_new steps under end ran in
      let made = whole_made view words bytes failed o p u v disk_old disk_new steps under end ran in
      let grew = whole_grew view words bytes failed o p u v disk_old disk_new steps under end ran in
      let traces = whole_traces view words bytes failed o p u v disk_old disk_new steps under end ran in
      let rests = whole_rests view words bytes failed o p u v disk_old disk_new steps under end ran in
      let first : DeskTable = ran.first.table in
      let start : ℕ = view.moment disk_old in
      let honest_last : view.honest ran.last.recorder.disk = subst view.honest ran.disk honest in
      let honest_first = honest_before view made.desk ran.first ran.last grew.desk honest_last in
      let begun : (first ≡ started table) × Works view base.text (started table) start g ran.first =
      subst (λ (b : BaseParts). (first ≡ started table) × Works view b.text (started table) start g ran.first) base_is
      (ran.start.works honest_first table g (subst (λ (b : BaseParts). AllRecover b.text table g (view.past disk_old start)) (sym base_is) recover)) in
      let sound : IsSound (started table) = subst IsSound begun.0 rests.sound in
      let has = has_bodies g made.desk first in
      let works : Works view base.text (started table) start has.bodies ran.first = works_again view base.text (started table) start sound g has.bodies ran.first (λ file early. sym (has.before file early)) begun.1 in
      let end_of_it = through view base.text (started table) start sound has.bodies made.desk ran.first ran.last honest_last grew.desk has.given_all works in
      let left = leaves view base.text (started table) start sound has.bodies ran.last end_of_it.ends_so in
      let legal : Legal (started table) (with_under steps under) =
      subst (λ (l : List Step). Legal (started table) (with_under l under)) (sym ran.steps_are) (subst (λ (x : Option Step). Legal (started table) (with_under ran.last.recorder.trace.steps.items x)) (sym ran.under_is) left.legal) in
      let survive : SurviveAll (view.past disk_new) start (view.moment disk_new) base.text (started table) steps under has.bodies =
      subst (λ (d : D). SurviveAll (view.past d) start (view.moment d) base.text (started table) steps under has.bodies) (sym ran.disk)
      (subst (λ (l : List Step). SurviveAll (view.past ran.last.recorder.disk) start (view.moment ran.last.recorder.disk) base.text (started table) l under has.bodies) (sym ran.steps_are)
      (subst (λ (x : Option Step). SurviveAll (view.past ran.last.recorder.disk) start (view.moment ran.last.recorder.disk) base.text (started table) ran.last.recorder.trace.steps.items x has.bodies) (sym ran.under_is) left.survive)) in
      let free : JobGiven has.bodies [] first.job = subst (λ (t : DeskTable). JobGiven has.bodies [] t.job) (sym begun.0) tt in
      let backs : Backs base has.bodies (started table) (with_under steps under) made.up =
      subst (λ (t : DeskTable). Backs base has.bodies t (with_under steps under) made.up) begun.0
      (backs_of base has.bodies made.desk [] first steps under made.up traces (subst (λ (b : BaseParts). AsksBacked b [] first made.desk made.up) base_is out.backed) end_of_it.told free) in
      record {
        heard = heard;
        gave = gave;
        told = out.told;
        rest = out.rest;
        lines = ap lines_of (sym bytes_are_) ∙ out.lines;
        bodies = has.bodies;
        before = λ file early. has.before file (subst (λ (t : DeskTable). file < t.index.next_file) (sym begun.0) early);
        stores = bytes_are has.bodies out.told (fresh_state ran.base.path first) out.last out.behind_them (closings (with_under steps under)) out.answered out.no_more
            (whole_goes view words bytes failed o p u v disk_old disk_new steps under end ran has.bodies has.given_all);
        events = made.up;
        wire = grew.up;
        always = outlives_each base base.text has.bodies (started table) steps under (view.past disk_new) start (view.moment disk_new) made.up refl legal backs survive;
      }

-- a run without a desk leaves the disk as it was found
quiet_survives : (past : ℕ → ℕ → Doubt) (start now : ℕ) (url : List ℕ) (table : Table) (g : ℕ → List ℕ) → EachImage past start now (Recovers url table g) → SurviveAll past start now url (started table) [] None g
quiet_survives past start now url table g each = λ k image lo hi left. record {
  done = [];
  some_of = inl (record { rest = []; split = refl; later = tt });
  recovers = as_reopened url table g image (each k image lo hi left);
}

module _ {D : Type 0} (view : DiskView D) (words : List (List ℕ)) (o p u v : DeviceLog) (disk_old disk_new : D) (steps : List Step) (under : Option Step) (end : Ending)
    (ran : NotStarted view words o p u v disk_old disk_new steps under end) where
  uncalled_images : (url : List ℕ) (table : Table) (g : ℕ → List ℕ) → disk_new ≡ disk_old → AllRecover url table g (view.past disk_old (view.moment disk_old)) → EachImage (view.past disk_new) (view.moment disk_old) (view.moment disk_new) (Recovers url table g)
  uncalled_images url table g same recover =
      subst (λ (d : D). EachImage (view.past d) (view.moment disk_old) (view.moment d) (Recovers url table g)) (sym same)
      (λ k image lo hi left. let at : k ≡ view.moment disk_old = omega (arith, lo, hi) in recover image (subst (λ (n : ℕ). IsImage (view.past disk_old n) image) at left))

  images : view.honest disk_new → (base : BaseParts) → IsBase words base → (table : Table) (g : ℕ → List ℕ) → AllRecover base.text table g (view.past disk_old (view.moment disk_old)) → (opened : Opened) → Unstarted view words disk_old disk_new opened
      → EachImage (view.past disk_new) (view.moment disk_old) (view.moment disk_new) (Recovers base.text table g)
  images honest base named table g recover opened (uncalled same) = uncalled_images base.text table g same recover
  images honest base named table g recover opened (refused other fault other_named start) =
      let is : other ≡ base = base_unique words other base other_named named in
      subst (λ (b : BaseParts). EachImage (view.past disk_new) (view.moment disk_old) (view.moment disk_new) (Recovers b.text table g)) is
      (start.recover honest table g (subst (λ (b : BaseParts). AllRecover b.text table g (view.past disk_old (view.moment disk_old))) (sym is) recover))

  pub quiet_headline : (s0 s1 : DeviceLog) (heard : List Happened) → Grew s0 s1 heard → heard ≡ [] → view.honest disk_new → (base : BaseParts) → IsBase words base → (table : Table) (g : ℕ → List ℕ)
      → AllRecover base.text table g (view.past disk_old (view.moment disk_old)) → Headline s0 s1 u v (view.past disk_new) (view.moment disk_old) (view.moment disk_new) base table g steps under
  quiet_headline s0 s1 heard gave none honest base named table g recover =
      let survive = quiet_survives (view.past disk_new) (view.moment disk_old) (view.moment disk_new) base.text table g (images honest base named table g recover ran.opened ran.start) in
      let whole : Headline s0 s1 u v (view.past disk_new) (view.moment disk_old) (view.moment disk_new) base table g [] None = record {
        heard = heard;
        gave = gave;
        told = [];
        rest = [];
        lines = ap (λ (l : List Happened). lines_of (given l)) none;
        bodies = g;
        before = λ file early. refl;
        stores = refl;
        events = [];
        wire = subst (λ (w : DeviceLog). Grew u w []) (sym ran.wire) (grows_same is_failure u);
        always = outlives_each base base.text g (started table) [] None (view.past disk_new) (view.moment disk_old) (view.moment disk_new) [] refl tt tt survive;
      } in
      subst (λ (l : List Step). Headline s0 s1 u v (view.past disk_new) (view.moment disk_old) (view.moment disk_new) base table g l under) (sym ran.steps_are)
      (subst (λ (x : Option Step). Headline s0 s1 u v (view.past disk_new) (view.moment disk_old) (view.moment disk_new) base table g [] x) (sym ran.under_is) whole)

module _ {D : Type 0} (view : DiskView D) (words : List (List ℕ)) (s0 s1 o p u v : DeviceLog) (disk_old disk_new : D) (steps : List Step) (under : Option Step) (end : Ending)
    (ran : Ran view words s0 s1 o p u v disk_old disk_new steps under end) where
  pub headline : view.honest disk_new → (base : BaseParts) → IsBase words base → (table : Table) (g : ℕ → List ℕ) → AllRecover base.text table g (view.past disk_old (view.moment disk_old))
      → Headline s0 s1 u v (view.past disk_new) (view.moment disk_old) (view.moment disk_new) base table g steps under
  headline honest base named table g recover = elim ran.does [
    | inl started_ ↦
        started_headline view words (given ran.heard) (any_failed is_failure ran.heard) o p u v disk_old disk_new steps under end started_ s0 s1 ran.heard ran.gave refl honest base
        (base_unique words started_.base base started_.named named) table g recover
    | inr quiet ↦ quiet_headline view words o p u v disk_old disk_new steps under end quiet.1 s0 s1 ran.heard ran.gave quiet.0 honest base named table g recover
  ]
