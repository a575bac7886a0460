-- What the asks of a run add to the trace of its desk.
use Rattle.std.proofs.Common.{◌≡◌, ◌⊎◌, inl, inr, ℕ, Bool, true, false, if◌then◌else◌, List, [], ◌∷◌, ◌++◌, map, Option, Some, None, refl, sym, ◌∙◌, ap, subst, append-nil, append_assoc}
use Rattle.dav_deeds.specs.Answers.{is_idle, kind_told}
use Rattle.dav_deeds.specs.DeskTable.{DeskTable}
use Rattle.dav_deeds.specs.Effects.{told_of}
use Rattle.dav_deeds.specs.Legal.{IsAsk, Legal, deed_of, table_after}
use Rattle.dav_deeds.specs.Sound.{IsSound}
use Rattle.dav_deeds.specs.declared.answer.Told.{Told}
use Rattle.dav_deeds.specs.declared.deed.Step.{Step}
use Rattle.dav_deeds.specs.declared.fault.DeskFault.{DeskFault}
use Rattle.dav_deeds.proofs.AllRows.{after_sound, ask_is_deed}
use Rattle.dav_desk.specs.Ended.{HasCause}
use Rattle.dav_desk.specs.Ends.{IsEnd}
use Rattle.dav_desk.specs.Verdict.{Verdict, Went, Stopped, Starved, step_of, unless_idle, steps_by, table_by}
use Rattle.dav_desk.specs.declared.desk.Desk.{Desk}
use Rattle.dav_upload.specs.Asking.{Asked, table_met, table_through, steps_through}
use Rattle.dav_upload.specs.Desks.{DiskView, WasAsked, WereAsked}
use Rattle.dav_upload.specs.Sent.{step_asked}
use Rattle.dav_upload.proofs.AskSteps.{steps_then}
use Rattle.dav_run.specs.Asked.{still, IsUnder, IsUnderIf, AllSummed}

-- each of them can be asked of a desk
abbrev pub AllAsks : List Asked → Type 0
AllAsks [] = Unit {0}
AllAsks (e ∷ es) = IsAsk e.asked.ask × AllAsks es

pub asks_front : (es fs : List Asked) → AllAsks (es ++ fs) → AllAsks es
asks_front [] fs both = tt
asks_front (e ∷ es) fs both = (both.0, asks_front es fs both.1)

pub asks_behind : (es fs : List Asked) → AllAsks (es ++ fs) → AllAsks fs
asks_behind [] fs both = both
asks_behind (e ∷ es) fs both = asks_behind es fs both.1

-- each of the asks was stopped by this fault
abbrev pub AllStopped : DeskFault → List Asked → Type 0
AllStopped fault [] = Unit {0}
AllStopped fault (e ∷ es) = (e.answer.verdict ≡ Stopped fault) × AllStopped fault es

-- the step under way, if there is one, is that of the ask
abbrev pub IsUnderOf : DeskTable → Asked → Option Step → Type 0
IsUnderOf t e None = Unit {0}
IsUnderOf t e (Some s) = still s ≡ step_asked t e

-- How one ask went, and the steps that it and those behind it add. Behind one that was stopped each one is.
pub data TracesOne (t : DeskTable) (e : Asked) (es : List Asked) (Rest : DeskTable → List Step → Type 0) (steps : List Step) (under : Option Step) : Type 0 where
  went : (moment : ℕ) (rest : List Step) → e.answer.verdict ≡ Went → steps ≡ steps_by Went t e.asked.who e.asked.now e.asked.ask moment ++ rest
      → Rest (table_by Went t e.asked.now e.asked.ask) rest → TracesOne t e es Rest steps under
  stopped : (fault : DeskFault) → e.answer.verdict ≡ Stopped fault → IsEnd fault → AllStopped fault es → steps ≡ [] → IsUnderOf t e under → TracesOne t e es Rest steps under
  starved : e.answer.verdict ≡ Starved → Rest t steps → TracesOne t e es Rest steps under

-- the steps that these asks add where this is the table, and the step that is under way behind them
abbrev pub Traces : DeskTable → List Asked → List Step → Option Step → Type 0
Traces t [] steps under = (steps ≡ []) × (under ≡ None)
Traces t (e ∷ es) steps under = TracesOne t e es (λ u rest. Traces u es rest under) steps under

-- asks that were stopped add nothing
pub stopped_traces : (t : DeskTable) (es : List Asked) (fault : DeskFault) → IsEnd fault → AllStopped fault es → Traces t es [] None
stopped_traces t [] fault ends all = (refl, refl)
stopped_traces t (e ∷ es) fault ends all = stopped fault all.0 ends all.1 refl tt

-- a desk that is dead stays as it is
pub dead_stays : {D : Type 0} (view : DiskView D) (es : List Asked) (x z : Desk D) (fault : DeskFault) → x.recorder.dead ≡ Some fault → WereAsked view es x z → (z ≡ x) × AllStopped fault es
dead_stays {D} view [] x z fault dead same = (same, tt)
dead_stays {D} view (e ∷ es) x z fault dead were = by (λ dead_now. dead_stays view es were.0 z fault dead_now were.2) e.answer.verdict refl were.1.cause
  where
    alive : x.recorder.dead ≡ None → (z ≡ x) × AllStopped fault (e ∷ es)
    alive none = let no : None ≡ Some fault = sym none ∙ dead in absurd (cc)

    by : (were.0.recorder.dead ≡ Some fault → (z ≡ were.0) × AllStopped fault es) → (v : Verdict) → e.answer.verdict ≡ v
        → HasCause view.honest view.moment view.seen view.faults e.asked.who e.asked.now e.asked.ask v x were.0 → (z ≡ x) × AllStopped fault (e ∷ es)
    by later Went is cause = alive cause.0.alive
    by later (Stopped other) is (inl was) =
        let both : Some other ≡ Some fault = sym was.dead ∙ dead in
        let same : other ≡ fault = cc in
        let rest = later (ap (λ (d : Desk D). d.recorder.dead) was.same ∙ dead) in
        (rest.0 ∙ was.same, (is ∙ ap Stopped same, rest.1))
    by later (Stopped other) is (inr died) = alive died.alive
    by later Starved is cause = alive cause.lives.alive

-- a disk that is honest behind the asks was so before them
pub honest_before : {D : Type 0} (view : DiskView D) (es : List Asked) (x z : Desk D) → WereAsked view es x z → view.honest z.recorder.disk → view.honest x.recorder.disk
honest_before {D} view [] x z same honest = subst (λ (d : Desk D). view.honest d.recorder.disk) same honest
honest_before {D} view (e ∷ es) x z were honest = were.1.keeps (honest_before view es were.0 z were.2 honest)

-- what the asks of a desk made of its trace
pub record HasTraced {D : Type 0} (es : List Asked) (x z : Desk D) : Type 0 where
  pub steps : List Step
  pub trace : z.recorder.trace.steps.items ≡ x.recorder.trace.steps.items ++ steps
  pub traces : Traces x.table es steps z.recorder.under

under_then : (t : DeskTable) (e : Asked) (under : Option Step) (moment : ℕ) → (under ≡ None) ⊎ (under ≡ Some (step_of t e.asked.who e.asked.now e.asked.ask moment)) → IsUnderOf t e under
under_then t e under moment (inl none) = subst (IsUnderOf t e) (sym none) tt
under_then t e under moment (inr some) = subst (IsUnderOf t e) (sym some) refl

pub has_traced : {D : Type 0} (view : DiskView D) (es : List Asked) (x z : Desk D) → x.recorder.dead ≡ None → x.recorder.under ≡ None → WereAsked view es x z → HasTraced es x z
has_traced {D} view [] x z alive none same =
    record {
      steps = [];
      trace = ap (λ (d : Desk D). d.recorder.trace.steps.items) same ∙ sym (append-nil x.recorder.trace.steps.items);
      traces = (refl, ap (λ (d : Desk D). d.recorder.under) same ∙ none);
    }
has_traced {D} view (e ∷ es) x z alive none were = by (λ alive_now none_now. has_traced view es were.0 z alive_now none_now were.2) e.answer.verdict refl were.1.cause
  where
    mid : Desk D
    mid = were.0

    was : WasAsked view e x mid
    was = were.1

    added : (v : Verdict) → e.answer.verdict ≡ v
        → mid.recorder.trace.steps.items ≡ x.recorder.trace.steps.items ++ steps_by v x.table e.asked.who e.asked.now e.asked.ask (view.moment mid.recorder.disk)
    added v is = was.steps ∙ ap (λ (w : Verdict). x.recorder.trace.steps.items ++ steps_by w x.table e.asked.who e.asked.now e.asked.ask (view.moment mid.recorder.disk)) is

    table : (v : Verdict) → e.answer.verdict ≡ v → mid.table ≡ table_by v x.table e.asked.now e.asked.ask
    table v is = was.table ∙ ap (λ (w : Verdict). table_by w x.table e.asked.now e.asked.ask) is

    by : (mid.recorder.dead ≡ None → mid.recorder.under ≡ None → HasTraced es mid z) → (v : Verdict) → e.answer.verdict ≡ v
        → HasCause view.honest view.moment view.seen view.faults e.asked.who e.asked.now e.asked.ask v x mid → HasTraced (e ∷ es) x z
    by rest Went is cause =
        let later = rest cause.0.dead (cause.0.under ∙ none) in
        let new : List Step = steps_by Went x.table e.asked.who e.asked.now e.asked.ask (view.moment mid.recorder.disk) in
        record {
          steps = new ++ later.steps;
          trace = later.trace ∙ ap (λ (l : List Step). l ++ later.steps) (added Went is) ∙ append_assoc x.recorder.trace.steps.items new later.steps;
          traces = went (view.moment mid.recorder.disk) later.steps is refl (subst (λ (t : DeskTable). Traces t es later.steps z.recorder.under) (table Went is) later.traces);
        }
    by rest (Stopped fault) is (inl dead) = let no : None ≡ Some fault = sym alive ∙ dead.dead in absurd (cc)
    by rest (Stopped fault) is (inr died) =
        let stays = dead_stays view es mid z fault died.dead were.2 in
        record {
          steps = [];
          trace = ap (λ (d : Desk D). d.recorder.trace.steps.items) stays.0 ∙ added (Stopped fault) is;
          traces = stopped fault is died.ends stays.1 refl
              (subst (λ (d : Desk D). IsUnderOf x.table e d.recorder.under) (sym stays.0) (under_then x.table e mid.recorder.under (view.moment mid.recorder.disk) (elim died.under [
                | inl same ↦ inl (same ∙ none)
                | inr begun ↦ inr begun
              ])));
        }
    by rest Starved is cause =
        let later = rest cause.lives.dead (cause.lives.under ∙ none) in
        record {
          steps = later.steps;
          trace = later.trace ∙ ap (λ (l : List Step). l ++ later.steps) (added Starved is ∙ append-nil x.recorder.trace.steps.items);
          traces = starved is (subst (λ (t : DeskTable). Traces t es later.steps z.recorder.under) (table Starved is) later.traces);
        }

pub all_asks : {D : Type 0} (view : DiskView D) (es : List Asked) (x z : Desk D) → WereAsked view es x z → AllAsks es
all_asks {D} view [] x z same = tt
all_asks {D} view (e ∷ es) x z were = (were.1.is_ask, all_asks view es were.0 z were.2)

pub all_summed : {D : Type 0} (view : DiskView D) (es : List Asked) (x z : Desk D) → WereAsked view es x z → AllSummed x.table es
all_summed {D} view [] x z same = tt
all_summed {D} view (e ∷ es) x z were = (were.1.sums, subst (λ (t : DeskTable). AllSummed t es) were.1.table (all_summed view es were.0 z were.2))

pub all_met : {D : Type 0} (view : DiskView D) (es : List Asked) (x z : Desk D) → WereAsked view es x z → z.table ≡ table_through x.table es
all_met {D} view [] x z same = ap (λ (d : Desk D). d.table) same
all_met {D} view (e ∷ es) x z were = all_met view es were.0 z were.2 ∙ ap (λ (t : DeskTable). table_through t es) were.1.table

-- the steps are those of a desk
pub traces_legal : (es : List Asked) (t : DeskTable) (steps : List Step) (under : Option Step) → AllAsks es → Traces t es steps under → Legal t steps
traces_legal [] t steps under asks traces = subst (Legal t) (sym traces.0) tt
traces_legal (e ∷ es) t steps under asks (went moment rest is steps_are later) =
    subst (Legal t) (sym steps_are)
    (steps_then Legal t e.asked.who e.asked.now e.asked.ask moment rest
    (λ stands behind. (record { deed = ask_is_deed t e.asked.ask asks.0; mark = refl; told = refl; stands = stands }, behind))
    (traces_legal es (table_by Went t e.asked.now e.asked.ask) rest under asks.1 later))
traces_legal (e ∷ es) t steps under asks (stopped fault is ends all none begun) = subst (Legal t) (sym none) tt
traces_legal (e ∷ es) t steps under asks (starved is later) = traces_legal es t steps under asks.1 later

pub stopped_table : (es : List Asked) (t : DeskTable) (fault : DeskFault) → AllStopped fault es → table_through t es ≡ t
stopped_table [] t fault all = refl
stopped_table (e ∷ es) t fault all = stopped_table es (table_met t e.asked e.answer) fault all.1 ∙ ap (λ (v : Verdict). table_by v t e.asked.now e.asked.ask) all.0

stopped_steps : (es : List Asked) (t : DeskTable) (fault : DeskFault) → AllStopped fault es → steps_through t es ≡ []
stopped_steps [] t fault all = refl
stopped_steps (e ∷ es) t fault all =
    ap (λ (v : Verdict). steps_by v t e.asked.who e.asked.now e.asked.ask 0 ++ steps_through (table_met t e.asked e.answer) es) all.0
    ∙ stopped_steps es (table_met t e.asked e.answer) fault all.1

-- the table of the asks is the table of the steps
pub traces_table : (es : List Asked) (t : DeskTable) (steps : List Step) (under : Option Step) → Traces t es steps under → table_after t steps ≡ table_through t es
traces_table [] t steps under traces = ap (table_after t) traces.0
traces_table (e ∷ es) t steps under (went moment rest is steps_are later) =
    ap (table_after t) steps_are
    ∙ steps_then (λ u all. table_after u all ≡ table_after (table_by Went t e.asked.now e.asked.ask) rest) t e.asked.who e.asked.now e.asked.ask moment rest (λ stands behind. refl) refl
    ∙ traces_table es (table_by Went t e.asked.now e.asked.ask) rest under later
    ∙ ap (λ (v : Verdict). table_through (table_by v t e.asked.now e.asked.ask) es) (sym is)
traces_table (e ∷ es) t steps under (stopped fault is ends all none begun) =
    ap (table_after t) none ∙ sym (stopped_table es t fault all) ∙ ap (λ (v : Verdict). table_through (table_by v t e.asked.now e.asked.ask) es) (sym is)
traces_table (e ∷ es) t steps under (starved is later) =
    traces_table es t steps under later ∙ ap (λ (v : Verdict). table_through (table_by v t e.asked.now e.asked.ask) es) (sym is)

still_one : (told : Option Told) (s : Step) (rest : List Step) → map still (unless_idle told s ++ rest) ≡ unless_idle told (still s) ++ map still rest
still_one told s rest = by (is_idle (kind_told told))
  where
    by : (b : Bool) → map still ((if b then [] else s ∷ []) ++ rest) ≡ (if b then [] else still s ∷ []) ++ map still rest
    by true = refl
    by false = refl

-- but for their moments, the steps are those of the asks
pub traces_still : (es : List Asked) (t : DeskTable) (steps : List Step) (under : Option Step) → Traces t es steps under → map still steps ≡ steps_through t es
traces_still [] t steps under traces = ap (map still) traces.0
traces_still (e ∷ es) t steps under (went moment rest is steps_are later) =
    let u : DeskTable = table_by Went t e.asked.now e.asked.ask in
    ap (map still) steps_are
    ∙ still_one (told_of t e.asked.now (deed_of t e.asked.ask)) (step_of t e.asked.who e.asked.now e.asked.ask moment) rest
    ∙ ap (λ (l : List Step). steps_by Went t e.asked.who e.asked.now e.asked.ask 0 ++ l) (traces_still es u rest under later)
    ∙ ap (λ (v : Verdict). steps_by v t e.asked.who e.asked.now e.asked.ask 0 ++ steps_through (table_by v t e.asked.now e.asked.ask) es) (sym is)
traces_still (e ∷ es) t steps under (stopped fault is ends all none begun) =
    ap (map still) none ∙ sym (stopped_steps es t fault all)
    ∙ ap (λ (v : Verdict). steps_by v t e.asked.who e.asked.now e.asked.ask 0 ++ steps_through (table_by v t e.asked.now e.asked.ask) es) (sym is)
traces_still (e ∷ es) t steps under (starved is later) =
    traces_still es t steps under later
    ∙ ap (λ (v : Verdict). steps_by v t e.asked.who e.asked.now e.asked.ask 0 ++ steps_through (table_by v t e.asked.now e.asked.ask) es) (sym is)

-- Where a step is under way: it is that of an ask that was stopped, and the steps are those of the asks before it.
pub record StoppedAt (t : DeskTable) (es : List Asked) (steps : List Step) (s : Step) : Type 0 where
  pub under : IsUnder t es s
  pub front : map still steps ≡ steps_through t under.before

-- with an ask more in front that went, or met want of memory
at_later : (t : DeskTable) (e : Asked) (es : List Asked) (steps rest : List Step) (s : Step) (v : Verdict) → e.answer.verdict ≡ v → map still steps ≡ steps_by v t e.asked.who e.asked.now e.asked.ask 0 ++ map still rest
    → StoppedAt (table_by v t e.asked.now e.asked.ask) es rest s → StoppedAt t (e ∷ es) steps s
at_later t e es steps rest s v is added at =
    let one = at.under in
    record {
      under = record {
        before = e ∷ one.before;
        stopped = one.stopped;
        since = one.since;
        split = ap (λ (l : List Asked). e ∷ l) one.split;
        fault = one.fault;
        verdict = one.verdict;
        step = one.step ∙ ap (λ (w : Verdict). step_of (table_through (table_by w t e.asked.now e.asked.ask) one.before) one.stopped.asked.who one.stopped.asked.now one.stopped.asked.ask 0) (sym is);
      };
      front = added
          ∙ ap (λ (l : List Step). steps_by v t e.asked.who e.asked.now e.asked.ask 0 ++ l) at.front
          ∙ ap (λ (w : Verdict). steps_by w t e.asked.who e.asked.now e.asked.ask 0 ++ steps_through (table_by w t e.asked.now e.asked.ask) one.before) (sym is);
    }

pub stopped_at : (es : List Asked) (t : DeskTable) (steps : List Step) (s : Step) → Traces t es steps (Some s) → StoppedAt t es steps s
stopped_at [] t steps s traces = let no : Some s ≡ None = traces.1 in absurd (cc)
stopped_at (e ∷ es) t steps s (went moment rest is steps_are later) =
    at_later t e es steps rest s Went is
    (ap (map still) steps_are ∙ still_one (told_of t e.asked.now (deed_of t e.asked.ask)) (step_of t e.asked.who e.asked.now e.asked.ask moment) rest)
    (stopped_at es (table_by Went t e.asked.now e.asked.ask) rest s later)
stopped_at (e ∷ es) t steps s (stopped fault is ends all none begun) = record {
  under = record { before = []; stopped = e; since = es; split = refl; fault = fault; verdict = is; step = begun };
  front = ap (map still) none;
}
stopped_at (e ∷ es) t steps s (starved is later) = at_later t e es steps steps s Starved is refl (stopped_at es t steps s later)

pub traces_under : (es : List Asked) (t : DeskTable) (steps : List Step) (under : Option Step) → Traces t es steps under → IsUnderIf t es under
traces_under es t steps None traces = tt
traces_under es t steps (Some s) traces = (stopped_at es t steps s traces).under

-- asks that are made of a table within its bounds leave it so
pub asks_sound : (es : List Asked) (t : DeskTable) → AllAsks es → IsSound t → IsSound (table_through t es)
asks_sound [] t asks sound = sound
asks_sound (e ∷ es) t asks sound = asks_sound es (table_met t e.asked e.answer) asks.1 (ask_sound e.answer.verdict)
  where
    ask_sound : (v : Verdict) → IsSound (table_by v t e.asked.now e.asked.ask)
    ask_sound Went = after_sound t sound e.asked.now (deed_of t e.asked.ask) (ask_is_deed t e.asked.ask asks.0)
    ask_sound (Stopped fault) = sound
    ask_sound Starved = sound
