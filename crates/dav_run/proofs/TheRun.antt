-- A run that no want of memory met is the one run of what it was given, and every run begins as one that has memory.
use Rattle.std.proofs.Common.{◌≡◌, inl, inr, ℕ, List, [], ◌++◌, map, Bool, false, Option, None, Ok, Err, refl, sym, ◌∙◌, ap, subst, append_assoc}
use Rattle.dav_machine.specs.Log.{any_failed}
use Rattle.dav_machine.specs.Machine.{run_with}
use Rattle.dav_machine.proofs.Logs.{grows_same}
use Rattle.dav_edge.specs.Device.{ByteMachine, Happened, DeviceLog, Grew, given, taken, is_failure}
use Rattle.dav_text.specs.Path.{PathParts}
use Rattle.dav_uri.specs.Target.{BaseParts}
use Rattle.dav_index.specs.Tables.{fresh_table}
use Rattle.dav_deeds.specs.DeskTable.{DeskTable, started}
use Rattle.dav_deeds.specs.declared.deed.Step.{Step}
use Rattle.dav_upload.specs.Asking.{Asked, Answered}
use Rattle.dav_upload.specs.Desks.{DiskView}
use Rattle.dav_upload.specs.Drain.{Drained}
use Rattle.dav_upload.specs.declared.did.UploadFault.TheVariants as uploads
use Rattle.dav_run.specs.declared.ended.Status.{Status}
use Rattle.dav_run.specs.declared.ended.Status.TheVariants as status
use Rattle.dav_run.specs.declared.stop.Stop.{Stop}
use Rattle.dav_run.specs.declared.stop.Stop.TheVariants as stops
use Rattle.dav_run.specs.Asked.{still, IsUnderIf}
use Rattle.dav_run.specs.Devices.{Made, Answers, all}
use Rattle.dav_run.specs.Line.{lines_of}
use Rattle.dav_run.specs.Shell.{State, fresh_state, with_table, Shell}
use Rattle.dav_run.specs.Words.{IsBase}
use Rattle.dav_run.specs.Kept.{Told, line_of, asked_by, printed_by, HasSteps}
use Rattle.dav_run.specs.Run.{Ending, no_desk, Ends, Says, words_end, input_end, SaysMemory, SaysFault, SaysLeft, left_of, after_drain, stopping, after_shell, RunsOn, Opened, Runs, refused, unread, unopened, on}
use Rattle.dav_run.specs.Ran.{Started, NotStarted, Ran}
use Rattle.dav_run.specs.Function.{none_left, whole_run, IsTheRun, Carried, BeginsWith, BeginsFed}
use Rattle.dav_run.proofs.Beginning.{led, Only, shell_front, first_counts}
use Rattle.dav_run.proofs.Keeping.{stands_at, whole_made, whole_grew, whole_traces, quiet_made, made_is, quiet_does}
use Rattle.dav_run.proofs.OneRun.{EndRun, EndFed, StopFed, after_shell_fed, base_unique, memory_ends_no, one_run, opened_with, not_opened}
use Rattle.dav_run.proofs.Tracing.{traces_still, traces_under}

-- the end of a run counts no line

ends_counts : (says_so : ByteMachine Status) (st : State) (answers : Answers) (r : EndRun) → Ends says_so st answers r → r.result.done ≡ st.done
ends_counts says_so st answers r d = ap (λ (x : EndRun). x.result.done) d.whole ∙ ap (λ (x : EndRun). x.result.done) d.goes_on

after_drain_counts : (drained : Drained) (st : State) (answers : Answers) (r : EndRun) → after_drain drained st answers r → r.result.done ≡ st.done
after_drain_counts (Ok done) st answers r does = ends_counts (SaysLeft (left_of st.table) st.faulty) st answers r does
after_drain_counts (Err (uploads.Desk fault)) st answers r does = ends_counts (SaysFault fault) st answers r does
after_drain_counts (Err uploads.Memory) st answers r does = ends_counts SaysMemory st answers r does

stopping_counts : (base : BaseParts) (answered : Answered) (st : State) (answers : Answers) (r : EndRun) → stopping base answered st answers r → r.result.done ≡ st.done
stopping_counts base (Ok answer) st answers r d =
    ap (λ (x : EndRun). x.result.done) d.whole ∙ after_drain_counts d.before.result.0 (with_table st d.before.result.1) d.before.left d.after d.goes_on
stopping_counts base (Err fault) st answers r does = ends_counts (SaysFault fault) st answers r does

after_shell_counts : (base : BaseParts) (st : State) (stop : Stop) (answers : Answers) (r : EndRun) → after_shell base st stop answers r → r.result.done ≡ st.done
after_shell_counts base st stops.Output answers r does = ap (λ (x : EndRun). x.result.done) does
after_shell_counts base st stops.Input answers r does = ends_counts (Says input_end status.Input) st answers r does
after_shell_counts base st (stops.Desk fault) answers r does = ends_counts (SaysFault fault) st answers r does
after_shell_counts base st stops.End answers r d =
    ap (λ (x : EndRun). x.result.done) d.whole ∙ stopping_counts base d.before.result.0 (with_table st d.before.result.1) d.before.left d.after d.goes_on

-- the first lines of a run, up to its first want of memory

-- of answers that begin with these no run with memory throughout begins otherwise
abbrev OnlyRun : List (List ℕ) → List ℕ → Bool → Opened → List Happened → List Asked → Type 0
OnlyRun words bytes failed opened early asks =
    (answers : Answers) (other : EndRun) → Runs words bytes failed opened (led early asks answers) other → EndFed other.result → BeginsWith early other.made.out × BeginsWith asks other.made.desk

record RunFront (words : List (List ℕ)) (bytes : List ℕ) (failed : Bool) (opened : Opened) (run : EndRun) : Type 0 where
  first : List Told
  rest : List (List ℕ)
  lines : lines_of bytes ≡ map line_of first ++ rest
  now : State
  current : PathParts
  table : DeskTable
  stands : (base : BaseParts) → IsBase words base → current ≡ base.path
  opens : (t : DeskTable) → opened ≡ Ok t → table ≡ t
  carried : Carried (fresh_state current table) first now
  fed : now.starved ≡ false
  done : now.done ≡ run.result.done
  early : List Happened
  begins : BeginsWith early run.made.out
  asks : BeginsWith (asked_by first) run.made.desk
  output : taken early ≡ printed_by first
  only : OnlyRun words bytes failed opened early (asked_by first)

same_table : (opened : Opened) (t u : DeskTable) → opened ≡ Ok t → opened ≡ Ok u → t ≡ u
same_table opened t u one two = let h : opened_with t ≡ opened_with u = sym one ∙ two in cc

-- what began so goes on so
begins_still : {X : Type 0} (early first made behind : List X) → made ≡ first ++ behind → BeginsWith early first → BeginsWith early made
begins_still {X} early first made behind is begins = (begins.0 ++ behind, is ∙ ap (λ (l : List X). l ++ behind) begins.1 ∙ append_assoc early begins.0 behind)

only_on : (words : List (List ℕ)) (base : BaseParts) (table : DeskTable) (bytes : List ℕ) (failed : Bool) (opened : Opened) (early : List Happened) (asks : List Asked)
    → IsBase words base → opened ≡ Ok table → Only (Shell bytes failed [] (fresh_state base.path table)) early asks → OnlyRun words bytes failed opened early asks
only_on words base table bytes failed opened early asks named is shell answers other (refused none does) fed = absurd (none base named)
only_on words base table bytes failed opened early asks named is shell answers other (unread none fine does) fed =
    memory_ends_no no_desk (led early asks answers) other (BeginsWith early other.made.out × BeginsWith asks other.made.desk) does fed
only_on words base table bytes failed opened early asks named is shell answers other (unopened name fault too also none fine does) fed =
    let h : opened_with table ≡ not_opened fault = sym is ∙ also in absurd (cc)
only_on words base table bytes failed opened early asks named is shell answers other (on name more too also does) fed =
    let after_fed : EndFed does.after.result = sym (ap (λ (r : EndRun). r.result.starved) does.whole) ∙ fed in
    let before_fed : StopFed does.before.result = after_shell_fed name does.before.result.1 does.before.result.0 does.before.left does.after does.goes_on after_fed in
    let begins : Shell bytes failed [] (fresh_state base.path table) (led early asks answers) does.before =
    subst (λ (b : BaseParts). Shell bytes failed [] (fresh_state b.path table) (led early asks answers) does.before) (base_unique words name base too named)
    (subst (λ (t : DeskTable). Shell bytes failed [] (fresh_state name.path t) (led early asks answers) does.before) (same_table opened more table also is) does.begins) in
    let rest = shell answers does.before begins before_fed in (
      begins_still early does.before.made.out other.made.out does.after.made.out (ap (λ (r : EndRun). r.made.out) does.whole) rest.0,
      begins_still asks does.before.made.desk other.made.desk does.after.made.desk (ap (λ (r : EndRun). r.made.desk) does.whole) rest.1,
    )

front_on : (words : List (List ℕ)) (base : BaseParts) (table : DeskTable) (bytes : List ℕ) (failed : Bool) (opened : Opened) (answers : Answers) (run : EndRun)
    → IsBase words base → opened ≡ Ok table → RunsOn base table bytes failed answers run → RunFront words bytes failed opened run
front_on words base table bytes failed opened answers run named is does =
    let front = shell_front bytes failed [] (fresh_state base.path table) answers does.before does.begins refl in record {
      first = front.first;
      rest = front.rest;
      lines = front.lines_are;
      now = front.now;
      current = base.path;
      table = table;
      stands = λ other same. ap (λ (b : BaseParts). b.path) (base_unique words base other named same);
      opens = λ t same. same_table opened table t is same;
      carried = front.carried;
      fed = front.fed;
      done = front.done
          ∙ sym (ap (λ (r : EndRun). r.result.done) does.whole ∙ after_shell_counts base does.before.result.1 does.before.result.0 does.before.left does.after does.goes_on);
      early = front.early;
      begins = begins_still front.early does.before.made.out run.made.out does.after.made.out (ap (λ (r : EndRun). r.made.out) does.whole) front.begins;
      asks = begins_still (asked_by front.first) does.before.made.desk run.made.desk does.after.made.desk (ap (λ (r : EndRun). r.made.desk) does.whole) front.asks;
      output = front.output;
      only = only_on words base table bytes failed opened front.early (asked_by front.first) named is front.only;
    }

-- the table that a desk would start with
record OpensAt (opened : Opened) : Type 0 where
  table : DeskTable
  opens : (t : DeskTable) → opened ≡ Ok t → table ≡ t

opens_at : (opened : Opened) → OpensAt opened
opens_at (Ok table) = record { table = table; opens = λ t is. same_table (Ok table) table t refl is }
opens_at (Err fault) = record { table = started fresh_table; opens = λ t is. let h : not_opened fault ≡ opened_with t = is in absurd (cc) }

-- a run that carries out no line
nothing_front : (words : List (List ℕ)) (bytes : List ℕ) (failed : Bool) (opened : Opened) (run : EndRun) → run.result.done ≡ 0 → RunFront words bytes failed opened run
nothing_front words bytes failed opened run none =
    let at = stands_at words in
    let opening = opens_at opened in record {
      first = [];
      rest = lines_of bytes;
      lines = refl;
      now = fresh_state at.current opening.table;
      current = at.current;
      table = opening.table;
      stands = at.stands;
      opens = opening.opens;
      carried = refl;
      fed = refl;
      done = sym none;
      early = [];
      begins = (run.made.out, refl);
      asks = (run.made.desk, refl);
      output = refl;
      only = λ answers other runs fed. ((other.made.out, refl), (other.made.desk, refl));
    }

run_front : (words : List (List ℕ)) (bytes : List ℕ) (failed : Bool) (opened : Opened) (answers : Answers) (run : EndRun) → Runs words bytes failed opened answers run → RunFront words bytes failed opened run
run_front words bytes failed opened answers run (on base table named is does) = front_on words base table bytes failed opened answers run named is does
run_front words bytes failed opened answers run (refused none does) = nothing_front words bytes failed opened run (ends_counts (Says words_end status.Words) no_desk answers run does)
run_front words bytes failed opened answers run (unread none fine does) = nothing_front words bytes failed opened run (ends_counts SaysMemory no_desk answers run does)
run_front words bytes failed opened answers run (unopened base fault named is none fine does) = nothing_front words bytes failed opened run (ends_counts (SaysFault fault) no_desk answers run does)

-- A run of these words, and what it leaves of the desk.
record TheRun (words : List (List ℕ)) (bytes : List ℕ) (failed : Bool) (o p u v : DeviceLog) (steps : List Step) (under : Option Step) (end : Ending) : Type 0 where
  made : Made
  opened : Opened
  out : Grew o p made.out
  up : Grew u v made.up
  traced : HasSteps opened made.desk steps under
  does : Runs words bytes failed opened (all.answered made none_left) (whole_run end made)

module _ {D : Type 0} (view : DiskView D) (words : List (List ℕ)) (bytes : List ℕ) (failed : Bool) (o p u v : DeviceLog) (disk_old disk_new : D) (steps : List Step) (under : Option Step) (end : Ending)
    (ran : Started view words bytes failed o p u v disk_old disk_new steps under end) where
  abbrev started_made : Made
  started_made = whole_made view words bytes failed o p u v disk_old disk_new steps under end ran

  started_on : RunsOn ran.base ran.first.table bytes failed (all.answered started_made none_left) (whole_run end started_made)
  started_on =
      subst (λ (m : Made). RunsOn ran.base ran.first.table bytes failed (all.answered m none_left) (whole_run end started_made)) (sym (all.joined_nothing ran.does.made))
      (ran.does.same none_left (run_with end all.nothing none_left) refl)

  started_run : TheRun words bytes failed o p u v steps under end
  started_run =
      let grew = whole_grew view words bytes failed o p u v disk_old disk_new steps under end ran in
      let traces = whole_traces view words bytes failed o p u v disk_old disk_new steps under end ran in
      record {
        made = started_made;
        opened = Ok ran.first.table;
        out = grew.out;
        up = grew.up;
        traced = (traces_still started_made.desk ran.first.table steps under traces, traces_under started_made.desk ran.first.table steps under traces);
        does = on ran.base ran.first.table ran.named refl started_on;
      }

no_steps : (opened : Opened) (steps : List Step) (under : Option Step) → steps ≡ [] → under ≡ None → HasSteps opened [] steps under
no_steps (Ok t) steps under none still_none = (ap (map still) none, subst (IsUnderIf t []) (sym still_none) tt)
no_steps (Err fault) steps under none still_none = (refl, none, still_none)

module _ {D : Type 0} (view : DiskView D) (words : List (List ℕ)) (o p u v : DeviceLog) (disk_old disk_new : D) (steps : List Step) (under : Option Step) (end : Ending)
    (ran : NotStarted view words o p u v disk_old disk_new steps under end) where
  abbrev idle_made : Made
  idle_made = quiet_made view words o p u v disk_old disk_new steps under end ran

  idle_runs : Runs words [] false ran.opened (all.answered idle_made none_left) (whole_run end idle_made)
  idle_runs =
      subst (λ (m : Made). Runs words [] false ran.opened (all.answered m none_left) (whole_run end idle_made))
      (sym (all.joined_nothing ran.does.made) ∙ made_is view words o p u v disk_old disk_new steps under end ran) (quiet_does view words o p u v disk_old disk_new steps under end ran)

  idle_run : TheRun words [] false o p u v steps under end
  idle_run = record {
    made = idle_made;
    opened = ran.opened;
    out = ran.does.grew.out;
    up = subst (λ (w : DeviceLog). Grew u w []) (sym ran.wire) (grows_same is_failure u);
    traced = no_steps ran.opened steps under ran.steps_are ran.under_is;
    does = idle_runs;
  }

module _ {D : Type 0} (view : DiskView D) (words : List (List ℕ)) (s0 s1 o p u v : DeviceLog) (disk_old disk_new : D) (steps : List Step) (under : Option Step) (end : Ending)
    (ran : Ran view words s0 s1 o p u v disk_old disk_new steps under end) where
  the_run : TheRun words (given ran.heard) (any_failed is_failure ran.heard) o p u v steps under end
  the_run = elim ran.does [
    | inl begun ↦ started_run view words (given ran.heard) (any_failed is_failure ran.heard) o p u v disk_old disk_new steps under end begun
    | inr idle ↦ subst (λ (h : List Happened). TheRun words (given h) (any_failed is_failure h) o p u v steps under end) (sym idle.0)
        (idle_run view words o p u v disk_old disk_new steps under end idle.1)
  ]

  pub is_the_run : end.starved ≡ false → IsTheRun words s0 s1 o p u v steps under end
  is_the_run fed =
      let r = the_run in record {
        heard = ran.heard;
        made = r.made;
        opened = r.opened;
        gave = ran.gave;
        out = r.out;
        up = r.up;
        traced = r.traced;
        does = r.does;
        only = λ other runs memory. one_run words (given ran.heard) (any_failed is_failure ran.heard) r.opened (all.answered r.made none_left) other (whole_run end r.made) runs r.does memory fed;
      }

  pub begins_fed : BeginsFed words s0 s1 o p u v steps under end
  begins_fed =
      let r = the_run in
      let front = run_front words (given ran.heard) (any_failed is_failure ran.heard) r.opened (all.answered r.made none_left) (whole_run end r.made) r.does in record {
        heard = ran.heard;
        made = r.made;
        opened = r.opened;
        gave = ran.gave;
        out = r.out;
        up = r.up;
        traced = r.traced;
        first = front.first;
        rest = front.rest;
        lines = front.lines;
        count = sym front.done ∙ first_counts front.current front.table front.first front.now front.carried front.fed;
        now = front.now;
        current = front.current;
        table = front.table;
        stands = front.stands;
        opens = front.opens;
        carried = front.carried;
        fed = front.fed;
        early = front.early;
        begins = front.begins;
        asks = front.asks;
        output = front.output;
        only = front.only;
      }
