-- The last line of a run, and how the parts of a run join.
use Rattle.std.proofs.Common.{◌≡◌, inl, inr, ℕ, List, [], ◌∷◌, Bool, true, false, if◌then◌else◌, Option, Ok, Err, None, refl, sym, ◌∙◌, ap, subst}
use Rattle.dav_machine.specs.Log.{any_failed}
use Rattle.dav_machine.specs.Devices.{one_device}
use Rattle.dav_machine.specs.Machine.{give, and_then, Does}
use Rattle.dav_machine.specs.Part.{lift}
use Rattle.dav_machine.proofs.Logs.{any_failed-append, grows_same}
use Rattle.dav_machine.proofs.Reaching.{reaches_next, as_reaches, does_lifted}
use Rattle.dav_edge.specs.Device.{Happened, happened, Receive, Gives, DeviceLog, Grew, ByteMachine, given, is_failure}
use Rattle.dav_edge.specs.Whole.{DoesOn, Sends}
use Rattle.dav_uri.specs.Target.{BaseParts}
use Rattle.dav_deeds.specs.DeskTable.{DeskTable}
use Rattle.dav_deeds.specs.declared.deed.Step.{Step}
use Rattle.dav_deeds.specs.declared.fault.DeskFault.{DeskFault}
use Rattle.dav_deeds.specs.declared.fault.DeskFault.TheVariants as faults
use Rattle.dav_deeds.specs.declared.answer.Answer.{Answer as DeskAnswer}
use Rattle.dav_desk.specs.declared.desk.Desk.{Desk}
use Rattle.dav_upload.specs.Asking.{Answered, Asks}
use Rattle.dav_upload.specs.Desks.{DiskView}
use Rattle.dav_upload.specs.Drain.{Drained, Drains}
use Rattle.dav_upload.specs.Pair.{pair, PairGrew}
use Rattle.dav_upload.specs.declared.did.UploadFault.{UploadFault}
use Rattle.dav_run.specs.Answering.{DoesDesk}
use Rattle.dav_run.specs.declared.cause.Cause.{Cause}
use Rattle.dav_run.specs.Causes.{cause_of}
use Rattle.dav_run.specs.Carrying.{HeardEnd, ReadsAll}
use Rattle.dav_run.specs.Codes.{IsBehind, IsCutShort}
use Rattle.dav_run.specs.Devices.{all, AllGrew, the_sink, the_desk, the_pair}
use Rattle.dav_run.specs.Kept.{EndHeard}
use Rattle.dav_run.specs.Opening.{HasStarted, HasNotStarted}
use Rattle.dav_run.specs.Ran.{SinkGrew, RanOn, Unstarted, uncalled, refused as start_refused, Ran}
use Rattle.dav_run.specs.Run.{Ending, ending, no_desk, Ends, Says, words_end, SaysMemory, SaysCache, tells, memory, cache_end, closing_status, SaysLeft, tells as left_tells, memory as left_memory, SaysCause, SaysFault, after_drain, stop_ask, stopping, after_shell, RunsFrom, RunsOn, Opened, Runs, refused, unread, unopened}
use Rattle.dav_run.specs.Shell.{State, with_table, fresh_state, Shell}
use Rattle.dav_run.specs.Words.{IsBase, HasNoBase}
use Rattle.dav_run.specs.declared.ended.Status.{Status}
use Rattle.dav_run.specs.declared.ended.Status.TheVariants as status
use Rattle.dav_run.specs.declared.stop.Stop.{Stop}
use Rattle.dav_run.specs.declared.stop.Stop.TheVariants as stops
use Rattle.dav_run.proofs.Joining.{all_then, all_same, on_sink, on_desk, on_pair}

-- a line was put on the sink, whether it took it or not
pub says : (o p : DeviceLog) (line text : List ℕ) (s : Status) (went : Bool) → text ≡ line → DoesOn o p (Sends text) went → DoesOn o p (Says line s) s
says o p line text s went is one =
    reaches_next one_device (Grew o p) (Sends line) went (λ w. give one_device s) (subst (λ (l : List ℕ). DoesOn o p (Sends l) went) is one)

pub says_cache : (o p : DeviceLog) (text : List ℕ) (fault : DeskFault) (went : Bool) → text ≡ cache_end fault → DoesOn o p (Sends text) went → DoesOn o p (SaysCache fault) (status.Cache fault)
says_cache o p text fault went is one =
    as_reaches one_device (Grew o p) (Says (cache_end fault) (status.Cache fault)) (give one_device (status.Cache fault)) (SaysCache fault) (λ answers run does. tells does)
    (says o p (cache_end fault) text (status.Cache fault) went is one)

pub cache_starved : (o p : DeviceLog) (fault : DeskFault) (s : Status) → DoesOn o p SaysMemory s → DoesOn o p (SaysCache fault) s
cache_starved o p fault s one = as_reaches one_device (Grew o p) SaysMemory (give one_device s) (SaysCache fault) (λ answers run does. memory does) one

-- a last line by what a fault means
pub says_cause : (o p : DeviceLog) (cause : Cause) (fault : DeskFault) (s : Status) → cause ≡ cause_of fault → DoesOn o p (SaysCause cause) s → DoesOn o p (SaysFault fault) s
says_cause o p cause fault s is one = subst (λ (c : Cause). DoesOn o p (SaysCause c) s) is one

pub says_as : (o p : DeviceLog) (machine : ByteMachine Status) (s t : Status) → s ≡ t → DoesOn o p machine t → DoesOn o p machine s
says_as o p machine s t is one = subst (λ (x : Status). DoesOn o p machine x) (sym is) one

pub left_as : (o p : DeviceLog) (left text : List ℕ) (faulty : Bool) (s : Status) → text ≡ left → DoesOn o p (SaysLeft text faulty) s → DoesOn o p (SaysLeft left faulty) s
left_as o p left text faulty s is one = subst (λ (l : List ℕ). DoesOn o p (SaysLeft l faulty) s) is one

-- what is left is told, or there was no memory for it
pub left_starved : (o p : DeviceLog) (left : List ℕ) (faulty : Bool) (s : Status) → DoesOn o p SaysMemory s → DoesOn o p (SaysLeft left faulty) s
left_starved o p left faulty s one = as_reaches one_device (Grew o p) SaysMemory (give one_device s) (SaysLeft left faulty) (λ answers run does. left_memory does) one

pub left_told : (o p : DeviceLog) (left text : List ℕ) (faulty went : Bool) → text ≡ left → DoesOn o p (Sends text) went → DoesOn o p (SaysLeft left faulty) (if went then closing_status faulty else status.Output)
left_told o p left text faulty went is one =
    let last : Bool → Status = λ w. if w then closing_status faulty else status.Output in
    as_reaches one_device (Grew o p) (and_then one_device (Sends left) (λ w. give one_device (last w))) (give one_device (last went)) (SaysLeft left faulty) (λ answers run does. left_tells does)
    (reaches_next one_device (Grew o p) (Sends left) went (λ w. give one_device (last w)) (subst (λ (l : List ℕ). DoesOn o p (Sends l) went) is one))

pub closing_behind : (faulty : Bool) → IsBehind (closing_status faulty)
closing_behind true = tt
closing_behind false = tt

-- the end was heard, and none failed
pub end_heard : (heard : List Happened) → HeardEnd heard → any_failed is_failure heard ≡ false
end_heard heard ended = ap (any_failed is_failure) ended.last ∙ any_failed-append is_failure ended.earlier (happened (Receive ended.room) (Gives []) ∷ []) ended.fine

pub heard_behind : (s : Status) (heard : List Happened) → IsBehind s → HeardEnd heard → EndHeard s heard
heard_behind status.Done heard behind ended = ended
heard_behind status.Faults heard behind ended = ended
heard_behind status.Words heard behind ended = absurd behind
heard_behind status.Disk heard behind ended = end_heard heard ended
heard_behind status.Input heard behind ended = absurd behind
heard_behind status.Output heard behind ended = end_heard heard ended
heard_behind (status.Cache fault) heard behind ended = end_heard heard ended
heard_behind status.Memory heard behind ended = end_heard heard ended

pub heard_short : (s : Status) (heard : List Happened) → IsCutShort s → any_failed is_failure heard ≡ false → EndHeard s heard
heard_short status.Done heard short fine = absurd short
heard_short status.Faults heard short fine = absurd short
heard_short status.Words heard short fine = absurd short
heard_short status.Disk heard short fine = fine
heard_short status.Input heard short fine = absurd short
heard_short status.Output heard short fine = absurd short
heard_short (status.Cache fault) heard short fine = fine
heard_short status.Memory heard short fine = fine

pub short_behind : (s : Status) → IsCutShort s → IsBehind s
short_behind status.Done short = absurd short
short_behind status.Faults short = absurd short
short_behind status.Words short = absurd short
short_behind status.Disk short = tt
short_behind status.Input short = absurd short
short_behind status.Output short = absurd short
short_behind (status.Cache fault) short = tt
short_behind status.Memory short = tt

module _ {D : Type 0} (view : DiskView D) where
  -- the run ends as the sink was told
  pub ends : (o p u : DeviceLog) (x : Desk D) (says_so : ByteMachine Status) (st : State) (s : Status) → DoesOn o p says_so s → Does all (AllGrew view o p u u x x) (Ends says_so st) (ending s st)
  ends o p u x says_so st s one = reaches_next all (AllGrew view o p u u x x) (lift the_sink says_so) s (λ t. give all (ending t st)) (on_sink view o p u x says_so s one)

  -- the desk was told that the input ended, and what follows is by its answer
  pub stop_next : (o p u v : DeviceLog) (x y z : Desk D) (base : BaseParts) (st : State) (answered : Answered) (end : Ending) → st.table ≡ x.table → DoesDesk view x y (Asks x.table stop_ask) (answered, y.table)
      → Does all (AllGrew view o p u v y z) (stopping base answered (with_table st y.table)) end → Does all (AllGrew view o p u v x z) (after_shell base st stops.End) end
  stop_next o p u v x y z base st answered end table one two =
      all_then view o o p u u v x y z (after_shell base st stops.End) (stopping base answered (with_table st y.table)) (give all end)
      (reaches_next all (AllGrew view o o u u x y) (lift the_desk (Asks st.table stop_ask)) (answered, y.table) (λ r. stopping base r.0 (with_table st r.1))
      (on_desk view o u x y (Asks st.table stop_ask) (answered, y.table) (subst (λ (t : DeskTable). DoesDesk view x y (Asks t stop_ask) (answered, y.table)) (sym table) one)))
      two

  -- the drain, and what follows it
  pub drain_next : (o p u v : DeviceLog) (y z : Desk D) (base : BaseParts) (answer : DeskAnswer) (st : State) (drained : Drained) (end : Ending) → st.table ≡ y.table
      → Does pair (PairGrew view u v y z) (Drains base 0 y.table) (drained, z.table) → Does all (AllGrew view o p v v z z) (after_drain drained (with_table st z.table)) end
      → Does all (AllGrew view o p u v y z) (stopping base (Ok answer) st) end
  drain_next o p u v y z base answer st drained end table one two =
      all_then view o o p u v v y z z (stopping base (Ok answer) st) (after_drain drained (with_table st z.table)) (give all end)
      (reaches_next all (AllGrew view o o u v y z) (lift the_pair (Drains base 0 st.table)) (drained, z.table) (λ r. after_drain r.0 (with_table st r.1))
      (on_pair view o u v y z (Drains base 0 st.table) (drained, z.table) (subst (λ (t : DeskTable). Does pair (PairGrew view u v y z) (Drains base 0 t) (drained, z.table)) (sym table) one)))
      two

  -- the shell stopped, and the run came to its end behind it
  pub ran_from : (s0 s1 o p q u v : DeviceLog) (x y z : Desk D) (base : BaseParts) (before st : State) (stop : Stop) (end : Ending) → (reads : ReadsAll view s0 s1 o p x y before st stop)
      → Does all (AllGrew view p q u v y z) (after_shell base st stop) end → EndHeard end.status reads.heard → RanOn view base s0 s1 o q u v x z before end
  ran_from s0 s1 o p q u v x y z base before st stop end reads then_ ended =
      let bytes = given reads.heard in
      let failed = any_failed is_failure reads.heard in
      record {
        heard = reads.heard;
        gave = reads.gave;
        ended = ended;
        does = all_then view o p q u u v x y z (RunsFrom base bytes failed before) (after_shell base st stop) (give all end)
            (reaches_next all (AllGrew view o p u u x y) (Shell bytes failed [] before) (stop, st) (λ r. after_shell base r.1 r.0) (reads.does u))
            then_;
      }

  pub ends_output : (o u : DeviceLog) (x : Desk D) (base : BaseParts) (st : State) → Does all (AllGrew view o o u u x x) (after_shell base st stops.Output) (ending status.Output st)
  ends_output o u x base st = all_same view o u x (give all (ending status.Output st))

  -- the run over a desk that started
  pub ran_started : (words : List (List ℕ)) (s0 s1 o p u v : DeviceLog) (disk now : D) (x z : Desk D) (base : BaseParts) (before : State) (steps : List Step) (end other : Ending) → IsBase words base
      → HasStarted view base.text disk x → before ≡ fresh_state base.path x.table → RanOn view base s0 s1 o p u v x z before end → other ≡ end → now ≡ z.recorder.disk → steps ≡ z.recorder.trace.steps.items
      → Ran view words s0 s1 o p u v disk now steps z.recorder.under other
  ran_started words s0 s1 o p u v disk now x z base before steps end other named start fresh on same disk_is steps_are = record {
    heard = on.heard;
    gave = on.gave;
    ended = subst (λ (e : Ending). EndHeard e.status on.heard) (sym same) on.ended;
    does = inl (record {
      base = base;
      named = named;
      first = x;
      last = z;
      start = start;
      disk = disk_is;
      steps_are = steps_are;
      under_is = refl;
      does = subst (λ (e : Ending). Does all (AllGrew view o p u v x z) (RunsOn base x.table (given on.heard) (any_failed is_failure on.heard)) e) (sym same)
          (subst (λ (st : State). Does all (AllGrew view o p u v x z) (RunsFrom base (given on.heard) (any_failed is_failure on.heard) st) end) fresh on.does);
    });
  }

  -- a drain that gave up
  pub drained_as : (u v : DeviceLog) (y z : Desk D) (base : BaseParts) (t : DeskTable) (fault other : UploadFault) → fault ≡ other → Does pair (PairGrew view u v y z) (Drains base 0 y.table) (Err fault, t)
      → Does pair (PairGrew view u v y z) (Drains base 0 y.table) (Err other, t)
  drained_as u v y z base t fault other is one = subst (λ (f : UploadFault). Does pair (PairGrew view u v y z) (Drains base 0 y.table) (Err f, t)) is one

  pub under_as : (words : List (List ℕ)) (s0 s1 o p u v : DeviceLog) (disk now : D) (steps : List Step) (under other : Option Step) (end : Ending) → under ≡ other
      → Ran view words s0 s1 o p u v disk now steps other end → Ran view words s0 s1 o p u v disk now steps under end
  under_as words s0 s1 o p u v disk now steps under other end is one = subst (λ (step : Option Step). Ran view words s0 s1 o p u v disk now steps step end) (sym is) one

-- nothing but the sink was called
sink_only : (o p : DeviceLog) (says_so : ByteMachine Status) (st : State) (s : Status) → DoesOn o p says_so s → Does all (SinkGrew o p) (Ends says_so st) (ending s st)
sink_only o p says_so st s one =
    reaches_next all (SinkGrew o p) (lift the_sink says_so) s (λ t. give all (ending t st))
    (does_lifted one_device all the_sink (Grew o p) (SinkGrew o p) says_so s (λ a grew. record { out = grew; up = refl; desk = refl }) one)

module _ {D : Type 0} (view : DiskView D) where
  -- no desk was started
  unstarted : (words : List (List ℕ)) (s o p u : DeviceLog) (disk now : D) (steps : List Step) (opened : Opened) (end : Ending) → Unstarted view words disk now opened → steps ≡ []
      → Does all (SinkGrew o p) (Runs words [] false opened) end → EndHeard end.status [] → Ran view words s s o p u u disk now steps None end
  unstarted words s o p u disk now steps opened end start none does ended = record {
    heard = [];
    gave = grows_same is_failure s;
    ended = ended;
    does = inr (refl, record { opened = opened; start = start; steps_are = none; under_is = refl; wire = refl; does = does });
  }

  as_end : (words : List (List ℕ)) (s o p u : DeviceLog) (disk now : D) (steps : List Step) (end other : Ending) → other ≡ end → Ran view words s s o p u u disk now steps None end → Ran view words s s o p u u disk now steps None other
  as_end words s o p u disk now steps end other is ran = subst (λ (e : Ending). Ran view words s s o p u u disk now steps None e) (sym is) ran

  -- the words were refused
  pub ran_refused : (words : List (List ℕ)) (s o p u : DeviceLog) (disk now : D) (steps : List Step) (end : Ending) → HasNoBase words → now ≡ disk → steps ≡ [] → DoesOn o p (Says words_end status.Words) status.Words
      → end ≡ ending status.Words no_desk → Ran view words s s o p u u disk now steps None end
  ran_refused words s o p u disk now steps end none same empty one is =
      as_end words s o p u disk now steps (ending status.Words no_desk) end is
      (unstarted words s o p u disk now steps (Err faults.Memory) (ending status.Words no_desk) (uncalled same) empty
      (as_reaches all (SinkGrew o p) (Ends (Says words_end status.Words) no_desk) (give all (ending status.Words no_desk)) (Runs words [] false (Err faults.Memory)) (λ answers run does. refused none does)
      (sink_only o p (Says words_end status.Words) no_desk status.Words one))
      refl)

  -- there was no memory to read them
  pub ran_unread : (words : List (List ℕ)) (s o p u : DeviceLog) (disk now : D) (steps : List Step) (t : Status) (end : Ending) → now ≡ disk → steps ≡ [] → t ≡ status.Memory → DoesOn o p SaysMemory t
      → end ≡ ending t no_desk → Ran view words s s o p u u disk now steps None end
  ran_unread words s o p u disk now steps t end same empty memory_is one is =
      as_end words s o p u disk now steps (ending t no_desk) end is
      (unstarted words s o p u disk now steps (Err faults.Memory) (ending t no_desk) (uncalled same) empty
      (as_reaches all (SinkGrew o p) (Ends SaysMemory no_desk) (give all (ending t no_desk)) (Runs words [] false (Err faults.Memory)) (λ answers run does. unread refl refl does)
      (sink_only o p SaysMemory no_desk t one))
      (subst (λ (x : Status). EndHeard x []) (sym memory_is) refl))

  -- the desk did not start
  pub ran_unopened : (words : List (List ℕ)) (s o p u : DeviceLog) (disk now : D) (steps : List Step) (base : BaseParts) (fault : DeskFault) (t : Status) (end : Ending) → IsBase words base
      → HasNotStarted view base.text disk now fault → steps ≡ [] → DoesOn o p (SaysFault fault) t → EndHeard t [] → end ≡ ending t no_desk → Ran view words s s o p u u disk now steps None end
  ran_unopened words s o p u disk now steps base fault t end named start empty one ended is =
      as_end words s o p u disk now steps (ending t no_desk) end is
      (unstarted words s o p u disk now steps (Err fault) (ending t no_desk) (start_refused base fault named start) empty
      (as_reaches all (SinkGrew o p) (Ends (SaysFault fault) no_desk) (give all (ending t no_desk)) (Runs words [] false (Err fault)) (λ answers run does. unopened base fault named refl refl refl does)
      (sink_only o p (SaysFault fault) no_desk t one))
      ended)
