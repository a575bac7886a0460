-- Where there was memory for all, what comes of the answers is one run.
use Rattle.std.proofs.Common.{◌≡◌, ◌≢◌, inl, inr, ℕ, List, [], ◌∷◌, ◌++◌, Option, Some, None, Ok, Err, Bool, true, false, MatchBool, if◌then◌else◌, ◌==◌, codes, sym, ◌∙◌, ap, subst}
use Rattle.dav_machine.specs.Devices.{one_device}
use Rattle.dav_machine.specs.Machine.{Run, run_with, give, and_then}
use Rattle.dav_machine.specs.Part.{lift}
use Rattle.dav_edge.specs.Device.{Answer, Happened, ByteMachine}
use Rattle.dav_edge.specs.Whole.{Sends}
use Rattle.dav_text.specs.Path.{PathParts}
use Rattle.dav_uri.specs.Target.{BaseParts, base_of}
use Rattle.dav_deeds.specs.DeskTable.{DeskTable}
use Rattle.dav_deeds.specs.declared.fault.DeskFault.{DeskFault}
use Rattle.dav_upload.specs.declared.did.UploadFault.TheVariants as uploads
use Rattle.dav_upload.specs.Asking.{Met, Answered, Asks}
use Rattle.dav_upload.specs.Drain.{Drained, Drains}
use Rattle.dav_upload.specs.Pair.{pair}
use Rattle.dav_run.specs.declared.cause.Cause.{Cause}
use Rattle.dav_run.specs.declared.cause.Cause.TheVariants as causes
use Rattle.dav_run.specs.Causes.{cause_of}
use Rattle.dav_run.specs.declared.ended.Status.{Status}
use Rattle.dav_run.specs.declared.ended.Status.TheVariants as status
use Rattle.dav_run.specs.declared.stop.Stop.{Stop}
use Rattle.dav_run.specs.declared.stop.Stop.TheVariants as stops
use Rattle.dav_run.specs.Stops.{stop_of}
use Rattle.dav_run.specs.Devices.{Made, Answers, all, the_sink, the_desk, the_pair, RunMachine}
use Rattle.dav_run.specs.Line.{without_return, IsPut}
use Rattle.dav_run.specs.Shell.{State, fresh_state, counted, starved, with_table, memory_line, Lined, lined, store_ask, forget_ask, OnCrowded, refused, stored, StoresOr, IsStillCrowded, tells as still_tells, memory as still_memory, StillCrowded, unforgotten, forgotten, makes_room, Stores, Lines, nothing, syntax, puts, memory, Carried, written, writes, Carries, goes_on, AtEnd, Shell}
use Rattle.dav_run.specs.Run.{Ending, ending, starves, no_desk, Ends, Says, words_end, input_end, disk_end, cache_end, SaysMemory, memory_end, SaysCache, tells as cache_tells, memory as cache_memory, SaysCause, SaysFault, closing_status, SaysLeft, tells as left_tells, memory as left_memory, left_of, after_drain, stop_ask, stopping, after_shell, RunsOn, Opened, Runs, refused as runs_refused, unread, unopened, on}
use Rattle.dav_run.specs.Kept.{Told, Walks, LineDoes}
use Rattle.dav_run.specs.Words.{IsBase}
use Rattle.dav_run.proofs.One.{One, AnyResult, one_give, one_then, one_lift, one_sends}
use Rattle.dav_run.proofs.OneDrain.{one_asks, DrainFed, one_drain}
use Rattle.dav_run.proofs.PutLines.{put_unique}
use Rattle.dav_run.proofs.Coming.{DeskRun, Comes, closed, limit, crowded, starves as comes_starves, stopped, LineComes, empty, refuses, stores, starving, line_comes}
use Rattle.dav_run.proofs.Telling.{LineRun, ShellRun, shell_told}

-- a line on the desk

abbrev pub LinedFed : Lined → Type 0
LinedFed l = l.now.starved ≡ false

starved_no : (st : State) (l : Lined) (P : Type 0) → l ≡ lined memory_line (starved st) None → LinedFed l → P
starved_no st l P is fed = let h : true ≡ false = sym (ap (λ (x : Lined). x.now.starved) is) ∙ fed in absurd (cc)

still_one : (oldest : PathParts) (st : State) (l k : Lined) → IsStillCrowded oldest st l → IsStillCrowded oldest st k → LinedFed l → LinedFed k → l ≡ k
still_one oldest st l k (still_tells is) (still_tells also) fl fk = is ∙ sym also
still_one oldest st l k (still_memory is) two fl fk = starved_no st l (l ≡ k) is fl
still_one oldest st l k (still_tells is) (still_memory also) fl fk = starved_no st k (l ≡ k) also fk

one_still : (oldest : PathParts) (st : State) → One (StillCrowded oldest st) LinedFed
one_still oldest st answers r q d e fr fq =
    d.gives ∙ ap (λ (l : Lined). let run : DeskRun = run_with l [] answers in run) (still_one oldest st r.result q.result d.is e.is fr fq) ∙ sym e.gives

one_refused : (on_crowded : OnCrowded) → ((oldest : PathParts) (st : State) → One (on_crowded oldest st) LinedFed) → (cause : Cause) (st : State) → One (refused on_crowded cause st) LinedFed
one_refused on_crowded one (causes.Crowded oldest) st = one oldest st
one_refused on_crowded one (causes.Limit which) st = one_give one_device _ LinedFed
one_refused on_crowded one causes.Memory st = one_give one_device _ LinedFed
one_refused on_crowded one causes.Disk st = one_give one_device _ LinedFed
one_refused on_crowded one (causes.Cache fault) st = one_give one_device _ LinedFed

one_stored : (path : PathParts) (bytes : List ℕ) (on_crowded : OnCrowded) → ((oldest : PathParts) (st : State) → One (on_crowded oldest st) LinedFed) → (answered : Answered) (st : State) → One (stored path bytes on_crowded answered st) LinedFed
one_stored path bytes on_crowded one (Ok answer) st = one_give one_device _ LinedFed
one_stored path bytes on_crowded one (Err fault) st = one_refused on_crowded one (cause_of fault) st

one_stores : (path : PathParts) (bytes : List ℕ) (on_crowded : OnCrowded) → ((oldest : PathParts) (st : State) → One (on_crowded oldest st) LinedFed) → (st : State) → One (StoresOr path bytes on_crowded st) LinedFed
one_stores path bytes on_crowded one st =
    one_then one_device (Asks st.table (store_ask path bytes)) (λ r. stored path bytes on_crowded r.0 (with_table st r.1)) AnyResult LinedFed (one_asks st.table (store_ask path bytes) AnyResult)
    (λ x. one_stored path bytes on_crowded one x.0 (with_table st x.1)) (λ x answers run does fed. tt)

one_unforgotten : (cause : Cause) (st : State) → One (unforgotten cause st) LinedFed
one_unforgotten (causes.Crowded other) st = one_give one_device _ LinedFed
one_unforgotten (causes.Limit which) st = one_give one_device _ LinedFed
one_unforgotten causes.Memory st = one_give one_device _ LinedFed
one_unforgotten causes.Disk st = one_give one_device _ LinedFed
one_unforgotten (causes.Cache fault) st = one_give one_device _ LinedFed

one_forgotten : (path : PathParts) (bytes : List ℕ) (answered : Answered) (st : State) → One (forgotten path bytes answered st) LinedFed
one_forgotten path bytes (Ok answer) st = one_stores path bytes StillCrowded one_still st
one_forgotten path bytes (Err fault) st = one_unforgotten (cause_of fault) st

one_room : (path : PathParts) (bytes : List ℕ) (oldest : PathParts) (st : State) → One (makes_room path bytes oldest st) LinedFed
one_room path bytes oldest st =
    one_then one_device (Asks st.table (forget_ask oldest)) (λ r. forgotten path bytes r.0 (with_table st r.1)) AnyResult LinedFed (one_asks st.table (forget_ask oldest) AnyResult)
    (λ x. one_forgotten path bytes x.0 (with_table st x.1)) (λ x answers run does fed. tt)

put_no_line : (current path : PathParts) (bytes line : List ℕ) → line ≡ [] → IsPut current line path bytes → ⊥
put_no_line current path bytes line none put = let h : [] ≡ codes "fput " ++ (put.target ++ 32 ∷ bytes) = sym none ∙ put.spelled in absurd (cc)

memory_no : (before : State) (answers : List Met) (r : DeskRun) (P : Type 0) → give one_device (lined memory_line (starved before) None) answers r → LinedFed r.result → P
memory_no before answers r P does fed = starved_no before r.result P (ap (λ (x : DeskRun). x.result) does) fed

pub one_lines : (before : State) (line : List ℕ) → One (Lines before line) LinedFed
one_lines before line answers r q (nothing none d) (nothing too e) fr fq = d ∙ sym e
one_lines before line answers r q (nothing none d) (syntax some not_put e) fr fq = absurd (some none)
one_lines before line answers r q (nothing none d) (puts path bytes put e) fr fq = absurd (put_no_line before.current path bytes line none put)
one_lines before line answers r q (nothing none d) (memory e) fr fq = memory_no before answers q (r ≡ q) e fq
one_lines before line answers r q (syntax some not_put d) (nothing none e) fr fq = absurd (some none)
one_lines before line answers r q (syntax some not_put d) (syntax more never e) fr fq = d ∙ sym e
one_lines before line answers r q (syntax some not_put d) (puts path bytes put e) fr fq = absurd (not_put path bytes put)
one_lines before line answers r q (syntax some not_put d) (memory e) fr fq = memory_no before answers q (r ≡ q) e fq
one_lines before line answers r q (puts path bytes put d) (nothing none e) fr fq = absurd (put_no_line before.current path bytes line none put)
one_lines before line answers r q (puts path bytes put d) (syntax some not_put e) fr fq = absurd (not_put path bytes put)
one_lines before line answers r q (puts path bytes put d) (puts other more too e) fr fq =
    let same = put_unique before.current line path other bytes more put too in
    let here : Stores other more before answers r =
    subst (λ (l : List ℕ). Stores other l before answers r) same.1 (subst (λ (p : PathParts). Stores p bytes before answers r) same.0 d) in
    one_stores other more (makes_room other more) (one_room other more) before answers r q here e fr fq
one_lines before line answers r q (puts path bytes put d) (memory e) fr fq = memory_no before answers q (r ≡ q) e fq
one_lines before line answers r q (memory d) e fr fq = memory_no before answers r (r ≡ q) d fr

-- a line and its answer

abbrev pub CarriedFed : Carried → Type 0
CarriedFed c = c.1.starved ≡ false

written_fed : (now : State) (went : Bool) → CarriedFed (written now went) → now.starved ≡ false
written_fed now true fed = fed
written_fed now false fed = fed

one_writes : (printed : List ℕ) (now : State) (fault : Option DeskFault) → One (writes printed now fault) CarriedFed
one_writes printed now None =
    one_then all (lift the_sink (Sends printed)) (λ went. give all (written now went)) AnyResult CarriedFed (one_lift one_device all the_sink (Sends printed) AnyResult (one_sends printed AnyResult))
    (λ went. one_give all (written now went) CarriedFed) (λ went answers run does fed. tt)
one_writes printed now (Some fault) = one_give all _ CarriedFed

writes_fed : (printed : List ℕ) (now : State) (fault : Option DeskFault) (answers : Answers) (r : LineRun) → writes printed now fault answers r → CarriedFed r.result → now.starved ≡ false
writes_fed printed now None answers r d fed =
    written_fed now d.before.result
    (subst CarriedFed (ap (λ (x : LineRun). x.result) d.whole ∙ ap (λ (x : LineRun). x.result) d.goes_on) fed)
writes_fed printed now (Some fault) answers r d fed = subst CarriedFed (ap (λ (x : LineRun). x.result) d) fed

pub one_carries : (line : List ℕ) (before : State) → One (Carries line before) CarriedFed
one_carries line before =
    one_then all (lift the_desk (Lines before line)) (λ l. writes l.printed l.now l.fault) LinedFed CarriedFed (one_lift one_device all the_desk (Lines before line) LinedFed (one_lines before line))
    (λ l. one_writes l.printed l.now l.fault) (λ l. writes_fed l.printed l.now l.fault)

-- the shell

abbrev pub StopFed : Stop × State → Type 0
StopFed x = x.1.starved ≡ false

comes_fed : (path : PathParts) (bytes : List ℕ) (before : State) (l : Lined) → Comes path bytes before l → LinedFed l → before.starved ≡ false
comes_fed path bytes before l (closed t is) fed = sym (ap (λ (x : Lined). x.now.starved) is) ∙ fed
comes_fed path bytes before l (limit t which is) fed = sym (ap (λ (x : Lined). x.now.starved) is) ∙ fed
comes_fed path bytes before l (crowded t oldest is) fed = sym (ap (λ (x : Lined). x.now.starved) is) ∙ fed
comes_fed path bytes before l (comes_starves t is) fed = starved_no (with_table before t) l (before.starved ≡ false) is fed
comes_fed path bytes before l (stopped t fault is) fed = sym (ap (λ (x : Lined). x.now.starved) is) ∙ fed

pub line_fed : (before : State) (line : List ℕ) (l : Lined) → LineComes before line l → LinedFed l → before.starved ≡ false
line_fed before line l (empty none is) fed = sym (ap (λ (x : Lined). x.now.starved) is) ∙ fed
line_fed before line l (refuses some not_put is) fed = sym (ap (λ (x : Lined). x.now.starved) is) ∙ fed
line_fed before line l (stores path bytes put comes) fed = comes_fed path bytes before l comes fed
line_fed before line l (starving is) fed = starved_no before l (before.starved ≡ false) is fed

does_fed : (before : State) (told : Told) (l : Lined) → LineDoes before told l → LinedFed l → before.starved ≡ false
does_fed before told l does fed = line_fed before told.line l (line_comes before told.line _ _ does.does) fed

walks_fed : (told : List Told) (before end : State) → Walks before told end → end.starved ≡ false → before.starved ≡ false
walks_fed [] before end walks fed = sym (ap (λ (s : State). s.starved) walks) ∙ fed
walks_fed (t ∷ told) before end (l, does, inl (none, is)) fed = does_fed before t l does (sym (ap (λ (s : State). s.starved) is) ∙ fed)
walks_fed (t ∷ told) before end (l, does, inr (went, walks)) fed = does_fed before t l does (walks_fed told (counted l.now) end walks fed)

pub shell_fed : (bytes : List ℕ) (failed : Bool) (begun : List ℕ) (st : State) (answers : Answers) (r : ShellRun) → Shell bytes failed begun st answers r → StopFed r.result → st.starved ≡ false
shell_fed bytes failed begun st answers r does fed = let told = shell_told bytes failed begun st answers r does in walks_fed told.told st r.result.1 told.walked fed

one_goes : (next : State → RunMachine (Stop × State)) → ((s : State) → One (next s) StopFed) → (c : Carried) → One (goes_on next c) StopFed
one_goes next one (Ok done, s) = one s
one_goes next one (Err halt, s) = one_give all (stop_of halt, s) StopFed

pub goes_fed : (next : State → RunMachine (Stop × State)) → ((s : State) (answers : Answers) (r : ShellRun) → next s answers r → StopFed r.result → s.starved ≡ false)
    → (c : Carried) (answers : Answers) (r : ShellRun) → goes_on next c answers r → StopFed r.result → CarriedFed c
goes_fed next back (Ok done, s) answers r does fed = back s answers r does fed
goes_fed next back (Err halt, s) answers r does fed = sym (ap (λ (x : ShellRun). x.result.1.starved) does) ∙ fed

one_line : (line : List ℕ) (st : State) (next : State → RunMachine (Stop × State)) → ((s : State) → One (next s) StopFed)
    → ((s : State) (answers : Answers) (r : ShellRun) → next s answers r → StopFed r.result → s.starved ≡ false)
    → One (and_then all (Carries line st) (goes_on next)) StopFed
one_line line st next one back = one_then all (Carries line st) (goes_on next) CarriedFed StopFed (one_carries line st) (one_goes next one) (goes_fed next back)

pub end_fed : (s : State) (answers : Answers) (r : ShellRun) → give all (stops.End, s) answers r → StopFed r.result → s.starved ≡ false
end_fed s answers r does fed = sym (ap (λ (x : ShellRun). x.result.1.starved) does) ∙ fed

one_end : (failed : Bool) (begun : List ℕ) (st : State) → One (AtEnd failed begun st) StopFed
one_end true begun st = one_give all (stops.Input, st) StopFed
one_end false [] st = one_give all (stops.End, st) StopFed
one_end false (b ∷ begun) st = one_line (b ∷ begun) st (λ s. give all (stops.End, s)) (λ s. one_give all (stops.End, s) StopFed) end_fed

both_bytes : (test : Bool) (X Y V W P : Type 0) → MatchBool test X Y → MatchBool test V W → (X → V → P) → (Y → W → P) → P
both_bytes true X Y V W P d e f g = f d e
both_bytes false X Y V W P d e f g = g d e

one_shell : (bytes : List ℕ) (failed : Bool) (begun : List ℕ) (st : State) → One (Shell bytes failed begun st) StopFed
unfolding Shell
one_shell [] failed begun st answers r q d e fr fq = one_end failed begun st answers r q d e fr fq
one_shell (b ∷ bytes) failed begun st answers r q d e fr fq =
    both_bytes (b == 10) _ _ _ _ (r ≡ q) d e
    (λ x y. one_line (without_return begun) st (λ s. Shell bytes failed [] s) (λ s. one_shell bytes failed [] s) (λ s. shell_fed bytes failed [] s) answers r q x y fr fq)
    (λ x y. one_shell bytes failed (begun ++ b ∷ []) st answers r q x y fr fq)

-- the last line

abbrev StatusFed : Status → Type 0
StatusFed s = s ≢ status.Memory

abbrev StatusRun : Type 0
StatusRun = Run (List Happened) (List Answer) Status

one_says : (line : List ℕ) (s : Status) → One (Says line s) StatusFed
one_says line s = one_then one_device (Sends line) (λ went. give one_device s) AnyResult StatusFed (one_sends line AnyResult) (λ went. one_give one_device s StatusFed) (λ went answers run does fed. tt)

says_gives : (line : List ℕ) (s : Status) (answers : List Answer) (r : StatusRun) → Says line s answers r → r.result ≡ s
says_gives line s answers r d = ap (λ (x : StatusRun). x.result) d.whole ∙ ap (λ (x : StatusRun). x.result) d.goes_on

memory_says_no : (answers : List Answer) (r : StatusRun) (P : Type 0) → SaysMemory answers r → StatusFed r.result → P
memory_says_no answers r P d fed = absurd (fed (says_gives memory_end status.Memory answers r d))

one_cache : (fault : DeskFault) → One (SaysCache fault) StatusFed
one_cache fault answers r q (cache_tells d) (cache_tells e) fr fq = one_says (cache_end fault) (status.Cache fault) answers r q d e fr fq
one_cache fault answers r q (cache_memory d) e fr fq = memory_says_no answers r (r ≡ q) d fr
one_cache fault answers r q (cache_tells d) (cache_memory e) fr fq = memory_says_no answers q (r ≡ q) e fq

one_cause : (cause : Cause) → One (SaysCause cause) StatusFed
one_cause (causes.Crowded oldest) = one_cache _
one_cause (causes.Limit which) = one_cache _
one_cause causes.Memory = one_says memory_end status.Memory
one_cause causes.Disk = one_says disk_end status.Disk
one_cause (causes.Cache fault) = one_cache fault

one_left : (left : List ℕ) (faulty : Bool) → One (SaysLeft left faulty) StatusFed
one_left left faulty answers r q (left_tells d) (left_tells e) fr fq =
    one_then one_device (Sends left) (λ went. give one_device (if went then closing_status faulty else status.Output)) AnyResult StatusFed (one_sends left AnyResult)
    (λ went. one_give one_device (if went then closing_status faulty else status.Output) StatusFed) (λ went a run does fed. tt) answers r q d e fr fq
one_left left faulty answers r q (left_memory d) e fr fq = memory_says_no answers r (r ≡ q) d fr
one_left left faulty answers r q (left_tells d) (left_memory e) fr fq = memory_says_no answers q (r ≡ q) e fq

-- the end of a run

abbrev pub EndRun : Type 0
EndRun = Run Made Answers Ending

abbrev pub EndFed : Ending → Type 0
EndFed e = e.starved ≡ false

starves_status : (s : Status) (b : Bool) → starves s b ≡ false → StatusFed s
starves_status status.Memory b fed = absurd (let h : true ≡ false = fed in cc)
starves_status status.Done b fed = λ is. cc
starves_status status.Faults b fed = λ is. cc
starves_status status.Words b fed = λ is. cc
starves_status status.Disk b fed = λ is. cc
starves_status status.Input b fed = λ is. cc
starves_status status.Output b fed = λ is. cc
starves_status (status.Cache fault) b fed = λ is. cc

starves_state : (s : Status) (b : Bool) → starves s b ≡ false → b ≡ false
starves_state status.Memory b fed = absurd (let h : true ≡ false = fed in cc)
starves_state status.Done b fed = fed
starves_state status.Faults b fed = fed
starves_state status.Words b fed = fed
starves_state status.Disk b fed = fed
starves_state status.Input b fed = fed
starves_state status.Output b fed = fed
starves_state (status.Cache fault) b fed = fed

one_ends : (says_so : ByteMachine Status) (st : State) → One says_so StatusFed → One (Ends says_so st) EndFed
one_ends says_so st one =
    one_then all (lift the_sink says_so) (λ s. give all (ending s st)) StatusFed EndFed (one_lift one_device all the_sink says_so StatusFed one) (λ s. one_give all (ending s st) EndFed)
    (λ s answers run does fed. starves_status s st.starved (sym (ap (λ (x : EndRun). x.result.starved) does) ∙ fed))

ends_fed : (says_so : ByteMachine Status) (st : State) (answers : Answers) (r : EndRun) → Ends says_so st answers r → EndFed r.result → st.starved ≡ false
ends_fed says_so st answers r d fed =
    starves_state d.before.result st.starved (sym (ap (λ (x : EndRun). x.result.starved) d.whole ∙ ap (λ (x : EndRun). x.result.starved) d.goes_on) ∙ fed)

one_after_drain : (drained : Drained) (st : State) → One (after_drain drained st) EndFed
one_after_drain (Ok done) st = one_ends (SaysLeft (left_of st.table) st.faulty) st (one_left (left_of st.table) st.faulty)
one_after_drain (Err (uploads.Desk fault)) st = one_ends (SaysFault fault) st (one_cause (cause_of fault))
one_after_drain (Err uploads.Memory) st = one_ends SaysMemory st (one_says memory_end status.Memory)

pub memory_ends_no : (st : State) (answers : Answers) (r : EndRun) (P : Type 0) → Ends SaysMemory st answers r → EndFed r.result → P
memory_ends_no st answers r P d fed =
    let is : d.before.result ≡ status.Memory = ap (λ (x : Run Made Answers Status). x.result) d.begins.is ∙ says_gives memory_end status.Memory answers.out d.begins.below d.begins.does in
    absurd (starves_status d.before.result st.starved (sym (ap (λ (x : EndRun). x.result.starved) d.whole ∙ ap (λ (x : EndRun). x.result.starved) d.goes_on) ∙ fed) is)

drain_fed : (st : State) (x : Drained × DeskTable) (answers : Answers) (r : EndRun) → after_drain x.0 (with_table st x.1) answers r → EndFed r.result → DrainFed x
drain_fed st (Ok done, t) answers r does fed = tt
drain_fed st (Err (uploads.Desk fault), t) answers r does fed = tt
drain_fed st (Err uploads.Memory, t) answers r does fed = memory_ends_no (with_table st t) answers r ⊥ does fed

one_stopping : (base : BaseParts) (answered : Answered) (st : State) → One (stopping base answered st) EndFed
one_stopping base (Ok answer) st =
    one_then all (lift the_pair (Drains base 0 st.table)) (λ r. after_drain r.0 (with_table st r.1)) DrainFed EndFed (one_lift pair all the_pair (Drains base 0 st.table) DrainFed (one_drain base 0 st.table))
    (λ x. one_after_drain x.0 (with_table st x.1)) (drain_fed st)
one_stopping base (Err fault) st = one_ends (SaysFault fault) st (one_cause (cause_of fault))

after_drain_fed : (drained : Drained) (st : State) (answers : Answers) (r : EndRun) → after_drain drained st answers r → EndFed r.result → st.starved ≡ false
after_drain_fed (Ok done) st answers r does fed = ends_fed (SaysLeft (left_of st.table) st.faulty) st answers r does fed
after_drain_fed (Err (uploads.Desk fault)) st answers r does fed = ends_fed (SaysFault fault) st answers r does fed
after_drain_fed (Err uploads.Memory) st answers r does fed = ends_fed SaysMemory st answers r does fed

stopping_fed : (base : BaseParts) (answered : Answered) (st : State) (answers : Answers) (r : EndRun) → stopping base answered st answers r → EndFed r.result → st.starved ≡ false
stopping_fed base (Ok answer) st answers r d fed =
    after_drain_fed d.before.result.0 (with_table st d.before.result.1) d.before.left d.after d.goes_on (sym (ap (λ (x : EndRun). x.result.starved) d.whole) ∙ fed)
stopping_fed base (Err fault) st answers r does fed = ends_fed (SaysFault fault) st answers r does fed

one_after_shell : (base : BaseParts) (st : State) (stop : Stop) → One (after_shell base st stop) EndFed
one_after_shell base st stops.Output = one_give all (ending status.Output st) EndFed
one_after_shell base st stops.Input = one_ends (Says input_end status.Input) st (one_says input_end status.Input)
one_after_shell base st (stops.Desk fault) = one_ends (SaysFault fault) st (one_cause (cause_of fault))
one_after_shell base st stops.End =
    one_then all (lift the_desk (Asks st.table stop_ask)) (λ r. stopping base r.0 (with_table st r.1)) AnyResult EndFed (one_lift one_device all the_desk (Asks st.table stop_ask) AnyResult (one_asks st.table stop_ask AnyResult))
    (λ x. one_stopping base x.0 (with_table st x.1)) (λ x answers run does fed. tt)

pub after_shell_fed : (base : BaseParts) (st : State) (stop : Stop) (answers : Answers) (r : EndRun) → after_shell base st stop answers r → EndFed r.result → st.starved ≡ false
after_shell_fed base st stops.Output answers r does fed = sym (ap (λ (x : EndRun). x.result.starved) does) ∙ fed
after_shell_fed base st stops.Input answers r does fed = ends_fed (Says input_end status.Input) st answers r does fed
after_shell_fed base st (stops.Desk fault) answers r does fed = ends_fed (SaysFault fault) st answers r does fed
after_shell_fed base st stops.End answers r d fed =
    stopping_fed base d.before.result.0 (with_table st d.before.result.1) d.before.left d.after d.goes_on (sym (ap (λ (x : EndRun). x.result.starved) d.whole) ∙ fed)

one_runs_on : (base : BaseParts) (table : DeskTable) (bytes : List ℕ) (failed : Bool) → One (RunsOn base table bytes failed) EndFed
one_runs_on base table bytes failed =
    one_then all (Shell bytes failed [] (fresh_state base.path table)) (λ r. after_shell base r.1 r.0) StopFed EndFed (one_shell bytes failed [] (fresh_state base.path table))
    (λ x. one_after_shell base x.1 x.0) (λ x. after_shell_fed base x.1 x.0)

-- words name one base at most
pub base_unique : (words : List (List ℕ)) (g h : BaseParts) → IsBase words g → IsBase words h → g ≡ h
base_unique words g h one two =
    let texts : one.text ≡ two.text = let same : one.text ∷ [] ≡ two.text ∷ [] = sym one.only ∙ two.only in cc in
    let same : Ok g ≡ Ok h = sym one.read ∙ ap base_of texts ∙ two.read in cc

abbrev pub opened_with : DeskTable → Opened
opened_with table = Ok table

abbrev pub not_opened : DeskFault → Opened
not_opened fault = Err fault

-- the run is the only one of these words, this input, this opening and these answers that no want of memory met
pub one_run : (words : List (List ℕ)) (bytes : List ℕ) (failed : Bool) (opened : Opened) (answers : Answers) (r q : EndRun) → Runs words bytes failed opened answers r → Runs words bytes failed opened answers q
    → EndFed r.result → EndFed q.result → r ≡ q
one_run words bytes failed opened answers r q (runs_refused none d) (runs_refused too e) fr fq = one_ends (Says words_end status.Words) no_desk (one_says words_end status.Words) answers r q d e fr fq
one_run words bytes failed opened answers r q (unread none fine d) e fr fq = memory_ends_no no_desk answers r (r ≡ q) d fr
one_run words bytes failed opened answers r q (runs_refused not_named d) (unread none fine e) fr fq = memory_ends_no no_desk answers q (r ≡ q) e fq
one_run words bytes failed opened answers r q (unopened base fault named is empty_ fine d) (unread none more e) fr fq = memory_ends_no no_desk answers q (r ≡ q) e fq
one_run words bytes failed opened answers r q (on base table named is d) (unread none fine e) fr fq = memory_ends_no no_desk answers q (r ≡ q) e fq
one_run words bytes failed opened answers r q (runs_refused none d) (unopened base fault named is empty_ fine e) fr fq = absurd (none base named)
one_run words bytes failed opened answers r q (runs_refused none d) (on base table named is e) fr fq = absurd (none base named)
one_run words bytes failed opened answers r q (unopened base fault named is empty_ fine d) (runs_refused none e) fr fq = absurd (none base named)
one_run words bytes failed opened answers r q (on base table named is d) (runs_refused none e) fr fq = absurd (none base named)
one_run words bytes failed opened answers r q (unopened base fault named is empty_ fine d) (unopened other more too also none good e) fr fq =
    let same : fault ≡ more = let h : not_opened fault ≡ not_opened more = sym is ∙ also in cc in
    one_ends (SaysFault more) no_desk (one_cause (cause_of more)) answers r q (subst (λ (f : DeskFault). Ends (SaysFault f) no_desk answers r) same d) e fr fq
one_run words bytes failed opened answers r q (unopened base fault named is empty_ fine d) (on other table too also e) fr fq =
    let h : not_opened fault ≡ opened_with table = sym is ∙ also in absurd (cc)
one_run words bytes failed opened answers r q (on base table named is d) (unopened other fault too also none good e) fr fq =
    let h : opened_with table ≡ not_opened fault = sym is ∙ also in absurd (cc)
one_run words bytes failed opened answers r q (on base table named is d) (on other more too also e) fr fq =
    let same : base ≡ other = base_unique words base other named too in
    let tables : table ≡ more = let h : opened_with table ≡ opened_with more = sym is ∙ also in cc in
    one_runs_on other more bytes failed answers r q
    (subst (λ (t : DeskTable). RunsOn other t bytes failed answers r) tables (subst (λ (b : BaseParts). RunsOn b table bytes failed answers r) same d)) e fr fq
