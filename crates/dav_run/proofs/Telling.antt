-- What a run of the shell tells: its lines, one after another, with their asks and their answers.
use Rattle.std.proofs.Common.{◌≡◌, ◌⊎◌, inl, inr, ℕ, List, [], ◌∷◌, ◌++◌, map, Bool, true, false, not, MatchBool, if◌then◌else◌, ◌==◌, ◌||◌, Option, Some, None, Result, Ok, Err, refl, sym, ◌∙◌, ap, subst, append-nil}
use Rattle.dav_machine.specs.Log.{any_failed}
use Rattle.dav_machine.specs.Devices.{answers_before}
use Rattle.dav_machine.specs.Machine.{Run, run_with, prepend, give, and_then}
use Rattle.dav_machine.proofs.Logs.{any_failed-append}
use Rattle.dav_edge.specs.Device.{Happened, is_failure}
use Rattle.dav_edge.proofs.Sending.{sent_so}
use Rattle.dav_text.specs.Path.{PathParts}
use Rattle.dav_deeds.specs.declared.fault.DeskFault.{DeskFault}
use Rattle.dav_upload.specs.Asking.{Asked}
use Rattle.dav_run.specs.declared.stop.Halt.{Halt}
use Rattle.dav_run.specs.declared.stop.Halt.TheVariants as halts
use Rattle.dav_run.specs.declared.stop.Stop.{Stop}
use Rattle.dav_run.specs.declared.stop.Stop.TheVariants.{End, Input, Output, Desk}
use Rattle.dav_run.specs.Stops.{stop_of}
use Rattle.dav_run.specs.Devices.{Made, Answers, all, calls_on, the_sink, the_desk, RunMachine}
use Rattle.dav_run.specs.Line.{without_return, lines_from}
use Rattle.dav_run.specs.Shell.{State, counted, Lined, lined, Lines, Carried, written, writes, Carries, goes_on, AtEnd, Shell}
use Rattle.dav_run.specs.Kept.{Told, line_of, asked_by, LineDoes, Walks, printed_by, Wrote}
use Rattle.dav_run.proofs.Again.{again_lines}
use Rattle.dav_run.proofs.Coming.{line_comes, line_stopped}
use Rattle.dav_run.proofs.Writing.{wrote_none, wrote_sent, wrote_as, wrote_then}

abbrev pub ShellRun : Type 0
ShellRun = Run Made Answers (Stop × State)

abbrev pub LineRun : Type 0
LineRun = Run Made Answers Carried

-- the lines were carried out one after another, and the desk was stopped in the last by this fault
abbrev pub Halts : State → List Told → DeskFault → Type 0
Halts before [] fault = ⊥
Halts before (told ∷ more) fault =
    (l : Lined) × LineDoes before told l × (((more ≡ []) × (l.fault ≡ Some fault)) ⊎ ((l.fault ≡ None) × Halts (counted l.now) more fault))

-- Of these lines the first were carried out, with these asks and answers; all of them where the input came to its
-- end. The source failed where that is the stop, and the sink where that is.
pub record Tells (lines : List (List ℕ)) (failed : Bool) (before : State) (run : ShellRun) : Type 0 where
  pub told : List Told
  pub rest : List (List ℕ)
  pub lines_are : lines ≡ map line_of told ++ rest
  pub read : run.result.0 ≡ End → rest ≡ []
  pub walked : Walks before told run.result.1
  pub halted : (fault : DeskFault) → run.result.0 ≡ Desk fault → Halts before told fault
  pub source : run.result.0 ≡ Input → failed ≡ true
  pub sink : run.result.0 ≡ Output → any_failed is_failure run.made.out ≡ true
  pub fine : (run.result.0 ≡ Output → ⊥) → any_failed is_failure run.made.out ≡ false
  pub wrote : Wrote run.made.out (printed_by told)
  pub asked : run.made.desk ≡ asked_by told
  pub silent : run.made.up ≡ []

-- whether the sink took the answer of a line, by what the line came to
abbrev pub went_by : Result (Unit {0}) Halt → Bool
went_by (Ok done) = true
went_by (Err halts.Output) = false
went_by (Err (halts.Desk fault)) = true

-- where the desk was stopped, or not
abbrev pub halted_by : Lined → Result (Unit {0}) Halt → Type 0
halted_by l (Ok done) = l.fault ≡ None
halted_by l (Err halts.Output) = l.fault ≡ None
halted_by l (Err (halts.Desk fault)) = l.fault ≡ Some fault

abbrev pub now_by : State → Result (Unit {0}) Halt → State
now_by now (Ok done) = counted now
now_by now (Err halt) = now

-- one line that was carried out
pub record One (line : List ℕ) (before : State) (run : LineRun) : Type 0 where
  pub asked : List Asked
  pub line_is : Lined
  pub does : Lines before line (answers_before asked []) (run_with line_is asked [])
  pub halted : halted_by line_is run.result.0
  pub state : run.result.1 ≡ now_by line_is.now run.result.0
  pub failed : any_failed is_failure run.made.out ≡ not (went_by run.result.0)
  pub wrote : Wrote run.made.out line_is.printed
  pub asked_is : run.made.desk ≡ asked
  pub silent : run.made.up ≡ []

-- what was written of a line, where it was
record Writ (l : Lined) (run : LineRun) : Type 0 where
  halted : halted_by l run.result.0
  state : run.result.1 ≡ now_by l.now run.result.0
  failed : any_failed is_failure run.made.out ≡ not (went_by run.result.0)
  wrote : Wrote run.made.out l.printed
  unasked : run.made.desk ≡ []
  silent : run.made.up ≡ []

writ_went : (printed : List ℕ) (now : State) (events : List Happened) (left : Answers) (went : Bool) → any_failed is_failure events ≡ not went → Wrote events printed
    → Writ (lined printed now None) (run_with (written now went) (calls_on (events ++ []) [] []) left)
writ_went printed now events left true failed wrote = record {
  halted = refl;
  state = refl;
  failed = ap (any_failed is_failure) (append-nil events) ∙ failed;
  wrote = wrote_as events (events ++ []) printed printed (sym (append-nil events)) refl wrote;
  unasked = refl;
  silent = refl;
}
writ_went printed now events left false failed wrote = record {
  halted = refl;
  state = refl;
  failed = ap (any_failed is_failure) (append-nil events) ∙ failed;
  wrote = wrote_as events (events ++ []) printed printed (sym (append-nil events)) refl wrote;
  unasked = refl;
  silent = refl;
}

writ : (printed : List ℕ) (now : State) (fault : Option DeskFault) (answers : Answers) (run : LineRun) → ((f : DeskFault) → fault ≡ Some f → printed ≡ []) → writes printed now fault answers run → Writ (lined printed now fault) run
writ printed now None answers run nothing does =
    let below = does.begins.below in
    let so = sent_so printed answers.out below does.begins.does in
    let first : does.before ≡ run_with below.result (calls_on below.made [] []) (the_sink.put below.left answers) = does.begins.is in
    let whole : run ≡ prepend all does.before.made (run_with (written now does.before.result) (calls_on [] [] []) does.before.left) = does.whole ∙ ap (prepend all does.before.made) does.goes_on in
    subst (Writ (lined printed now None)) (sym (whole ∙ ap (λ (b : Run Made Answers Bool). prepend all b.made (run_with (written now b.result) (calls_on [] [] []) b.left)) first))
    (writ_went printed now below.made (the_sink.put below.left answers) below.result so.failed (wrote_sent printed below so))
writ printed now (Some fault) answers run nothing does =
    subst (Writ (lined printed now (Some fault))) (sym does) (record {
      halted = refl;
      state = refl;
      failed = refl;
      wrote = wrote_as [] [] [] printed refl (sym (nothing fault refl)) wrote_none;
      unasked = refl;
      silent = refl;
    })

pub one_line : (line : List ℕ) (before : State) (answers : Answers) (run : LineRun) → Carries line before answers run → One line before run
one_line line before answers run d =
    let below = d.begins.below in
    let l : Lined = below.result in
    let first : d.before ≡ run_with l (calls_on [] [] below.made) (the_desk.put below.left answers) = d.begins.is in
    let goes : writes l.printed l.now l.fault d.before.left d.after =
    subst (λ (x : Lined). writes x.printed x.now x.fault d.before.left d.after) (ap (λ (b : Run Made Answers Lined). b.result) first) d.goes_on in
    let comes = line_comes before line answers.desk below d.begins.does in
    let w = writ l.printed l.now l.fault d.before.left d.after (λ f is. line_stopped before line l f comes is) goes in
    let whole : run ≡ prepend all (calls_on [] [] below.made) d.after = d.whole ∙ ap (λ (b : Run Made Answers Lined). prepend all b.made d.after) first in
    let result : run.result ≡ d.after.result = ap (λ (r : LineRun). r.result) whole in
    let out : run.made.out ≡ d.after.made.out = ap (λ (r : LineRun). r.made.out) whole in
    record {
      asked = below.made;
      line_is = l;
      does = again_lines before line answers.desk below [] d.begins.does;
      halted = subst (λ (c : Carried). halted_by l c.0) (sym result) w.halted;
      state = ap (λ (c : Carried). c.1) result ∙ w.state ∙ ap (λ (c : Carried). now_by l.now c.0) (sym result);
      failed = ap (any_failed is_failure) out ∙ w.failed ∙ ap (λ (c : Carried). not (went_by c.0)) (sym result);
      wrote = subst (λ (es : List Happened). Wrote es l.printed) (sym out) w.wrote;
      asked_is = ap (λ (r : LineRun). r.made.desk) whole ∙ ap (λ (es : List Asked). below.made ++ es) w.unasked ∙ append-nil below.made;
      silent = ap (λ (r : LineRun). r.made.up) whole ∙ w.silent;
    }

abbrev pub told_line : PathParts → List ℕ → List Asked → List ℕ → Told
told_line current line asked printed = record { current = current; line = line; asked = asked; printed = printed }

or_true : (a b : Bool) → b ≡ true → (a || b) ≡ true
or_true true b h = refl
or_true false b h = h

-- a call that failed is among more calls
pub any_later : (es fs : List Happened) → any_failed is_failure fs ≡ true → any_failed is_failure (es ++ fs) ≡ true
any_later [] fs h = h
any_later (e ∷ es) fs h = or_true (is_failure e.answer) (any_failed is_failure (es ++ fs)) (any_later es fs h)

line_does : (line : List ℕ) (before : State) (run : LineRun) (one : One line before run) → LineDoes before (told_line before.current line one.asked one.line_is.printed) one.line_is
line_does line before run one = record { at = refl; does = one.does; printed = refl }

-- what a stop in a line is
output_by : (halt : Halt) (failed : Bool) → failed ≡ not (went_by (Err halt)) → stop_of halt ≡ Output → failed ≡ true
output_by halts.Output failed is same = is
output_by (halts.Desk fault) failed is same = cc

fine_by : (halt : Halt) (failed : Bool) → failed ≡ not (went_by (Err halt)) → (stop_of halt ≡ Output → ⊥) → failed ≡ false
fine_by halts.Output failed is other = absurd (other refl)
fine_by (halts.Desk fault) failed is other = is

halts_by : (l : Lined) (halt : Halt) (fault : DeskFault) → halted_by l (Err halt) → stop_of halt ≡ Desk fault → l.fault ≡ Some fault
halts_by l halts.Output fault halted is = absurd (cc)
halts_by l (halts.Desk other) fault halted is = halted ∙ (let same : other ≡ fault = cc in ap (λ (f : DeskFault). Some f) same)

stop_not_end : (halt : Halt) → stop_of halt ≡ End → ⊥
stop_not_end halts.Output is = cc
stop_not_end (halts.Desk fault) is = cc

pub stop_not_input : (halt : Halt) → stop_of halt ≡ Input → ⊥
stop_not_input halts.Output is = cc
stop_not_input (halts.Desk fault) is = cc

-- The line was carried out and the shell went on, or stopped in it.
line_then : (line : List ℕ) (lines : List (List ℕ)) (failed : Bool) (before : State) (first : LineRun) (one : One line before first) (went : Result (Unit {0}) Halt)
    (next : State → RunMachine (Stop × State)) (after run : ShellRun) → first.result.0 ≡ went
    → goes_on next (went, now_by one.line_is.now went) first.left after → run ≡ prepend all first.made after
    → ((st : State) (answers : Answers) (r : ShellRun) → next st answers r → Tells lines failed st r)
    → Tells (line ∷ lines) failed before run
line_then line lines failed before first one (Ok done) next after run went_is does whole then_ =
    let l = one.line_is in
    let later = then_ (counted l.now) first.left after does in
    let faulted : any_failed is_failure first.made.out ≡ false = one.failed ∙ ap (λ (w : Result (Unit {0}) Halt). not (went_by w)) went_is in
    let none : l.fault ≡ None = subst (halted_by l) went_is one.halted in
    subst (Tells (line ∷ lines) failed before) (sym whole) (record {
      told = told_line before.current line one.asked l.printed ∷ later.told;
      rest = later.rest;
      lines_are = ap (λ (k : List (List ℕ)). line ∷ k) later.lines_are;
      read = later.read;
      walked = (l, line_does line before first one, inr (none, later.walked));
      halted = λ fault is. (l, line_does line before first one, inr (none, later.halted fault is));
      source = later.source;
      sink = λ out. any_later first.made.out after.made.out (later.sink out);
      fine = λ other. any_failed-append is_failure first.made.out after.made.out faulted ∙ later.fine other;
      wrote = wrote_then first.made.out after.made.out l.printed (printed_by later.told) faulted one.wrote later.wrote;
      asked = ap (λ (es : List Asked). es ++ after.made.desk) one.asked_is ∙ ap (λ (es : List Asked). one.asked ++ es) later.asked;
      silent = ap (λ (es : List Happened). es ++ after.made.up) one.silent ∙ later.silent;
    })
line_then line lines failed before first one (Err halt) next after run went_is does whole then_ =
    let l = one.line_is in
    let faulted : any_failed is_failure first.made.out ≡ not (went_by (Err halt)) = one.failed ∙ ap (λ (w : Result (Unit {0}) Halt). not (went_by w)) went_is in
    let whole' : run ≡ run_with (stop_of halt, l.now) (all.joined first.made all.nothing) first.left = whole ∙ ap (prepend all first.made) does in
    let out : (all.joined first.made all.nothing).out ≡ first.made.out = append-nil first.made.out in
    subst (Tells (line ∷ lines) failed before) (sym whole') (record {
      told = told_line before.current line one.asked l.printed ∷ [];
      rest = lines;
      lines_are = refl;
      read = λ is. absurd (stop_not_end halt is);
      walked = (l, line_does line before first one, inl (refl, refl));
      halted = λ fault is. (l, line_does line before first one, inl (refl, halts_by l halt fault (subst (halted_by l) went_is one.halted) is));
      source = λ is. absurd (stop_not_input halt is);
      sink = λ same. ap (any_failed is_failure) out ∙ output_by halt _ faulted same;
      fine = λ other. ap (any_failed is_failure) out ∙ fine_by halt _ faulted other;
      wrote = wrote_as first.made.out (first.made.out ++ []) l.printed (l.printed ++ []) (sym (append-nil first.made.out)) (sym (append-nil l.printed)) one.wrote;
      asked = ap (λ (es : List Asked). es ++ []) one.asked_is;
      silent = ap (λ (es : List Happened). es ++ []) one.silent;
    })

line_told : (line : List ℕ) (lines : List (List ℕ)) (failed : Bool) (before : State) (answers : Answers) (run : ShellRun) (next : State → RunMachine (Stop × State))
    → and_then all (Carries line before) (goes_on next) answers run
    → ((st : State) (answers : Answers) (r : ShellRun) → next st answers r → Tells lines failed st r)
    → Tells (line ∷ lines) failed before run
line_told line lines failed before answers run next does then_ =
    let one = one_line line before answers does.before does.begins in
    let pair : Result (Unit {0}) Halt → State → Carried = λ w s. (w, s) in
    line_then line lines failed before does.before one does.before.result.0 next does.after run refl
    (subst (λ (s : State). goes_on next (pair does.before.result.0 s) does.before.left does.after) one.state does.goes_on)
    does.whole then_

input_ended : (before : State) (answers : Answers) (run : ShellRun) → give all (End, before) answers run → Tells [] false before run
input_ended before answers run does =
    subst (Tells [] false before) (sym does) (record {
      told = [];
      rest = [];
      lines_are = refl;
      read = λ is. refl;
      walked = refl;
      halted = λ fault is. absurd (cc);
      source = λ is. absurd (cc);
      sink = λ is. absurd (cc);
      fine = λ none. refl;
      wrote = wrote_none;
      asked = refl;
      silent = refl;
    })

at_end : (failed : Bool) (begun : List ℕ) (before : State) (answers : Answers) (run : ShellRun) → AtEnd failed begun before answers run → Tells (lines_from [] begun) failed before run
at_end true begun before answers run does =
    subst (Tells (lines_from [] begun) true before) (sym does) (record {
      told = [];
      rest = lines_from [] begun;
      lines_are = refl;
      read = λ is. absurd (cc);
      walked = refl;
      halted = λ fault is. absurd (cc);
      source = λ is. refl;
      sink = λ is. absurd (cc);
      fine = λ none. refl;
      wrote = wrote_none;
      asked = refl;
      silent = refl;
    })
at_end false [] before answers run does = input_ended before answers run does
at_end false (b ∷ begun) before answers run does =
    line_told (b ∷ begun) [] false before answers run (λ st. give all (End, st)) does input_ended

by_byte : (test : Bool) (ends goes : List (List ℕ)) (failed : Bool) (before : State) (run : ShellRun) (P Q : Type 0) → MatchBool test P Q → (P → Tells ends failed before run) → (Q → Tells goes failed before run)
    → Tells (if test then ends else goes) failed before run
by_byte true ends goes failed before run P Q does one two = one does
by_byte false ends goes failed before run P Q does one two = two does

pub shell_told : (bytes : List ℕ) (failed : Bool) (begun : List ℕ) (before : State) (answers : Answers) (run : ShellRun) → Shell bytes failed begun before answers run → Tells (lines_from bytes begun) failed before run
unfolding Shell
shell_told [] failed begun before answers run does = at_end failed begun before answers run does
shell_told (b ∷ bytes) failed begun before answers run does =
    by_byte (b == 10) (without_return begun ∷ lines_from bytes []) (lines_from bytes (begun ++ b ∷ [])) failed before run _ _ does
    (λ ends. line_told (without_return begun) (lines_from bytes []) failed before answers run (λ st. Shell bytes failed [] st) ends (λ st answers r does. shell_told bytes failed [] st answers r does))
    (λ more. shell_told bytes failed (begun ++ b ∷ []) before answers run more)
