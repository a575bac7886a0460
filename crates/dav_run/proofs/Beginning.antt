-- A run begins as every run of the same input and the same first answers that has memory throughout.
use Rattle.std.proofs.Common.{◌≡◌, ◌≤◌, ◌+◌, inl, inr, ℕ, suc, List, [], ◌∷◌, ◌++◌, map, length, Bool, true, false, not, MatchBool, if◌then◌else◌, ◌==◌, min, None, Result, Ok, Err, refl, sym, ◌∙◌, ap, subst, append_assoc, arith, lit≤}
use Rattle.dav_machine.specs.Devices.{answers_before, answers_before-append}
use Rattle.dav_machine.specs.Machine.{run_with, prepend, give, and_then}
use Rattle.dav_edge.specs.Device.{Answer, Happened, taken}
use Rattle.dav_edge.proofs.Taking.{taken-append}
use Rattle.dav_text.specs.Path.{PathParts}
use Rattle.dav_deeds.specs.DeskTable.{DeskTable}
use Rattle.dav_upload.specs.Asking.{Met, Asked}
use Rattle.dav_run.specs.declared.stop.Halt.{Halt}
use Rattle.dav_run.specs.declared.stop.Stop.{Stop}
use Rattle.dav_run.specs.declared.stop.Stop.TheVariants.{End, Input}
use Rattle.dav_run.specs.Devices.{Made, Answers, answers_of, all, RunMachine}
use Rattle.dav_run.specs.Line.{without_return, lines_from}
use Rattle.dav_run.specs.Shell.{State, fresh_state, counted, Lined, Carried, Carries, goes_on, AtEnd, Shell}
use Rattle.dav_run.specs.Kept.{Told, line_of, asked_by, LineDoes, Walks, printed_by}
use Rattle.dav_run.specs.Function.{Carried as AllCarried, BeginsWith}
use Rattle.dav_run.proofs.Again.{again_carries}
use Rattle.dav_run.proofs.Coming.{Comes, closed, limit, crowded, starves, stopped, LineComes, empty, refuses, stores, starving, line_comes}
use Rattle.dav_run.proofs.OneRun.{StopFed, CarriedFed, one_carries, line_fed, goes_fed, shell_fed, end_fed}
use Rattle.dav_run.proofs.Telling.{ShellRun, LineRun, One, went_by, halted_by, now_by, one_line, told_line, shell_told}

-- how many lines are counted

comes_counts : (path : PathParts) (bytes : List ℕ) (before : State) (l : Lined) → Comes path bytes before l → l.now.done ≡ before.done
comes_counts path bytes before l (closed t is) = ap (λ (x : Lined). x.now.done) is
comes_counts path bytes before l (limit t which is) = ap (λ (x : Lined). x.now.done) is
comes_counts path bytes before l (crowded t oldest is) = ap (λ (x : Lined). x.now.done) is
comes_counts path bytes before l (starves t is) = ap (λ (x : Lined). x.now.done) is
comes_counts path bytes before l (stopped t fault is) = ap (λ (x : Lined). x.now.done) is

line_counts : (before : State) (line : List ℕ) (l : Lined) → LineComes before line l → l.now.done ≡ before.done
line_counts before line l (empty none is) = ap (λ (x : Lined). x.now.done) is
line_counts before line l (refuses some not_put is) = ap (λ (x : Lined). x.now.done) is
line_counts before line l (stores path bytes put comes) = comes_counts path bytes before l comes
line_counts before line l (starving is) = ap (λ (x : Lined). x.now.done) is

comes_starves : (path : PathParts) (bytes : List ℕ) (before : State) (l : Lined) → Comes path bytes before l → before.starved ≡ true → l.now.starved ≡ true
comes_starves path bytes before l (closed t is) h = ap (λ (x : Lined). x.now.starved) is ∙ h
comes_starves path bytes before l (limit t which is) h = ap (λ (x : Lined). x.now.starved) is ∙ h
comes_starves path bytes before l (crowded t oldest is) h = ap (λ (x : Lined). x.now.starved) is ∙ h
comes_starves path bytes before l (starves t is) h = ap (λ (x : Lined). x.now.starved) is
comes_starves path bytes before l (stopped t fault is) h = ap (λ (x : Lined). x.now.starved) is ∙ h

line_starves : (before : State) (line : List ℕ) (l : Lined) → LineComes before line l → before.starved ≡ true → l.now.starved ≡ true
line_starves before line l (empty none is) h = ap (λ (x : Lined). x.now.starved) is ∙ h
line_starves before line l (refuses some not_put is) h = ap (λ (x : Lined). x.now.starved) is ∙ h
line_starves before line l (stores path bytes put comes) h = comes_starves path bytes before l comes h
line_starves before line l (starving is) h = ap (λ (x : Lined). x.now.starved) is

does_comes : (before : State) (told : Told) (l : Lined) → LineDoes before told l → LineComes before told.line l
does_comes before told l does = line_comes before told.line _ _ does.does

starved_count : (s : State) → s.starved ≡ true → (counted s).done ≡ s.done
starved_count s h = ap (λ (b : Bool). if b then s.done else min (s.done + 1) 18446744073709551615) h

-- after a want of memory no line is counted
walk_counts : (told : List Told) (before end : State) → Walks before told end → before.starved ≡ true → end.done ≡ before.done
walk_counts [] before end walks h = ap (λ (s : State). s.done) walks
walk_counts (t ∷ told) before end (l, does, inl (none, is)) h = ap (λ (s : State). s.done) is ∙ line_counts before t.line l (does_comes before t l does)
walk_counts (t ∷ told) before end (l, does, inr (went, walks)) h =
    let comes = does_comes before t l does in
    let starved = line_starves before t.line l comes h in
    walk_counts told (counted l.now) end walks starved ∙ starved_count l.now starved ∙ line_counts before t.line l comes

shell_counts : (bytes : List ℕ) (failed : Bool) (begun : List ℕ) (st : State) (answers : Answers) (run : ShellRun) → Shell bytes failed begun st answers run → st.starved ≡ true → run.result.1.done ≡ st.done
shell_counts bytes failed begun st answers run does starved =
    let told = shell_told bytes failed begun st answers run does in walk_counts told.told st run.result.1 told.walked starved

-- the beginning

-- the answers to the early calls and asks, and then others
abbrev pub led : List Happened → List Asked → Answers → Answers
led early asks answers = answers_of (answers_before early answers.out) answers.up (answers_before asks answers.desk)

-- of answers that begin with these no run with memory throughout begins otherwise
abbrev pub Only : RunMachine (Stop × State) → List Happened → List Asked → Type 0
Only machine early asks = (answers : Answers) (q : ShellRun) → machine (led early asks answers) q → StopFed q.result → BeginsWith early q.made.out × BeginsWith asks q.made.desk

-- The first of the lines were carried out with memory and their answers written, as many as are counted. Of the same
-- first answers no run with memory throughout begins otherwise.
pub record Front (lines : List (List ℕ)) (machine : RunMachine (Stop × State)) (before : State) (run : ShellRun) : Type 0 where
  pub first : List Told
  pub rest : List (List ℕ)
  pub lines_are : lines ≡ map line_of first ++ rest
  pub now : State
  pub carried : AllCarried before first now
  pub fed : now.starved ≡ false
  pub done : now.done ≡ run.result.1.done
  pub early : List Happened
  pub begins : BeginsWith early run.made.out
  pub asks : BeginsWith (asked_by first) run.made.desk
  pub output : taken early ≡ printed_by first
  pub only : Only machine early (asked_by first)

-- no line, where none is counted from here
nothing_first : (lines : List (List ℕ)) (machine : RunMachine (Stop × State)) (before : State) (run : ShellRun) → before.starved ≡ false → before.done ≡ run.result.1.done → Front lines machine before run
nothing_first lines machine before run fed done = record {
  first = [];
  rest = lines;
  lines_are = refl;
  now = before;
  carried = refl;
  fed = fed;
  done = done;
  early = [];
  begins = (run.made.out, refl);
  asks = (run.made.desk, refl);
  output = refl;
  only = λ answers q does enough. ((q.made.out, refl), (q.made.desk, refl));
}

abbrev then_next : List ℕ → State → (State → RunMachine (Stop × State)) → RunMachine (Stop × State)
then_next line before next = and_then all (Carries line before) (goes_on next)

abbrev Back : (State → RunMachine (Stop × State)) → Type 0
Back next = (s : State) (left : Answers) (r : ShellRun) → next s left r → StopFed r.result → s.starved ≡ false

abbrev Counts : (State → RunMachine (Stop × State)) → Type 0
Counts next = (s : State) (left : Answers) (r : ShellRun) → next s left r → s.starved ≡ true → r.result.1.done ≡ s.done

abbrev Fronts : List (List ℕ) → (State → RunMachine (Stop × State)) → Type 0
Fronts lines next = (s : State) (left : Answers) (r : ShellRun) → next s left r → s.starved ≡ false → Front lines (next s) s r

abbrev came_to : Result (Unit {0}) Halt → State → Carried
came_to went now = (went, now)

-- the answers to a line's calls and asks, and then those to what follows
led_first : (m : Made) (early : List Happened) (asks : List Asked) (left : Answers) → m.up ≡ [] → led (m.out ++ early) (m.desk ++ asks) left ≡ all.answered m (led early asks left)
led_first m early asks left silent =
    ap (λ (o : List Answer). answers_of o left.up (answers_before (m.desk ++ asks) left.desk)) (answers_before-append m.out early left.out)
    ∙ ap (λ (d : List Met). answers_of (answers_before m.out (answers_before early left.out)) left.up d) (answers_before-append m.desk asks left.desk)
    ∙ ap (λ (es : List Happened). answers_of (answers_before m.out (answers_before early left.out)) (answers_before es left.up) (answers_before m.desk (answers_before asks left.desk))) (sym silent)

-- what begins with more
begins_more : {X : Type 0} (first early made behind : List X) → made ≡ first ++ behind → BeginsWith early behind → BeginsWith (first ++ early) made
begins_more {X} first early made behind is begins = (begins.0, is ∙ ap (λ (l : List X). first ++ l) begins.1 ∙ sym (append_assoc first early begins.0))

-- a run over a line and what follows, of answers that begin with those to the line's calls and asks
line_only : (line : List ℕ) (before : State) (next : State → RunMachine (Stop × State)) (answers : Answers) (first : LineRun) (now : State) (early : List Happened) (asks : List Asked) (done : Unit {0})
    → Carries line before answers first → first.result ≡ came_to (Ok done) (counted now) → now.starved ≡ false → first.made.up ≡ [] → Back next → Only (next (counted now)) early asks
    → Only (then_next line before next) (first.made.out ++ early) (first.made.desk ++ asks)
line_only line before next answers first now early asks done carries result enough silent back later left q does fed =
    let tail : Answers = led early asks left in
    let e : then_next line before next (all.answered first.made tail) q = subst (λ (a : Answers). then_next line before next a q) (led_first first.made early asks left silent) does in
    let fed_after : StopFed e.after.result = subst (λ (r : ShellRun). StopFed r.result) e.whole fed in
    let fed_line : CarriedFed e.before.result = goes_fed next back e.before.result e.before.left e.after e.goes_on fed_after in
    let fed_first : CarriedFed first.result = ap (λ (x : Carried). x.1.starved) result ∙ enough in
    let same : e.before ≡ run_with first.result first.made tail =
    one_carries line before (all.answered first.made tail) e.before (run_with first.result first.made tail) e.begins (again_carries line before answers first tail carries) fed_line fed_first in
    let goes : goes_on next first.result tail e.after = subst (λ (r : LineRun). goes_on next r.result r.left e.after) same e.goes_on in
    let goes_now : next (counted now) tail e.after = subst (λ (x : Carried). goes_on next x tail e.after) result goes in
    let rest = later left e.after goes_now fed_after in
    let made : q.made ≡ all.joined first.made e.after.made =
    ap (λ (r : ShellRun). r.made) e.whole ∙ ap (λ (r : LineRun). all.joined r.made e.after.made) same in (
      begins_more first.made.out early q.made.out e.after.made.out (ap (λ (m : Made). m.out) made) rest.0,
      begins_more first.made.desk asks q.made.desk e.after.made.desk (ap (λ (m : Made). m.desk) made) rest.1,
    )

front_by : (line : List ℕ) (lines : List (List ℕ)) (before : State) (next : State → RunMachine (Stop × State)) (answers : Answers) (first : LineRun) (after run : ShellRun)
    → Carries line before answers first → (one : One line before first) (went : Result (Unit {0}) Halt) (starved : Bool) → first.result.0 ≡ went → one.line_is.now.starved ≡ starved
    → goes_on next (went, now_by one.line_is.now went) first.left after → run ≡ prepend all first.made after
    → before.starved ≡ false → Back next → Counts next → Fronts lines next
    → Front (line ∷ lines) (then_next line before next) before run
front_by line lines before next answers first after run carries one (Err halt) starved went_is enough goes whole fed back counts then_ =
    nothing_first (line ∷ lines) (then_next line before next) before run fed
    (sym (ap (λ (r : ShellRun). r.result.1.done) whole ∙ ap (λ (r : ShellRun). r.result.1.done) goes ∙ line_counts before line one.line_is (line_comes before line _ _ one.does)))
front_by line lines before next answers first after run carries one (Ok done) true went_is enough goes whole fed back counts then_ =
    let l = one.line_is in
    nothing_first (line ∷ lines) (then_next line before next) before run fed
    (sym (ap (λ (r : ShellRun). r.result.1.done) whole ∙ counts (counted l.now) first.left after goes enough ∙ starved_count l.now enough ∙ line_counts before line l (line_comes before line _ _ one.does)))
front_by line lines before next answers first after run carries one (Ok done) false went_is enough goes whole fed back counts then_ =
    let l = one.line_is in
    let later = then_ (counted l.now) first.left after goes enough in
    let state : first.result.1 ≡ counted l.now = one.state ∙ ap (now_by l.now) went_is in
    let result : first.result ≡ came_to (Ok done) (counted l.now) =
    ap (λ (w : Result (Unit {0}) Halt). came_to w first.result.1) went_is ∙ ap (came_to (Ok done)) state in
    let none : l.fault ≡ None = subst (halted_by l) went_is one.halted in
    let printed : taken first.made.out ≡ l.printed = one.wrote.whole (one.failed ∙ ap (λ (w : Result (Unit {0}) Halt). not (went_by w)) went_is) in
    let made : run.made ≡ all.joined first.made after.made = ap (λ (r : ShellRun). r.made) whole in
    let does : LineDoes before (told_line before.current line one.asked l.printed) l = record { at = refl; does = one.does; printed = refl } in
    record {
      first = told_line before.current line one.asked l.printed ∷ later.first;
      rest = later.rest;
      lines_are = ap (λ (ls : List (List ℕ)). line ∷ ls) later.lines_are;
      now = later.now;
      carried = (l, does, none, later.carried);
      fed = later.fed;
      done = later.done ∙ sym (ap (λ (r : ShellRun). r.result.1.done) whole);
      early = first.made.out ++ later.early;
      begins = begins_more first.made.out later.early run.made.out after.made.out (ap (λ (m : Made). m.out) made) later.begins;
      asks = begins_more one.asked (asked_by later.first) run.made.desk after.made.desk (ap (λ (m : Made). m.desk) made ∙ ap (λ (es : List Asked). es ++ after.made.desk) one.asked_is) later.asks;
      output = taken-append first.made.out later.early ∙ ap (λ (b : List ℕ). b ++ taken later.early) printed ∙ ap (λ (b : List ℕ). l.printed ++ b) later.output;
      only = subst (λ (es : List Asked). Only (then_next line before next) (first.made.out ++ later.early) (es ++ asked_by later.first)) one.asked_is
          (line_only line before next answers first l.now later.early (asked_by later.first) done carries result enough one.silent back later.only);
    }

line_front : (line : List ℕ) (lines : List (List ℕ)) (before : State) (next : State → RunMachine (Stop × State)) (answers : Answers) (run : ShellRun) → then_next line before next answers run
    → before.starved ≡ false → Back next → Counts next → Fronts lines next
    → Front (line ∷ lines) (then_next line before next) before run
line_front line lines before next answers run does fed back counts then_ =
    let one = one_line line before answers does.before does.begins in
    front_by line lines before next answers does.before does.after run does.begins one does.before.result.0 one.line_is.now.starved refl refl
    (subst (λ (s : State). goes_on next (came_to does.before.result.0 s) does.before.left does.after) one.state does.goes_on)
    does.whole fed back counts then_

given_counts : (stop : Stop) (st : State) (answers : Answers) (run : ShellRun) → give all (stop, st) answers run → st.done ≡ run.result.1.done
given_counts stop st answers run does = sym (ap (λ (r : ShellRun). r.result.1.done) does)

end_front : (failed : Bool) (begun : List ℕ) (st : State) (answers : Answers) (run : ShellRun) → AtEnd failed begun st answers run → st.starved ≡ false → Front (lines_from [] begun) (AtEnd failed begun st) st run
end_front true begun st answers run does fed = nothing_first (lines_from [] begun) (AtEnd true begun st) st run fed (given_counts Input st answers run does)
end_front false [] st answers run does fed = nothing_first [] (AtEnd false [] st) st run fed (given_counts End st answers run does)
end_front false (b ∷ begun) st answers run does fed =
    line_front (b ∷ begun) [] st (λ s. give all (End, s)) answers run does fed end_fed
    (λ s left r gives starved. sym (given_counts End s left r gives))
    (λ s left r gives enough. nothing_first [] (give all (End, s)) s r enough (given_counts End s left r gives))

by_byte : (test : Bool) (ends goes : List (List ℕ)) (first second : RunMachine (Stop × State)) (before : State) (answers : Answers) (run : ShellRun) → MatchBool test (first answers run) (second answers run)
    → (first answers run → Front ends first before run) → (second answers run → Front goes second before run)
    → Front (if test then ends else goes) (λ a q. MatchBool test (first a q) (second a q)) before run
by_byte true ends goes first second before answers run does one two = one does
by_byte false ends goes first second before answers run does one two = two does

pub shell_front : (bytes : List ℕ) (failed : Bool) (begun : List ℕ) (st : State) (answers : Answers) (run : ShellRun) → Shell bytes failed begun st answers run → st.starved ≡ false
    → Front (lines_from bytes begun) (Shell bytes failed begun st) st run
unfolding Shell
shell_front [] failed begun st answers run does fed = end_front failed begun st answers run does fed
shell_front (b ∷ bytes) failed begun st answers run does fed =
    by_byte (b == 10) (without_return begun ∷ lines_from bytes []) (lines_from bytes (begun ++ b ∷ []))
    (then_next (without_return begun) st (λ s. Shell bytes failed [] s)) (Shell bytes failed (begun ++ b ∷ []) st) st answers run does
    (λ ends. line_front (without_return begun) (lines_from bytes []) st (λ s. Shell bytes failed [] s) answers run ends fed
    (λ s. shell_fed bytes failed [] s) (λ s. shell_counts bytes failed [] s) (λ s left r goes enough. shell_front bytes failed [] s left r goes enough))
    (λ more. shell_front bytes failed (begun ++ b ∷ []) st answers run more fed)

-- how many lines are counted with memory throughout

carried_fed : (told : List Told) (before end : State) → AllCarried before told end → end.starved ≡ false → before.starved ≡ false
carried_fed [] before end carried fed = sym (ap (λ (s : State). s.starved) carried) ∙ fed
carried_fed (t ∷ told) before end (l, does, none, carried) fed = line_fed before t.line l (does_comes before t l does) (carried_fed told (counted l.now) end carried fed)

fed_count : (s : State) → s.starved ≡ false → (counted s).done ≡ min (s.done + 1) 18446744073709551615
fed_count s h = ap (λ (b : Bool). if b then s.done else min (s.done + 1) 18446744073709551615) h

carried_counts : (told : List Told) (before end : State) → AllCarried before told end → end.starved ≡ false → before.done ≤ 18446744073709551615 → end.done ≡ min (before.done + length told) 18446744073709551615
carried_counts [] before end carried fed few = ap (λ (s : State). s.done) carried ∙ none before.done 18446744073709551615 few
  where
    none : (done most : ℕ) → done ≤ most → done ≡ min (done + 0) most
    none done most h = omega arith
carried_counts (t ∷ told) before end (l, does, went, carried) fed few =
    let enough : l.now.starved ≡ false = carried_fed told (counted l.now) end carried fed in
    let one : (counted l.now).done ≡ min (before.done + 1) 18446744073709551615 =
    fed_count l.now enough ∙ ap (λ (n : ℕ). min (n + 1) 18446744073709551615) (line_counts before t.line l (does_comes before t l does)) in
    carried_counts told (counted l.now) end carried fed (at_most (counted l.now).done before.done 18446744073709551615 one)
    ∙ ap (λ (n : ℕ). min (n + length told) 18446744073709551615) one
    ∙ more before.done (length told) 18446744073709551615
  where
    at_most : (n done most : ℕ) → n ≡ min (done + 1) most → n ≤ most
    at_most n done most is = omega arith

    more : (done len most : ℕ) → min (min (done + 1) most + len) most ≡ min (done + suc len) most
    more done len most = omega arith

from_none : (done len most : ℕ) → done ≡ min (0 + len) most → done ≡ min len most
from_none done len most is = omega arith

pub first_counts : (current : PathParts) (table : DeskTable) (told : List Told) (end : State) → AllCarried (fresh_state current table) told end → end.starved ≡ false → end.done ≡ min (length told) 18446744073709551615
first_counts current table told end carried fed = from_none end.done (length told) 18446744073709551615 (carried_counts told (fresh_state current table) end carried fed (lit≤ tt))
