-- What a line comes to.
use Rattle.std.proofs.Common.{◌≡◌, ◌≢◌, ℕ, List, [], length, Some, None, Ok, Err, sym, ◌∙◌, ap, subst}
use Rattle.dav_machine.specs.Devices.{one_device}
use Rattle.dav_machine.specs.Machine.{Run, give}
use Rattle.dav_text.specs.Path.{PathParts}
use Rattle.dav_text.specs.declared.which.Which.{Which}
use Rattle.dav_deeds.specs.DeskTable.{DeskTable}
use Rattle.dav_deeds.specs.declared.fault.DeskFault.{DeskFault}
use Rattle.dav_deeds.specs.declared.fault.DeskFault.TheVariants as faults
use Rattle.dav_upload.specs.Asking.{Met, Asked, Answered}
use Rattle.dav_run.specs.declared.cause.Cause.{Cause}
use Rattle.dav_run.specs.declared.cause.Cause.TheVariants.{Crowded, Limit, Memory, Disk, Cache}
use Rattle.dav_run.specs.Causes.{cause_of}
use Rattle.dav_run.specs.Line.{IsPut, IsNoPut}
use Rattle.dav_run.specs.Shell.{State, with_table, faulted, starved, closed_line, limit_line, crowded_line, memory_line, syntax_line, Lined, lined, OnCrowded, refused, stored, StoresOr, IsStillCrowded, tells as still_tells, memory as still_memory, StillCrowded, unforgotten, forgotten, makes_room, Lines, nothing, syntax, puts, memory}

abbrev pub DeskRun : Type 0
DeskRun = Run (List Asked) (List Met) Lined

-- what a store comes to: its answer, or why it wasn't made. The state after it is that before it but for the desk's table
pub data Comes (path : PathParts) (bytes : List ℕ) (st : State) (r : Lined) : Type 0 where
  closed : (t : DeskTable) → r ≡ lined (closed_line path (length bytes)) (with_table st t) None → Comes path bytes st r
  limit : (t : DeskTable) (which : Which) → r ≡ lined (limit_line which) (faulted (with_table st t)) None → Comes path bytes st r
  crowded : (t : DeskTable) (oldest : PathParts) → r ≡ lined (crowded_line oldest) (faulted (with_table st t)) None → Comes path bytes st r
  starves : (t : DeskTable) → r ≡ lined memory_line (starved (with_table st t)) None → Comes path bytes st r
  stopped : (t : DeskTable) (fault : DeskFault) → r ≡ lined [] (with_table st t) (Some fault) → Comes path bytes st r

-- the table was another one before
comes_later : (path : PathParts) (bytes : List ℕ) (st : State) (u : DeskTable) (r : Lined) → Comes path bytes (with_table st u) r → Comes path bytes st r
comes_later path bytes st u r (closed t is) = closed t is
comes_later path bytes st u r (limit t which is) = limit t which is
comes_later path bytes st u r (crowded t oldest is) = crowded t oldest is
comes_later path bytes st u r (starves t is) = starves t is
comes_later path bytes st u r (stopped t fault is) = stopped t fault is

result_of : (x : Lined) (answers : List Met) (r : DeskRun) → give one_device x answers r → r.result ≡ x
result_of x answers r does = ap (λ (q : DeskRun). q.result) does

still_comes : (path : PathParts) (bytes : List ℕ) (oldest : PathParts) (st : State) (answers : List Met) (r : DeskRun) → StillCrowded oldest st answers r → Comes path bytes st r.result
still_comes path bytes oldest st answers r d = by d.is
  where
    by : IsStillCrowded oldest st r.result → Comes path bytes st r.result
    by (still_tells is) = crowded st.table oldest is
    by (still_memory is) = starves st.table is

refused_comes : (path : PathParts) (bytes : List ℕ) (on_crowded : OnCrowded) → ((oldest : PathParts) (s : State) (a : List Met) (q : DeskRun) → on_crowded oldest s a q → Comes path bytes s q.result)
    → (cause : Cause) (st : State) (answers : List Met) (r : DeskRun) → refused on_crowded cause st answers r → Comes path bytes st r.result
refused_comes path bytes on_crowded comes (Crowded oldest) st answers r does = comes oldest st answers r does
refused_comes path bytes on_crowded comes (Limit which) st answers r does = limit st.table which (result_of _ answers r does)
refused_comes path bytes on_crowded comes Memory st answers r does = starves st.table (result_of _ answers r does)
refused_comes path bytes on_crowded comes Disk st answers r does = stopped st.table faults.Disk (result_of _ answers r does)
refused_comes path bytes on_crowded comes (Cache fault) st answers r does = stopped st.table fault (result_of _ answers r does)

stored_comes : (path : PathParts) (bytes : List ℕ) (on_crowded : OnCrowded) → ((oldest : PathParts) (s : State) (a : List Met) (q : DeskRun) → on_crowded oldest s a q → Comes path bytes s q.result)
    → (answered : Answered) (st : State) (answers : List Met) (r : DeskRun) → stored path bytes on_crowded answered st answers r → Comes path bytes st r.result
stored_comes path bytes on_crowded comes (Ok answer) st answers r does = closed st.table (result_of _ answers r does)
stored_comes path bytes on_crowded comes (Err fault) st answers r does = refused_comes path bytes on_crowded comes (cause_of fault) st answers r does

stores_comes : (path : PathParts) (bytes : List ℕ) (on_crowded : OnCrowded) → ((oldest : PathParts) (s : State) (a : List Met) (q : DeskRun) → on_crowded oldest s a q → Comes path bytes s q.result)
    → (st : State) (answers : List Met) (r : DeskRun) → StoresOr path bytes on_crowded st answers r → Comes path bytes st r.result
stores_comes path bytes on_crowded comes st answers r d =
    let u : DeskTable = d.before.result.1 in
    subst (Comes path bytes st) (sym (ap (λ (q : DeskRun). q.result) d.whole))
    (comes_later path bytes st u d.after.result (stored_comes path bytes on_crowded comes d.before.result.0 (with_table st u) d.before.left d.after d.goes_on))

unforgotten_comes : (path : PathParts) (bytes : List ℕ) (cause : Cause) (st : State) (answers : List Met) (r : DeskRun) → unforgotten cause st answers r → Comes path bytes st r.result
unforgotten_comes path bytes (Crowded other) st answers r does = stopped st.table (faults.Crowded other) (result_of _ answers r does)
unforgotten_comes path bytes (Limit which) st answers r does = stopped st.table (faults.Limit which) (result_of _ answers r does)
unforgotten_comes path bytes Memory st answers r does = starves st.table (result_of _ answers r does)
unforgotten_comes path bytes Disk st answers r does = stopped st.table faults.Disk (result_of _ answers r does)
unforgotten_comes path bytes (Cache fault) st answers r does = stopped st.table fault (result_of _ answers r does)

forgotten_comes : (path : PathParts) (bytes : List ℕ) (answered : Answered) (st : State) (answers : List Met) (r : DeskRun) → forgotten path bytes answered st answers r → Comes path bytes st r.result
forgotten_comes path bytes (Ok answer) st answers r does = stores_comes path bytes StillCrowded (still_comes path bytes) st answers r does
forgotten_comes path bytes (Err fault) st answers r does = unforgotten_comes path bytes (cause_of fault) st answers r does

room_comes : (path : PathParts) (bytes : List ℕ) (oldest : PathParts) (st : State) (answers : List Met) (r : DeskRun) → makes_room path bytes oldest st answers r → Comes path bytes st r.result
room_comes path bytes oldest st answers r d =
    let u : DeskTable = d.before.result.1 in
    subst (Comes path bytes st) (sym (ap (λ (q : DeskRun). q.result) d.whole))
    (comes_later path bytes st u d.after.result (forgotten_comes path bytes d.before.result.0 (with_table st u) d.before.left d.after d.goes_on))

-- what a line comes to
pub data LineComes (before : State) (line : List ℕ) (r : Lined) : Type 0 where
  empty : line ≡ [] → r ≡ lined [] before None → LineComes before line r
  refuses : line ≢ [] → IsNoPut before.current line → r ≡ lined syntax_line (faulted before) None → LineComes before line r
  stores : (path : PathParts) (bytes : List ℕ) → IsPut before.current line path bytes → Comes path bytes before r → LineComes before line r
  starving : r ≡ lined memory_line (starved before) None → LineComes before line r

pub line_comes : (before : State) (line : List ℕ) (answers : List Met) (r : DeskRun) → Lines before line answers r → LineComes before line r.result
line_comes before line answers r (nothing none does) = empty none (result_of _ answers r does)
line_comes before line answers r (syntax some none does) = refuses some none (result_of _ answers r does)
line_comes before line answers r (puts path bytes put does) = stores path bytes put (stores_comes path bytes (makes_room path bytes) (room_comes path bytes) before answers r does)
line_comes before line answers r (memory does) = starving (result_of _ answers r does)

-- where the desk was stopped nothing is printed
store_stopped : (path : PathParts) (bytes : List ℕ) (st : State) (r : Lined) (fault : DeskFault) → Comes path bytes st r → r.fault ≡ Some fault → r.printed ≡ []
store_stopped path bytes st r fault (closed t is) h = let no : None ≡ Some fault = sym (ap (λ (l : Lined). l.fault) is) ∙ h in absurd (cc)
store_stopped path bytes st r fault (limit t which is) h = let no : None ≡ Some fault = sym (ap (λ (l : Lined). l.fault) is) ∙ h in absurd (cc)
store_stopped path bytes st r fault (crowded t oldest is) h = let no : None ≡ Some fault = sym (ap (λ (l : Lined). l.fault) is) ∙ h in absurd (cc)
store_stopped path bytes st r fault (starves t is) h = let no : None ≡ Some fault = sym (ap (λ (l : Lined). l.fault) is) ∙ h in absurd (cc)
store_stopped path bytes st r fault (stopped t other is) h = ap (λ (l : Lined). l.printed) is

pub line_stopped : (before : State) (line : List ℕ) (r : Lined) (fault : DeskFault) → LineComes before line r → r.fault ≡ Some fault → r.printed ≡ []
line_stopped before line r fault (empty none is) h = ap (λ (l : Lined). l.printed) is
line_stopped before line r fault (refuses some none is) h = let no : None ≡ Some fault = sym (ap (λ (l : Lined). l.fault) is) ∙ h in absurd (cc)
line_stopped before line r fault (stores path bytes put comes) h = store_stopped path bytes before r fault comes h
line_stopped before line r fault (starving is) h = let no : None ≡ Some fault = sym (ap (λ (l : Lined). l.fault) is) ∙ h in absurd (cc)
