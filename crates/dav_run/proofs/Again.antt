-- A machine looks at the answers to its own calls alone.
use Rattle.std.proofs.Common.{◌≡◌, ℕ, List, [], ◌∷◌, drop, Bool, true, false, Option, Some, None, Ok, Err, refl, sym, ◌∙◌, ap, subst}
use Rattle.dav_machine.specs.Log.{event}
use Rattle.dav_machine.specs.Devices.{Devices, one_device, answers_before}
use Rattle.dav_machine.specs.Machine.{Run, run_with, Machine, prepend, give, and_then}
use Rattle.dav_machine.specs.Part.{Part, lift}
use Rattle.dav_edge.specs.Device.{Send, Fails, Goes, Takes, Gives, Answer, Happened, happened}
use Rattle.dav_edge.specs.Whole.{Sends}
use Rattle.dav_text.specs.Path.{PathParts}
use Rattle.dav_deeds.specs.DeskTable.{DeskTable}
use Rattle.dav_deeds.specs.declared.fault.DeskFault.{DeskFault}
use Rattle.dav_upload.specs.Asking.{Asking, Met, Asked, Answered, answer_met, table_met, Asks}
use Rattle.dav_run.specs.declared.cause.Cause.{Cause}
use Rattle.dav_run.specs.declared.cause.Cause.TheVariants.{Crowded, Limit, Memory, Disk, Cache}
use Rattle.dav_run.specs.Causes.{cause_of}
use Rattle.dav_run.specs.Devices.{all, the_sink, the_desk}
use Rattle.dav_run.specs.Shell.{State, with_table, store_ask, forget_ask, OnCrowded, refused, stored, StoresOr, StillCrowded, unforgotten, forgotten, makes_room, Lines, nothing, syntax, puts, memory, written, writes, Carries}

abbrev pub Again : {M A R : Type 0} → Devices M A → Machine M A R → Type 0
Again {M} {A} {R} devices m = (answers : A) (r : Run M A R) (more : A) → m answers r → m (devices.answered r.made more) (run_with r.result r.made more)

pub again_give : {M A R : Type 0} (devices : Devices M A) (x : R) → Again devices (give devices x)
again_give {M} {A} {R} devices x answers r more does =
    subst (λ (q : Run M A R). give devices x (devices.answered q.made more) (run_with q.result q.made more)) (sym does)
    (ap (λ (left : A). let run : Run M A R = run_with x devices.nothing left in run) (sym (devices.answered_nothing more)))

pub again_then : {M A R S : Type 0} (devices : Devices M A) (f : Machine M A R) (next : R → Machine M A S) → Again devices f → ((x : R) → Again devices (next x)) → Again devices (and_then devices f next)
again_then {M} {A} {R} {S} devices f next first then_ answers r more d =
    let b = d.before in
    let a = d.after in
    let tail : A = devices.answered a.made more in
    subst (λ (q : Run M A S). and_then devices f next (devices.answered q.made more) (run_with q.result q.made more)) (sym d.whole)
    (record {
      before = run_with b.result b.made tail;
      after = run_with a.result a.made more;
      begins = subst (λ (x : A). f x (run_with b.result b.made tail)) (sym (devices.answered_joined b.made a.made more)) (first answers b tail d.begins);
      goes_on = then_ b.result b.left a more d.goes_on;
      whole = refl;
    })

pub again_lift : {N B M A R : Type 0} (part : Devices N B) (whole : Devices M A) (of : Part part whole) (m : Machine N B R) → Again part m → Again whole (lift of m)
again_lift {N} {B} {M} {A} {R} part whole of m one answers r more d =
    let below = d.below in
    subst (λ (q : Run M A R). lift of m (whole.answered q.made more) (run_with q.result q.made more)) (sym d.is)
    (record {
      below = run_with below.result below.made (of.look more);
      does = subst (λ (b : B). m b (run_with below.result below.made (of.look more))) (sym (of.look_answered below.made more)) (one (of.look answers) below (of.look more) d.does);
      is = ap (λ (left : A). let run : Run M A R = run_with below.result (of.calls below.made) left in run) (sym (of.put_answered (of.look more) below.made more ∙ of.put_look more));
    })

abbrev SinkRun : Type 0
SinkRun = Run (List Happened) (List Answer) Bool

pub again_sends : (bytes : List ℕ) → Again one_device (Sends bytes)
unfolding Sends
again_sends [] answers r more does = again_give one_device true answers r more does
again_sends (b ∷ bs) [] r more does = absurd does
again_sends (b ∷ bs) (Fails ∷ rest) r more does =
    let is : r ≡ run_with false (happened (Send (b ∷ bs)) Fails ∷ []) rest = does.is ∙ ap (prepend one_device (happened (Send (b ∷ bs)) Fails ∷ [])) does.does in
    subst (λ (q : SinkRun). Sends (b ∷ bs) (answers_before q.made more) (run_with q.result q.made more)) (sym is)
    (record { rest = run_with false [] more; does = refl; is = refl })
again_sends (b ∷ bs) (Goes ∷ rest) r more does = absurd does
again_sends (b ∷ bs) (Takes n ∷ rest) r more does =
    subst (λ (q : SinkRun). Sends (b ∷ bs) (answers_before q.made more) (run_with q.result q.made more)) (sym does.is)
    (record { rest = run_with does.rest.result does.rest.made more; does = again_sends (drop n (b ∷ bs)) rest does.rest more does.does; is = refl })
again_sends (b ∷ bs) (Gives piece ∷ rest) r more does = absurd does

abbrev AskRun : Type 0
AskRun = Run (List Asked) (List Met) (Answered × DeskTable)

pub again_asks : (t : DeskTable) (a : Asking) → Again one_device (Asks t a)
again_asks t a [] r more does = absurd does
again_asks t a (met ∷ rest) r more does =
    let is : r ≡ run_with (answer_met t a met, table_met t a met) (event a met ∷ []) rest = does.is ∙ ap (prepend one_device (event a met ∷ [])) does.does in
    subst (λ (q : AskRun). Asks t a (answers_before q.made more) (run_with q.result q.made more)) (sym is)
    (record { rest = run_with (answer_met t a met, table_met t a met) [] more; does = refl; is = refl })

-- a line on the desk

again_still : (oldest : PathParts) (st : State) → Again one_device (StillCrowded oldest st)
again_still oldest st answers r more d = record { is = d.is; gives = again_give one_device r.result answers r more d.gives }

again_refused : (crowded : OnCrowded) → ((oldest : PathParts) (st : State) → Again one_device (crowded oldest st)) → (cause : Cause) (st : State) → Again one_device (refused crowded cause st)
again_refused crowded again (Crowded oldest) st = again oldest st
again_refused crowded again (Limit which) st = again_give one_device _
again_refused crowded again Memory st = again_give one_device _
again_refused crowded again Disk st = again_give one_device _
again_refused crowded again (Cache fault) st = again_give one_device _

again_stored : (path : PathParts) (bytes : List ℕ) (crowded : OnCrowded) → ((oldest : PathParts) (st : State) → Again one_device (crowded oldest st)) → (answered : Answered) (st : State)
    → Again one_device (stored path bytes crowded answered st)
again_stored path bytes crowded again (Ok answer) st = again_give one_device _
again_stored path bytes crowded again (Err fault) st = again_refused crowded again (cause_of fault) st

again_stores : (path : PathParts) (bytes : List ℕ) (crowded : OnCrowded) → ((oldest : PathParts) (st : State) → Again one_device (crowded oldest st)) → (st : State) → Again one_device (StoresOr path bytes crowded st)
again_stores path bytes crowded again st =
    again_then one_device (Asks st.table (store_ask path bytes)) (λ r. stored path bytes crowded r.0 (with_table st r.1)) (again_asks st.table (store_ask path bytes))
    (λ x. again_stored path bytes crowded again x.0 (with_table st x.1))

again_unforgotten : (cause : Cause) (st : State) → Again one_device (unforgotten cause st)
again_unforgotten (Crowded other) st = again_give one_device _
again_unforgotten (Limit which) st = again_give one_device _
again_unforgotten Memory st = again_give one_device _
again_unforgotten Disk st = again_give one_device _
again_unforgotten (Cache fault) st = again_give one_device _

again_forgotten : (path : PathParts) (bytes : List ℕ) (answered : Answered) (st : State) → Again one_device (forgotten path bytes answered st)
again_forgotten path bytes (Ok answer) st = again_stores path bytes StillCrowded again_still st
again_forgotten path bytes (Err fault) st = again_unforgotten (cause_of fault) st

again_room : (path : PathParts) (bytes : List ℕ) (oldest : PathParts) (st : State) → Again one_device (makes_room path bytes oldest st)
again_room path bytes oldest st =
    again_then one_device (Asks st.table (forget_ask oldest)) (λ r. forgotten path bytes r.0 (with_table st r.1)) (again_asks st.table (forget_ask oldest))
    (λ x. again_forgotten path bytes x.0 (with_table st x.1))

pub again_lines : (before : State) (line : List ℕ) → Again one_device (Lines before line)
again_lines before line answers r more (nothing empty does) = nothing empty (again_give one_device _ answers r more does)
again_lines before line answers r more (syntax some none does) = syntax some none (again_give one_device _ answers r more does)
again_lines before line answers r more (puts path bytes put does) = puts path bytes put (again_stores path bytes (makes_room path bytes) (again_room path bytes) before answers r more does)
again_lines before line answers r more (memory does) = memory (again_give one_device _ answers r more does)

-- a line and its answer

again_writes : (printed : List ℕ) (now : State) (fault : Option DeskFault) → Again all (writes printed now fault)
again_writes printed now None =
    again_then all (lift the_sink (Sends printed)) (λ went. give all (written now went)) (again_lift one_device all the_sink (Sends printed) (again_sends printed)) (λ went. again_give all (written now went))
again_writes printed now (Some fault) = again_give all _

pub again_carries : (line : List ℕ) (before : State) → Again all (Carries line before)
again_carries line before =
    again_then all (lift the_desk (Lines before line)) (λ l. writes l.printed l.now l.fault) (again_lift one_device all the_desk (Lines before line) (again_lines before line)) (λ l. again_writes l.printed l.now l.fault)
