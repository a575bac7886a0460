-- Which lines answer a fault, and what lines do to the table of the desk.
use Rattle.std.proofs.Common.{◌≡◌, ◌⊎◌, inl, inr, ℕ, List, [], ◌∷◌, ◌++◌, codes, true, Ok, Err, refl, sym, ◌∙◌, ap, subst, arith}
use Rattle.dav_machine.specs.Log.{event}
use Rattle.dav_machine.specs.Devices.{one_device, answers_before}
use Rattle.dav_machine.specs.Machine.{Run, run_with, prepend, give}
use Rattle.dav_text.specs.Path.{PathParts, escaped}
use Rattle.dav_deeds.specs.DeskTable.{DeskTable}
use Rattle.dav_upload.specs.Asking.{Asking, Met, Asked, Answered, table_met, answer_met, table_through, Asks}
use Rattle.dav_deeds.specs.Legal.{IsOfShell}
use Rattle.dav_run.specs.declared.cause.Cause.{Cause}
use Rattle.dav_run.specs.declared.cause.Cause.TheVariants as causes
use Rattle.dav_run.specs.Causes.{cause_of}
use Rattle.dav_run.specs.Kept.{Told, asked_by, LineDoes, Walks, IsFault, AnyFault}
use Rattle.dav_run.specs.Shell.{State, counted, with_table, Lined, which_name, store_ask, forget_ask, OnCrowded, refused, stored, StoresOr, IsStillCrowded, tells as still_tells, memory as still_memory, StillCrowded, unforgotten, forgotten, makes_room, Lines, nothing, syntax, puts, memory}
use Rattle.dav_run.proofs.Closing.{first_byte}
use Rattle.dav_run.proofs.Coming.{Comes, closed, limit, crowded, starves, stopped, LineComes, empty, refuses, stores, starving, line_comes}

-- what a line prints begins with no fault
no_fault : (told : Told) (n : ℕ) → first_byte told.printed ≡ n → (n ≡ 102 → ⊥) → IsFault told → ⊥
no_fault told n first other fault = other (sym first ∙ ap first_byte fault.1)

-- a line that prints a fault leaves the state faulty, and no other line changes whether it is
record FaultsOne (told : Told) (before now : State) : Type 0 where
  was : before.faulty ≡ true → now.faulty ≡ true
  has : IsFault told → now.faulty ≡ true
  back : now.faulty ≡ true → (before.faulty ≡ true) ⊎ IsFault told

faults_here : (told : Told) (before now : State) → now.faulty ≡ true → IsFault told → FaultsOne told before now
faults_here told before now is fault = record { was = λ h. is; has = λ h. is; back = λ h. inr fault }

faults_same : (told : Told) (before now : State) → now.faulty ≡ before.faulty → (IsFault told → ⊥) → FaultsOne told before now
faults_same told before now is none = record { was = λ h. is ∙ h; has = λ h. absurd (none h); back = λ h. inl (sym is ∙ h) }

faults_put : (told : Told) (path : PathParts) (bytes : List ℕ) (before : State) (l : Lined) → told.printed ≡ l.printed → Comes path bytes before l → FaultsOne told before l.now
faults_put told path bytes before l printed (closed t is) =
    faults_same told before l.now (ap (λ (x : Lined). x.now.faulty) is) (no_fault told 99 (ap first_byte (printed ∙ ap (λ (x : Lined). x.printed) is)) (λ h. absurd (omega arith)))
faults_put told path bytes before l printed (limit t which is) =
    faults_here told before l.now (ap (λ (x : Lined). x.now.faulty) is) (codes "limit " ++ which_name which ++ codes "\n", printed ∙ ap (λ (x : Lined). x.printed) is)
faults_put told path bytes before l printed (crowded t oldest is) =
    faults_here told before l.now (ap (λ (x : Lined). x.now.faulty) is) (codes "crowded " ++ escaped oldest ++ codes "\n", printed ∙ ap (λ (x : Lined). x.printed) is)
faults_put told path bytes before l printed (starves t is) =
    faults_here told before l.now (ap (λ (x : Lined). x.now.faulty) is) (codes "memory\n", printed ∙ ap (λ (x : Lined). x.printed) is)
faults_put told path bytes before l printed (stopped t fault is) =
    faults_same told before l.now (ap (λ (x : Lined). x.now.faulty) is) (no_fault told 0 (ap first_byte (printed ∙ ap (λ (x : Lined). x.printed) is)) (λ h. absurd (omega arith)))

faults_one : (told : Told) (before : State) (l : Lined) → told.printed ≡ l.printed → LineComes before told.line l → FaultsOne told before l.now
faults_one told before l printed (empty none is) =
    faults_same told before l.now (ap (λ (x : Lined). x.now.faulty) is) (no_fault told 0 (ap first_byte (printed ∙ ap (λ (x : Lined). x.printed) is)) (λ h. absurd (omega arith)))
faults_one told before l printed (refuses some none is) =
    faults_here told before l.now (ap (λ (x : Lined). x.now.faulty) is) (codes "syntax early 0\n", printed ∙ ap (λ (x : Lined). x.printed) is)
faults_one told before l printed (stores path bytes put comes) = faults_put told path bytes before l printed comes
faults_one told before l printed (starving is) =
    faults_here told before l.now (ap (λ (x : Lined). x.now.faulty) is) (codes "memory\n", printed ∙ ap (λ (x : Lined). x.printed) is)

-- the state is faulty where it was, or where a line printed a fault
pub record WalkFaults (told : List Told) (before now : State) : Type 0 where
  pub was : before.faulty ≡ true → now.faulty ≡ true
  pub has : AnyFault told → now.faulty ≡ true
  pub back : now.faulty ≡ true → (before.faulty ≡ true) ⊎ AnyFault told

faults_none : (before now : State) → now ≡ before → WalkFaults [] before now
faults_none before now is = record {
  was = λ h. ap (λ (s : State). s.faulty) is ∙ h;
  has = λ h. absurd h;
  back = λ h. inl (sym (ap (λ (s : State). s.faulty) is) ∙ h);
}

faults_more : (t : Told) (told : List Told) (before now end : State) → FaultsOne t before now → WalkFaults told now end → WalkFaults (t ∷ told) before end
faults_more t told before now end one more = record {
  was = λ h. more.was (one.was h);
  has = λ h. elim h [
    | inl here ↦ more.was (one.has here)
    | inr later ↦ more.has later
  ];
  back = λ h. elim (more.back h) [
    | inl was ↦ elim (one.back was) [
      | inl first ↦ inl first
      | inr here ↦ inr (inl here)
    ]
    | inr later ↦ inr (inr later)
  ];
}

does_faults : (t : Told) (before : State) (l : Lined) → LineDoes before t l → FaultsOne t before l.now
does_faults t before l line = faults_one t before l line.printed (line_comes before t.line (answers_before t.asked []) (run_with l t.asked []) line.does)

pub walk_faults : (told : List Told) (before end : State) → Walks before told end → WalkFaults told before end
walk_faults [] before end walks = faults_none before end walks
walk_faults (t ∷ told) before end (l, line, inl (none, is)) =
    faults_more t told before l.now end (does_faults t before l line) (subst (λ (m : List Told). WalkFaults m l.now end) (sym none) (faults_none l.now end is))
walk_faults (t ∷ told) before end (l, line, inr (on, walks)) =
    let more = walk_faults told (counted l.now) end walks in
    faults_more t told before l.now end (does_faults t before l line) (record { was = more.was; has = more.has; back = more.back })

-- what a line does to the desk's table, and what it asks

abbrev DeskRun : Type 0
DeskRun = Run (List Asked) (List Met) Lined

abbrev AskRun : Type 0
AskRun = Run (List Asked) (List Met) (Answered × DeskTable)

-- each of them is an ask of a shell
abbrev pub AllOfShell : List Asked → Type 0
AllOfShell [] = Unit {0}
AllOfShell (e ∷ es) = IsOfShell e.asked.ask × AllOfShell es

pub of_shell_both : (es fs : List Asked) → AllOfShell es → AllOfShell fs → AllOfShell (es ++ fs)
of_shell_both [] fs one two = two
of_shell_both (e ∷ es) fs one two = (one.0, of_shell_both es fs one.1 two)

pub through_both : (es fs : List Asked) (t : DeskTable) → table_through t (es ++ fs) ≡ table_through (table_through t es) fs
through_both [] fs t = refl
through_both (e ∷ es) fs t = through_both es fs (table_met t e.asked e.answer)

-- the table after the run of a machine, and its asks
pub record Leads (t : DeskTable) (run : DeskRun) : Type 0 where
  pub table : run.result.now.table ≡ table_through t run.made
  pub shell : AllOfShell run.made

gives_leads : (l : Lined) (t : DeskTable) (answers : List Met) (run : DeskRun) → give one_device l answers run → l.now.table ≡ t → Leads t run
gives_leads l t answers run does table = subst (Leads t) (sym does) (record { table = table; shell = tt })

-- one ask, and what is behind it
ask_leads : (t : DeskTable) (a : Asking) (answers : List Met) (before : AskRun) (after run : DeskRun) → IsOfShell a.ask → Asks t a answers before → run ≡ prepend one_device before.made after
    → ((met : Met) (more : List Met) → before ≡ run_with (answer_met t a met, table_met t a met) (event a met ∷ []) more → Leads (table_met t a met) after) → Leads t run
ask_leads t a [] before after run of does whole then_ = absurd does
ask_leads t a (met ∷ more) before after run of does whole then_ =
    let is : before ≡ run_with (answer_met t a met, table_met t a met) (event a met ∷ []) more = does.is ∙ ap (prepend one_device (event a met ∷ [])) does.does in
    let later = then_ met more is in
    subst (Leads t) (sym (whole ∙ ap (λ (r : AskRun). prepend one_device r.made after) is)) (record { table = later.table; shell = (of, later.shell) })

abbrev LeadsOn : OnCrowded → Type 0
LeadsOn crowded_ = (oldest : PathParts) (st : State) (answers : List Met) (run : DeskRun) → crowded_ oldest st answers run → Leads st.table run

still_leads : LeadsOn StillCrowded
still_leads oldest st answers run d = gives_leads run.result st.table answers run d.gives (by d.is)
  where
    by : IsStillCrowded oldest st run.result → run.result.now.table ≡ st.table
    by (still_tells is) = ap (λ (l : Lined). l.now.table) is
    by (still_memory is) = ap (λ (l : Lined). l.now.table) is

refused_leads : (on_crowded : OnCrowded) → LeadsOn on_crowded → (cause : Cause) (st : State) (answers : List Met) (run : DeskRun) → refused on_crowded cause st answers run → Leads st.table run
refused_leads on_crowded on (causes.Crowded oldest) st answers run does = on oldest st answers run does
refused_leads on_crowded on (causes.Limit which) st answers run does = gives_leads _ st.table answers run does refl
refused_leads on_crowded on causes.Memory st answers run does = gives_leads _ st.table answers run does refl
refused_leads on_crowded on causes.Disk st answers run does = gives_leads _ st.table answers run does refl
refused_leads on_crowded on (causes.Cache fault) st answers run does = gives_leads _ st.table answers run does refl

stored_leads : (path : PathParts) (bytes : List ℕ) (on_crowded : OnCrowded) → LeadsOn on_crowded → (answered : Answered) (st : State) (answers : List Met) (run : DeskRun) → stored path bytes on_crowded answered st answers run → Leads st.table run
stored_leads path bytes on_crowded on (Ok answer) st answers run does = gives_leads _ st.table answers run does refl
stored_leads path bytes on_crowded on (Err fault) st answers run does = refused_leads on_crowded on (cause_of fault) st answers run does

stores_leads : (path : PathParts) (bytes : List ℕ) (on_crowded : OnCrowded) → LeadsOn on_crowded → (st : State) (answers : List Met) (run : DeskRun) → StoresOr path bytes on_crowded st answers run → Leads st.table run
stores_leads path bytes on_crowded on st answers run d =
    ask_leads st.table (store_ask path bytes) answers d.before d.after run tt d.begins d.whole
    (λ met more is. stored_leads path bytes on_crowded on (answer_met st.table (store_ask path bytes) met) (with_table st (table_met st.table (store_ask path bytes) met)) more d.after
    (subst (λ (r : AskRun). stored path bytes on_crowded r.result.0 (with_table st r.result.1) r.left d.after) is d.goes_on))

unforgotten_leads : (cause : Cause) (st : State) (answers : List Met) (run : DeskRun) → unforgotten cause st answers run → Leads st.table run
unforgotten_leads (causes.Crowded oldest) st answers run does = gives_leads _ st.table answers run does refl
unforgotten_leads (causes.Limit which) st answers run does = gives_leads _ st.table answers run does refl
unforgotten_leads causes.Memory st answers run does = gives_leads _ st.table answers run does refl
unforgotten_leads causes.Disk st answers run does = gives_leads _ st.table answers run does refl
unforgotten_leads (causes.Cache fault) st answers run does = gives_leads _ st.table answers run does refl

forgotten_leads : (path : PathParts) (bytes : List ℕ) (answered : Answered) (st : State) (answers : List Met) (run : DeskRun) → forgotten path bytes answered st answers run → Leads st.table run
forgotten_leads path bytes (Ok answer) st answers run does = stores_leads path bytes StillCrowded still_leads st answers run does
forgotten_leads path bytes (Err fault) st answers run does = unforgotten_leads (cause_of fault) st answers run does

room_leads : (path : PathParts) (bytes : List ℕ) → LeadsOn (makes_room path bytes)
room_leads path bytes oldest st answers run d =
    ask_leads st.table (forget_ask oldest) answers d.before d.after run tt d.begins d.whole
    (λ met more is. forgotten_leads path bytes (answer_met st.table (forget_ask oldest) met) (with_table st (table_met st.table (forget_ask oldest) met)) more d.after
    (subst (λ (r : AskRun). forgotten path bytes r.result.0 (with_table st r.result.1) r.left d.after) is d.goes_on))

pub line_leads : (before : State) (line : List ℕ) (answers : List Met) (run : DeskRun) → Lines before line answers run → Leads before.table run
line_leads before line answers run (nothing none does) = gives_leads _ before.table answers run does refl
line_leads before line answers run (syntax some none does) = gives_leads _ before.table answers run does refl
line_leads before line answers run (puts path bytes put does) = stores_leads path bytes (makes_room path bytes) (room_leads path bytes) before answers run does
line_leads before line answers run (memory does) = gives_leads _ before.table answers run does refl

-- the same of lines one after another
pub record Walked (before end : State) (told : List Told) : Type 0 where
  pub table : end.table ≡ table_through before.table (asked_by told)
  pub shell : AllOfShell (asked_by told)

walked_next : (before end : State) (t : Told) (told : List Told) (l : Lined) → LineDoes before t l → end.table ≡ table_through l.now.table (asked_by told) → AllOfShell (asked_by told) → Walked before end (t ∷ told)
walked_next before end t told l line table shell =
    let leads = line_leads before t.line (answers_before t.asked []) (run_with l t.asked []) line.does in
    record {
      table = table ∙ ap (λ (u : DeskTable). table_through u (asked_by told)) leads.table ∙ sym (through_both t.asked (asked_by told) before.table);
      shell = of_shell_both t.asked (asked_by told) leads.shell shell;
    }

pub walked : (told : List Told) (before end : State) → Walks before told end → Walked before end told
walked [] before end walks = record { table = ap (λ (s : State). s.table) walks; shell = tt }
walked (t ∷ told) before end (l, line, inl (none, is)) =
    walked_next before end t told l line
    (ap (λ (s : State). s.table) is ∙ ap (λ (m : List Told). table_through l.now.table (asked_by m)) (sym none))
    (subst (λ (m : List Told). AllOfShell (asked_by m)) (sym none) tt)
walked (t ∷ told) before end (l, line, inr (on, walks)) =
    let more = walked told (counted l.now) end walks in
    walked_next before end t told l line more.table more.shell
