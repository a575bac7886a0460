-- A line on the desk: the bytes are stored, or room is made for them first.
use Rattle.std.proofs.Common.{◌≡◌, ◌≢◌, ℕ, List, [], None, Ok, refl, sym, ◌∙◌, ap, subst}
use Rattle.dav_machine.specs.Log.{event}
use Rattle.dav_machine.specs.Devices.{one_device}
use Rattle.dav_machine.specs.Machine.{Run, give}
use Rattle.dav_machine.proofs.Reaching.{reaches_next, reaches_next_call, as_reaches}
use Rattle.dav_text.specs.Path.{PathParts}
use Rattle.dav_deeds.specs.DeskTable.{DeskTable}
use Rattle.dav_deeds.specs.declared.ask.Ask.{Ask}
use Rattle.dav_deeds.specs.declared.ask.Ask.TheVariants.{Store}
use Rattle.dav_deeds.specs.declared.fault.DeskFault.{DeskFault}
use Rattle.dav_desk.specs.declared.desk.Desk.{Desk}
use Rattle.dav_upload.specs.Asking.{Asking, Met, Asked, Answered, answer_met, table_met, Asks}
use Rattle.dav_upload.specs.Desks.{DiskView, WasAsked, WereAsked}
use Rattle.dav_run.specs.Answering.{DoesDesk, lined_of, said_text}
use Rattle.dav_run.specs.declared.shell.Said.{Said}
use Rattle.dav_run.specs.declared.cause.Cause.{Cause}
use Rattle.dav_run.specs.Causes.{cause_of}
use Rattle.dav_run.specs.Line.{IsPut, IsNoPut}
use Rattle.dav_run.specs.Shell.{State, with_table, faulted, starved, memory_line, syntax_line, Lined, lined, DeskMachine, prints, store_ask, forget_ask, OnCrowded, stored, StoresOr, IsStillCrowded, StillCrowded, forgotten, makes_room, Stores, Lines, nothing, syntax, puts, memory}
use Rattle.dav_run.proofs.Joining.{desk_then, desk_same}

abbrev DeskRun : Type 0
DeskRun = Run (List Asked) (List Met) Lined

-- what is said, and the state then
pub said_is : (said want : Said) (text : List ℕ) (now later : State) → said ≡ want → now ≡ later → lined_of (Ok said) text now ≡ lined (said_text want text) later None
said_is said want text now later is state_is =
    ap (λ (s : Said). lined_of (Ok s) text now) is ∙ ap (λ (st : State). lined (said_text want text) st None) state_is

module _ {D : Type 0} (view : DiskView D) where
  -- the desk was asked once
  pub asked_once : (x y : Desk D) (asked : Asking) (met : Met) → WasAsked view (event asked met) x y → DoesDesk view x y (Asks x.table asked) (answer_met x.table asked met, table_met x.table asked met)
  asked_once x y asked met was =
      reaches_next_call (λ (es : List Asked). WereAsked view es x y) (Asks x.table asked) (give one_device (answer_met x.table asked met, table_met x.table asked met)) (event asked met)
      (y, was, refl) (λ more run calls. calls)

  -- a result is the one that a machine gives
  pub gives : (x y : Desk D) (r s : Lined) → y ≡ x → s ≡ r → DoesDesk view x y (give one_device r) s
  gives x y r s same is =
      subst (λ (d : Desk D). DoesDesk view x d (give one_device r) s) (sym same)
      (subst (λ (l : Lined). DoesDesk view x x (give one_device r) l) (sym is) (desk_same view x (give one_device r)))

  -- a line that asks the desk nothing
  pub line_nothing : (x y : Desk D) (st : State) (line : List ℕ) (r : Lined) → y ≡ x → line ≡ [] → r ≡ lined [] st None → DoesDesk view x y (Lines st line) r
  line_nothing x y st line r same empty is =
      as_reaches one_device (λ (es : List Asked). WereAsked view es x y) (prints [] st) (give one_device r) (Lines st line) (λ answers run does. nothing empty does) (gives x y (lined [] st None) r same is)

  pub line_syntax : (x y : Desk D) (st : State) (line : List ℕ) (r : Lined) → y ≡ x → line ≢ [] → IsNoPut st.current line → r ≡ lined syntax_line (faulted st) None → DoesDesk view x y (Lines st line) r
  line_syntax x y st line r same some none is =
      as_reaches one_device (λ (es : List Asked). WereAsked view es x y) (prints syntax_line (faulted st)) (give one_device r) (Lines st line) (λ answers run does. syntax some none does)
      (gives x y (lined syntax_line (faulted st) None) r same is)

  pub line_memory : (x y : Desk D) (st : State) (line : List ℕ) (r : Lined) → y ≡ x → r ≡ lined memory_line (starved st) None → DoesDesk view x y (Lines st line) r
  line_memory x y st line r same is =
      as_reaches one_device (λ (es : List Asked). WereAsked view es x y) (prints memory_line (starved st)) (give one_device r) (Lines st line) (λ answers run does. memory does)
      (gives x y (lined memory_line (starved st) None) r same is)

  pub line_puts : (x y : Desk D) (st : State) (line : List ℕ) (path : PathParts) (bytes : List ℕ) (r : Lined) → IsPut st.current line path bytes → DoesDesk view x y (Stores path bytes st) r → DoesDesk view x y (Lines st line) r
  line_puts x y st line path bytes r put one =
      as_reaches one_device (λ (es : List Asked). WereAsked view es x y) (Stores path bytes st) (give one_device r) (Lines st line) (λ answers run does. puts path bytes put does) one

  -- a store: the desk is asked, and what follows is by its answer
  pub store_next : (x y z : Desk D) (st : State) (path : PathParts) (bytes : List ℕ) (ask : Ask) (crowded : OnCrowded) (answered : Answered) (r : Lined) → st.table ≡ x.table → ask ≡ Store path bytes
      → DoesDesk view x y (Asks x.table (record (store_ask path bytes) { ask = ask })) (answered, y.table) → DoesDesk view y z (stored path bytes crowded answered (with_table st y.table)) r
      → DoesDesk view x z (StoresOr path bytes crowded st) r
  store_next x y z st path bytes ask crowded answered r table is one two =
      let asks : DoesDesk view x y (Asks st.table (store_ask path bytes)) (answered, y.table) =
      subst (λ (t : DeskTable). DoesDesk view x y (Asks t (store_ask path bytes)) (answered, y.table)) (sym table)
      (subst (λ (a : Ask). DoesDesk view x y (Asks x.table (record (store_ask path bytes) { ask = a })) (answered, y.table)) is one) in
      desk_then view x y z (StoresOr path bytes crowded st) (stored path bytes crowded answered (with_table st y.table)) (give one_device r)
      (reaches_next one_device (λ (es : List Asked). WereAsked view es x y) (Asks st.table (store_ask path bytes)) (answered, y.table) (λ a. stored path bytes crowded a.0 (with_table st a.1)) asks)
      two

  -- the oldest path is to be forgotten, and what follows is by the desk's answer
  pub room_next : (x y z : Desk D) (st : State) (path : PathParts) (bytes : List ℕ) (oldest : PathParts) (answered : Answered) (r : Lined) → st.table ≡ x.table
      → DoesDesk view x y (Asks x.table (forget_ask oldest)) (answered, y.table) → DoesDesk view y z (forgotten path bytes answered (with_table st y.table)) r
      → DoesDesk view x z (makes_room path bytes oldest st) r
  room_next x y z st path bytes oldest answered r table one two =
      let asks : DoesDesk view x y (Asks st.table (forget_ask oldest)) (answered, y.table) = subst (λ (t : DeskTable). DoesDesk view x y (Asks t (forget_ask oldest)) (answered, y.table)) (sym table) one in
      desk_then view x y z (makes_room path bytes oldest st) (forgotten path bytes answered (with_table st y.table)) (give one_device r)
      (reaches_next one_device (λ (es : List Asked). WereAsked view es x y) (Asks st.table (forget_ask oldest)) (answered, y.table) (λ a. forgotten path bytes a.0 (with_table st a.1)) asks)
      two

  pub still_gives : (x y : Desk D) (oldest : PathParts) (st : State) (r : Lined) → y ≡ x → IsStillCrowded oldest st r → DoesDesk view x y (StillCrowded oldest st) r
  still_gives x y oldest st r same is =
      as_reaches one_device (λ (es : List Asked). WereAsked view es x y) (give one_device r) (give one_device r) (StillCrowded oldest st)
      (λ answers run does. subst (StillCrowded oldest st answers) (sym does) (record { is = is; gives = refl }))
      (gives x y r r same refl)

  -- what a machine does by what a fault means
  pub by_cause : (machine : Cause → State → DeskMachine Lined) (cause : Cause) (fault : DeskFault) (x y : Desk D) (st : State) (r : Lined) → cause ≡ cause_of fault → DoesDesk view x y (machine cause st) r
      → DoesDesk view x y (machine (cause_of fault) st) r
  by_cause machine cause fault x y st r is one = subst (λ (c : Cause). DoesDesk view x y (machine c st) r) is one
