-- What the shell does, from the bytes of the input, the answers of the sink and how its asks of the desk go.
use Rattle.std.specs.Prelude.{◌≡◌, ◌≢◌, ◌+◌, ◌==◌, ℕ, List, [], ◌∷◌, ◌++◌, length, codes, decimal, min, Bool, true, false, MatchBool, if◌then◌else◌, Option, Some, None, Result, Ok, Err}
use Rattle.dav_machine.specs.Devices.{one_device}
use Rattle.dav_machine.specs.Machine.{Machine, Run, give, and_then}
use Rattle.dav_machine.specs.Part.{lift}
use Rattle.dav_edge.specs.Whole.{Sends}
use Rattle.dav_text.specs.Path.{PathParts, escaped}
use Rattle.dav_text.specs.declared.which.Which.{Which}
use Rattle.dav_text.specs.declared.which.Which.TheVariants as limits
use Rattle.dav_deeds.specs.DeskTable.{DeskTable}
use Rattle.dav_deeds.specs.declared.ask.Ask.TheVariants.{Store, Forget}
use Rattle.dav_deeds.specs.declared.ask.Who.TheVariants as parties
use Rattle.dav_deeds.specs.declared.fault.DeskFault.{DeskFault}
use Rattle.dav_deeds.specs.declared.fault.DeskFault.TheVariants as faults
use Rattle.dav_upload.specs.Asking.{Asking, asking, Met, Asked, Answered, Asks}
use Rattle.dav_run.specs.declared.cause.Cause.{Cause}
use Rattle.dav_run.specs.declared.cause.Cause.TheVariants.{Crowded, Limit, Memory, Disk, Cache}
use Rattle.dav_run.specs.Causes.{cause_of}
use Rattle.dav_run.specs.declared.stop.Halt.{Halt}
use Rattle.dav_run.specs.declared.stop.Halt.TheVariants as halts
use Rattle.dav_run.specs.declared.stop.Stop.{Stop}
use Rattle.dav_run.specs.declared.stop.Stop.TheVariants.{End, Input}
use Rattle.dav_run.specs.Stops.{stop_of}
use Rattle.dav_run.specs.Devices.{all, the_sink, the_desk, RunMachine}
use Rattle.dav_run.specs.Line.{without_return, IsPut, IsNoPut}

-- the current path, the desk's table, whether a line answered a fault, whether there was want of memory, and how many lines
-- were carried out before the first such want
pub record State : Type 0 where
  pub current : PathParts
  pub table : DeskTable
  pub faulty : Bool
  pub starved : Bool
  pub done : ℕ

abbrev pub state : PathParts → DeskTable → Bool → Bool → ℕ → State
state current table faulty starved done = record { current = current; table = table; faulty = faulty; starved = starved; done = done }

-- a shell that has read no line, over a desk with this table
abbrev pub fresh_state : PathParts → DeskTable → State
fresh_state current table = state current table false false 0

-- one line more, unless there was want of memory; a u64 counts no further than it goes
abbrev pub counted : State → State
counted st = state st.current st.table st.faulty st.starved (if st.starved then st.done else min (st.done + 1) 18446744073709551615)

abbrev pub faulted : State → State
faulted st = state st.current st.table true st.starved st.done

abbrev pub starved : State → State
starved st = state st.current st.table true true st.done

abbrev pub with_table : State → DeskTable → State
with_table st table = state st.current table st.faulty st.starved st.done

-- the line that a store prints
abbrev pub closed_line : PathParts → ℕ → List ℕ
closed_line path len = codes "closed " ++ escaped path ++ codes " " ++ decimal len ++ codes "\n"

abbrev pub syntax_line : List ℕ
syntax_line = codes "fault: syntax early 0\n"

abbrev pub memory_line : List ℕ
memory_line = codes "fault: memory\n"

-- no more paths can be known, and this one would have had to be forgotten
abbrev pub crowded_line : PathParts → List ℕ
crowded_line oldest = codes "fault: crowded " ++ escaped oldest ++ codes "\n"

abbrev pub which_name : Which → List ℕ
which_name limits.Body = codes "body"
which_name limits.Head = codes "head"
which_name limits.Queue = codes "queue"
which_name limits.Bytes = codes "bytes"
which_name limits.Locks = codes "locks"
which_name limits.Opens = codes "opens"
which_name limits.Path = codes "path"
which_name limits.Files = codes "files"
which_name limits.Depth = codes "depth"
which_name limits.Nodes = codes "nodes"
which_name limits.Held = codes "held"
which_name limits.Attributes = codes "attributes"
which_name limits.Tag = codes "tag"

abbrev pub limit_line : Which → List ℕ
limit_line which = codes "fault: limit " ++ which_name which ++ codes "\n"

-- what a line comes to: what it prints, the state then, and the fault of the desk that stops the run, if one does
pub record Lined : Type 0 where
  pub printed : List ℕ
  pub now : State
  pub fault : Option DeskFault

abbrev pub DeskMachine : Type 0 → Type 1
DeskMachine R = Machine (List Asked) (List Met) R

abbrev pub lined : List ℕ → State → Option DeskFault → Lined
lined printed now fault = record { printed = printed; now = now; fault = fault }

-- the line prints this, and the desk is not asked
abbrev pub prints : List ℕ → State → DeskMachine Lined
prints printed now = give one_device (lined printed now None)

abbrev pub store_ask : PathParts → List ℕ → Asking
store_ask path bytes = asking parties.Shell 0 (Store path bytes)

-- this one path is to be forgotten, without its locks and what is below it
abbrev pub forget_ask : PathParts → Asking
forget_ask path = asking parties.Shell 0 (Forget path false false)

-- what is done where no more paths can be known
abbrev pub OnCrowded : Type 1
OnCrowded = PathParts → State → DeskMachine Lined

-- a fault of the desk that isn't the shell's to answer stops it
abbrev pub stops : DeskFault → State → DeskMachine Lined
stops fault st = give one_device (lined [] st (Some fault))

-- why a store wasn't made
abbrev pub refused : OnCrowded → Cause → State → DeskMachine Lined
refused crowded (Crowded oldest) st = crowded oldest st
refused crowded (Limit which) st = give one_device (lined (limit_line which) (faulted st) None)
refused crowded Memory st = give one_device (lined memory_line (starved st) None)
refused crowded Disk st = stops faults.Disk st
refused crowded (Cache fault) st = stops fault st

-- what a store comes to, by the desk's answer
abbrev pub stored : PathParts → List ℕ → OnCrowded → Answered → State → DeskMachine Lined
stored path bytes crowded (Ok answer) st = give one_device (lined (closed_line path (length bytes)) st None)
stored path bytes crowded (Err fault) st = refused crowded (cause_of fault) st

-- the bytes are stored under the path
abbrev pub StoresOr : PathParts → List ℕ → OnCrowded → State → DeskMachine Lined
StoresOr path bytes crowded st = and_then one_device (Asks st.table (store_ask path bytes)) (λ r. stored path bytes crowded r.0 (with_table st r.1))

-- no more paths can be known, though one was forgotten; or there was no memory to tell it
pub data IsStillCrowded (oldest : PathParts) (st : State) (is : Lined) : Type 0 where
  tells : is ≡ lined (crowded_line oldest) (faulted st) None → IsStillCrowded oldest st is
  memory : is ≡ lined memory_line (starved st) None → IsStillCrowded oldest st is

pub record StillCrowded (oldest : PathParts) (st : State) (answers : List Met) (run : Run (List Asked) (List Met) Lined) : Type 0 where
  pub is : IsStillCrowded oldest st run.result
  pub gives : give one_device run.result answers run

-- why a path wasn't forgotten
abbrev pub unforgotten : Cause → State → DeskMachine Lined
unforgotten (Crowded other) st = stops (faults.Crowded other) st
unforgotten (Limit which) st = stops (faults.Limit which) st
unforgotten Memory st = give one_device (lined memory_line (starved st) None)
unforgotten Disk st = stops faults.Disk st
unforgotten (Cache fault) st = stops fault st

-- once the oldest path was forgotten, the bytes are stored
abbrev pub forgotten : PathParts → List ℕ → Answered → State → DeskMachine Lined
forgotten path bytes (Ok answer) st = StoresOr path bytes StillCrowded st
forgotten path bytes (Err fault) st = unforgotten (cause_of fault) st

abbrev pub makes_room : PathParts → List ℕ → PathParts → State → DeskMachine Lined
makes_room path bytes oldest st = and_then one_device (Asks st.table (forget_ask oldest)) (λ r. forgotten path bytes r.0 (with_table st r.1))

-- the bytes are stored under the path; where no more paths can be known, the one written longest ago is forgotten first
abbrev pub Stores : PathParts → List ℕ → State → DeskMachine Lined
Stores path bytes st = StoresOr path bytes (makes_room path bytes) st

-- A line is carried out on the desk. Want of memory may meet any line.
pub data Lines (before : State) (line : List ℕ) (answers : List Met) (run : Run (List Asked) (List Met) Lined) : Type 0 where
  nothing : line ≡ [] → prints [] before answers run → Lines before line answers run
  syntax : line ≢ [] → IsNoPut before.current line → prints syntax_line (faulted before) answers run → Lines before line answers run
  puts : (path : PathParts) (bytes : List ℕ) → IsPut before.current line path bytes → Stores path bytes before answers run → Lines before line answers run
  memory : prints memory_line (starved before) answers run → Lines before line answers run

-- the shell goes on, or why it stops; and the state then
abbrev pub Carried : Type 0
Carried = Result (Unit {0}) Halt × State

-- the state behind a line whose answer the sink took or didn't
abbrev pub written : State → Bool → Carried
written now true = (Ok tt, counted now)
written now false = (Err halts.Output, now)

-- what a line prints is written, unless the desk stopped in it
abbrev pub writes : List ℕ → State → Option DeskFault → RunMachine Carried
writes printed now None = and_then all (lift the_sink (Sends printed)) (λ went. give all (written now went))
writes printed now (Some fault) = give all (Err (halts.Desk fault), now)

-- the line is carried out and its answer is written
abbrev pub Carries : List ℕ → State → RunMachine Carried
Carries line before = and_then all (lift the_desk (Lines before line)) (λ lined. writes lined.printed lined.now lined.fault)

-- behind a line that was carried out the shell goes on, or stops
abbrev pub goes_on : (State → RunMachine (Stop × State)) → Carried → RunMachine (Stop × State)
goes_on next (Ok done, st) = next st
goes_on next (Err halt, st) = give all (stop_of halt, st)

-- At the end of the input the line that has begun is carried out, where it has a byte. Where the source
-- failed it isn't.
abbrev pub AtEnd : Bool → List ℕ → State → RunMachine (Stop × State)
AtEnd true begun st = give all (Input, st)
AtEnd false [] st = give all (End, st)
AtEnd false (b ∷ begun) st = and_then all (Carries (b ∷ begun) st) (goes_on (λ now. give all (End, now)))

-- The shell reads these bytes behind those of a line that has begun; it carries out each line at its line
-- feed. Whether the source failed behind the last byte is told too.
unfoldable pub Shell : List ℕ → Bool → List ℕ → State → RunMachine (Stop × State)
Shell [] failed begun st answers run = AtEnd failed begun st answers run
Shell (b ∷ bytes) failed begun st answers run =
    MatchBool (b == 10)
    (and_then all (Carries (without_return begun) st) (goes_on (λ now. Shell bytes failed [] now)) answers run)
    (Shell bytes failed (begun ++ b ∷ []) st answers run)
