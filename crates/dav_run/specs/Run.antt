-- A whole run of the program, from its words, the input, how the desk started, and the answers of the sink, the wire and the desk.
use Rattle.std.specs.Prelude.{◌≡◌, ℕ, zero, List, [], ◌++◌, length, codes, decimal, Bool, true, false, if◌then◌else◌, Result, Ok, Err}
use Rattle.hex.specs.Hex.{encode_lower}
use Rattle.dav_machine.specs.Devices.{one_device}
use Rattle.dav_machine.specs.Machine.{Run, give, and_then}
use Rattle.dav_machine.specs.Part.{lift}
use Rattle.dav_edge.specs.Device.{Answer, Happened, ByteMachine}
use Rattle.dav_edge.specs.Whole.{Sends}
use Rattle.dav_text.specs.Reading.{top_path}
use Rattle.dav_text.specs.Escape.{quoted}
use Rattle.dav_uri.specs.Target.{BaseParts}
use Rattle.dav_index.specs.Bounds.{queued_count}
use Rattle.dav_index.specs.Tables.{fresh_table}
use Rattle.dav_deeds.specs.DeskTable.{DeskTable, started}
use Rattle.dav_deeds.specs.declared.ask.Ask.TheVariants.{Stop as StopAsk}
use Rattle.dav_deeds.specs.declared.ask.Who.TheVariants as parties
use Rattle.dav_deeds.specs.declared.fault.DeskFault.{DeskFault}
use Rattle.dav_deeds.specs.declared.fault.DeskFault.TheVariants as faults
use Rattle.dav_upload.specs.Asking.{Asking, asking, Answered, Asks}
use Rattle.dav_upload.specs.Drain.{Drained, Drains}
use Rattle.dav_upload.specs.declared.did.UploadFault.TheVariants as uploads
use Rattle.dav_run.specs.declared.cause.Cause.{Cause}
use Rattle.dav_run.specs.declared.cause.Cause.TheVariants as causes
use Rattle.dav_run.specs.Causes.{cause_of}
use Rattle.dav_run.specs.declared.ended.Status.{Status}
use Rattle.dav_run.specs.declared.ended.Status.TheVariants as status
use Rattle.dav_run.specs.declared.stop.Stop.{Stop}
use Rattle.dav_run.specs.declared.stop.Stop.TheVariants.{End, Input, Output, Desk}
use Rattle.dav_run.specs.Words.{IsBase, HasNoBase}
use Rattle.dav_run.specs.Devices.{Made, Answers, all, the_sink, the_desk, the_pair, RunMachine}
use Rattle.dav_run.specs.Shell.{State, fresh_state, with_table, Shell}

-- how a run ends: its status, how many files are lost, whether there was want of memory, and how many lines were carried out
pub record Ending : Type 0 where
  pub status : Status
  pub lost : ℕ
  pub starved : Bool
  pub done : ℕ

-- whether there was want of memory: so it is where that ended the run
abbrev pub starves : Status → Bool → Bool
starves status.Memory starved = true
starves status.Done starved = starved
starves status.Faults starved = starved
starves status.Words starved = starved
starves status.Disk starved = starved
starves status.Input starved = starved
starves status.Output starved = starved
starves (status.Cache fault) starved = starved

abbrev pub ending : Status → State → Ending
ending s st = record { status = s; lost = length st.table.index.lost; starved = starves s st.starved; done = st.done }

-- where no desk was started
abbrev pub no_desk : State
no_desk = fresh_state top_path (started fresh_table)

abbrev pub EndMachine : Type 1
EndMachine = RunMachine Ending

-- the sink is told why the run ends, and the run ends so
abbrev pub Ends : ByteMachine Status → State → EndMachine
Ends tells st = and_then all (lift the_sink tells) (λ s. give all (ending s st))

-- the line that tells why the run ends, whether the sink takes it or not
abbrev pub Says : List ℕ → Status → ByteMachine Status
Says line s = and_then one_device (Sends line) (λ went. give one_device s)

abbrev pub words_end : List ℕ
words_end = codes "end: words\n"

abbrev pub input_end : List ℕ
input_end = codes "end: input\n"

abbrev pub memory_end : List ℕ
memory_end = codes "end: memory\n"

abbrev pub disk_end : List ℕ
disk_end = codes "end: disk\n"

-- where the index is none, whose cache it is and whose was asked for, and which body is damaged
abbrev pub place_text : ℕ → List ℕ
place_text at = codes " not-a-cache " ++ decimal at

abbrev pub urls_text : List ℕ → List ℕ → List ℕ
urls_text kept asked = codes " other " ++ quoted kept ++ codes " " ++ quoted asked

abbrev pub sums_text : ℕ → List ℕ → List ℕ → List ℕ
sums_text file kept found = codes " damaged " ++ decimal file ++ codes " " ++ encode_lower kept ++ codes " " ++ encode_lower found

abbrev pub cache_text : DeskFault → List ℕ
cache_text (faults.NotACache at) = place_text at
cache_text (faults.OtherServer kept asked) = urls_text kept asked
cache_text (faults.Damaged file kept found) = sums_text file kept found
cache_text faults.Disk = []
cache_text (faults.Queued path) = []
cache_text (faults.NoSuchJob number) = []
cache_text (faults.Crowded oldest) = []
cache_text (faults.Limit which) = []
cache_text faults.Memory = []

-- the line that tells why there is no cache for this run
abbrev pub cache_end : DeskFault → List ℕ
cache_end fault = codes "end: cache" ++ cache_text fault ++ codes "\n"

abbrev pub SaysMemory : ByteMachine Status
SaysMemory = Says memory_end status.Memory

-- there is no cache for this run, and that is told unless there is no memory for it
pub data SaysCache (fault : DeskFault) (answers : List Answer) (run : Run (List Happened) (List Answer) Status) : Type 0 where
  tells : Says (cache_end fault) (status.Cache fault) answers run → SaysCache fault answers run
  memory : SaysMemory answers run → SaysCache fault answers run

-- a fault of the desk ends the run
abbrev pub SaysCause : Cause → ByteMachine Status
SaysCause (causes.Crowded oldest) = SaysCache (faults.Crowded oldest)
SaysCause (causes.Limit which) = SaysCache (faults.Limit which)
SaysCause causes.Memory = SaysMemory
SaysCause causes.Disk = Says disk_end status.Disk
SaysCause (causes.Cache fault) = SaysCache fault

abbrev pub SaysFault : DeskFault → ByteMachine Status
SaysFault fault = SaysCause (cause_of fault)

abbrev pub closing_status : Bool → Status
closing_status faulty = if faulty then status.Faults else status.Done

-- what is left is told where something is left
abbrev pub left_line : ℕ → ℕ → List ℕ
left_line queued lost = codes "left: queued " ++ decimal queued ++ codes " lost " ++ decimal lost ++ codes "\n"

abbrev pub left_text : ℕ → ℕ → List ℕ
left_text zero zero = []
left_text queued lost = left_line queued lost

-- the same, of a table
abbrev pub left_of : DeskTable → List ℕ
left_of t = left_text (queued_count t.index.entries) (length t.index.lost)

-- what is left is told, unless there is no memory for it
pub data SaysLeft (left : List ℕ) (faulty : Bool) (answers : List Answer) (run : Run (List Happened) (List Answer) Status) : Type 0 where
  tells : and_then one_device (Sends left) (λ went. give one_device (if went then closing_status faulty else status.Output)) answers run → SaysLeft left faulty answers run
  memory : SaysMemory answers run → SaysLeft left faulty answers run

abbrev pub after_drain : Drained → State → EndMachine
after_drain (Ok done) st = Ends (SaysLeft (left_of st.table) st.faulty) st
after_drain (Err (uploads.Desk fault)) st = Ends (SaysFault fault) st
after_drain (Err uploads.Memory) st = Ends SaysMemory st

abbrev pub stop_ask : Asking
stop_ask = asking parties.Shell 0 StopAsk

-- the desk takes no rest between attempts any more, and each file that is due is sent once
abbrev pub stopping : BaseParts → Answered → State → EndMachine
stopping base (Ok answer) st = and_then all (lift the_pair (Drains base 0 st.table)) (λ r. after_drain r.0 (with_table st r.1))
stopping base (Err fault) st = Ends (SaysFault fault) st

-- what follows when the shell has stopped
abbrev pub after_shell : BaseParts → State → Stop → EndMachine
after_shell base st Output = give all (ending status.Output st)
after_shell base st Input = Ends (Says input_end status.Input) st
after_shell base st (Desk fault) = Ends (SaysFault fault) st
after_shell base st End = and_then all (lift the_desk (Asks st.table stop_ask)) (λ r. stopping base r.0 (with_table st r.1))

-- the run from this state on
abbrev pub RunsFrom : BaseParts → List ℕ → Bool → State → EndMachine
RunsFrom base bytes failed before = and_then all (Shell bytes failed [] before) (λ r. after_shell base r.1 r.0)

-- the run with this base, over a desk that started with this table
abbrev pub RunsOn : BaseParts → DeskTable → List ℕ → Bool → EndMachine
RunsOn base table bytes failed = RunsFrom base bytes failed (fresh_state base.path table)

-- how a desk started: with which table, or why it didn't
abbrev pub Opened : Type 0
Opened = Result DeskTable DeskFault

-- The run of these words over these bytes of input, behind which the source failed or not. Where the words have no base, where there was
-- no memory to read them and where the desk didn't start, the source is not called.
pub data Runs (words : List (List ℕ)) (bytes : List ℕ) (failed : Bool) (opened : Opened) (answers : Answers) (run : Run Made Answers Ending) : Type 0 where
  refused : HasNoBase words → Ends (Says words_end status.Words) no_desk answers run → Runs words bytes failed opened answers run
  unread : bytes ≡ [] → failed ≡ false → Ends SaysMemory no_desk answers run → Runs words bytes failed opened answers run
  unopened : (base : BaseParts) (fault : DeskFault) → IsBase words base → opened ≡ Err fault → bytes ≡ [] → failed ≡ false → Ends (SaysFault fault) no_desk answers run
      → Runs words bytes failed opened answers run
  on : (base : BaseParts) (table : DeskTable) → IsBase words base → opened ≡ Ok table → RunsOn base table bytes failed answers run → Runs words bytes failed opened answers run
