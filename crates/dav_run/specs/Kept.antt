-- What a caller of a run may rely on.
use Rattle.std.specs.Prelude.{◌≡◌, ◌⊎◌, ◌↔◌, ℕ, List, [], ◌∷◌, ◌++◌, map, length, codes, true, false, Bool, Option, Some, None, Ok, Err, filter}
use Rattle.dav_machine.specs.Log.{any_failed}
use Rattle.dav_machine.specs.Machine.{run_with}
use Rattle.dav_machine.specs.Devices.{answers_before}
use Rattle.dav_edge.specs.Device.{Happened, DeviceLog, Grew, given, taken, is_failure}
use Rattle.dav_edge.specs.Connections.{connections_of}
use Rattle.dav_text.specs.Path.{PathParts}
use Rattle.dav_store.specs.Body.{id_of}
use Rattle.dav_recorder.specs.Survives.{with_under}
use Rattle.dav_deeds.specs.DeskTable.{DeskTable}
use Rattle.dav_deeds.specs.Fate.{IsKept}
use Rattle.dav_deeds.specs.declared.ask.Ask.{Ask}
use Rattle.dav_deeds.specs.declared.ask.Ask.TheVariants as asks
use Rattle.dav_deeds.specs.declared.deed.Deed.{Deed}
use Rattle.dav_deeds.specs.declared.deed.Deed.TheVariants as deeds
use Rattle.dav_deeds.specs.declared.deed.Mark.{Mark}
use Rattle.dav_deeds.specs.declared.deed.Mark.TheVariants as marks
use Rattle.dav_deeds.specs.declared.deed.Step.{Step}
use Rattle.dav_uri.specs.Target.{BaseParts}
use Rattle.dav_upload.specs.Asking.{Asked, table_through, steps_through}
use Rattle.dav_run.specs.Asked.{still, IsUnderIf, AllSummed}
use Rattle.dav_upload.specs.Sent.{AsksBacked, OfJobs, PathsDiffer, jobs_told}
use Rattle.dav_run.specs.declared.ended.Status.{Status}
use Rattle.dav_run.specs.declared.ended.Status.TheVariants.{Done, Faults, Words, Disk, Input, Output, Cache, Memory}
use Rattle.dav_run.specs.Words.{IsBase}
use Rattle.dav_run.specs.Devices.{Made}
use Rattle.dav_run.specs.Line.{lines_of, IsPut}
use Rattle.dav_run.specs.Shell.{State, fresh_state, counted, closed_line, Lined, Lines}
use Rattle.dav_run.specs.Carrying.{HeardEnd, HeardFailure}
use Rattle.dav_run.specs.Run.{Ending, Opened, words_end, input_end, memory_end, disk_end, cache_end, left_of}

-- a line that was carried out, at which current path, what the desk was asked for it, and what was printed of it
pub record Told : Type 0 where
  pub current : PathParts
  pub line : List ℕ
  pub asked : List Asked
  pub printed : List ℕ

abbrev pub line_of : Told → List ℕ
line_of told = told.line

-- what was asked of the desk for these lines
abbrev pub asked_by : List Told → List Asked
asked_by [] = []
asked_by (told ∷ more) = told.asked ++ asked_by more

-- the line, in this state, makes these asks and comes to this
pub record LineDoes (before : State) (told : Told) (lined : Lined) : Type 0 where
  pub at : told.current ≡ before.current
  pub does : Lines before told.line (answers_before told.asked []) (run_with lined told.asked [])
  pub printed : told.printed ≡ lined.printed

-- the lines were carried out one after another; the sink may have failed in the last, or the desk
abbrev pub Walks : State → List Told → State → Type 0
Walks before [] end = end ≡ before
Walks before (told ∷ more) end =
    (lined : Lined) × LineDoes before told lined × (((more ≡ []) × (end ≡ lined.now)) ⊎ ((lined.fault ≡ None) × Walks (counted lined.now) more end))

-- the line stored these bytes under this path, and `closed` was the answer
pub record IsClose (told : Told) (path : PathParts) (bytes : List ℕ) : Type 0 where
  pub put : IsPut told.current told.line path bytes
  pub printed : told.printed ≡ closed_line path (length bytes)

-- a step that closed a path with a body
abbrev pub is_closing : Deed → Mark → Bool
is_closing (deeds.Store path len body) (marks.Body id) = true
is_closing deed mark = false

-- the steps that closed a path
abbrev pub closings : List Step → List Step
closings steps = filter (λ s. is_closing s.deed s.mark) steps

-- the step closed the path that the line names, with the bytes that the line has
pub record IsStoreOf (told : Told) (s : Step) : Type 0 where
  pub path : PathParts
  pub bytes : List ℕ
  pub put : IsPut told.current told.line path bytes
  pub file : ℕ
  pub deed : s.deed ≡ deeds.Store path (length bytes) (Some (id_of file bytes))
  pub mark : s.mark ≡ marks.Body (id_of file bytes)

-- Each of these steps is of a line of its own, in the order of the lines; and each line that was answered `closed` has one.
abbrev pub StoresAre : List Told → List Step → Type 0
StoresAre [] steps = steps ≡ []
StoresAre (told ∷ more) steps =
    (((path : PathParts) (bytes : List ℕ) → IsClose told path bytes → ⊥) × StoresAre more steps)
    ⊎ ((s : Step) × (rest : List Step) × (steps ≡ s ∷ rest) × IsStoreOf told s × StoresAre more rest)

-- none of the asks stores anything
abbrev pub IsStore : Ask → Type 0
IsStore (asks.Store path bytes) = Unit {0}
IsStore (asks.Forget path locks below) = ⊥
IsStore asks.Take = ⊥
IsStore (asks.Settle job done) = ⊥
IsStore asks.Stop = ⊥

abbrev pub NoStores : List Asked → Type 0
NoStores [] = Unit {0}
NoStores (e ∷ es) = (IsStore e.asked.ask → ⊥) × NoStores es

-- what the line printed tells a fault
abbrev pub IsFault : Told → Type 0
IsFault told = (rest : List ℕ) × (told.printed ≡ codes "fault: " ++ rest)

-- one of the lines answered a fault
abbrev pub AnyFault : List Told → Type 0
AnyFault [] = ⊥
AnyFault (told ∷ more) = IsFault told ⊎ AnyFault more

-- whether one of the lines answered a fault, where the status tells it
abbrev pub FaultsTold : Status → List Told → Type 0
FaultsTold Done told = ¬ (AnyFault told)
FaultsTold Faults told = AnyFault told
FaultsTold Words told = Unit {0}
FaultsTold Disk told = Unit {0}
FaultsTold Input told = Unit {0}
FaultsTold Output told = Unit {0}
FaultsTold (Cache fault) told = Unit {0}
FaultsTold Memory told = Unit {0}

-- what the lines printed, one after another
abbrev pub printed_by : List Told → List ℕ
printed_by [] = []
printed_by (told ∷ more) = told.printed ++ printed_by more

-- what is to be written behind the lines, where this is the table at the end
abbrev pub last_text : Status → DeskTable → List ℕ
last_text Words t = words_end
last_text Disk t = disk_end
last_text Input t = input_end
last_text (Cache fault) t = cache_end fault
last_text Memory t = memory_end
last_text Done t = left_of t
last_text Faults t = left_of t
last_text Output t = left_of t

-- the sink took a beginning of the text in these calls, and the whole where none of them failed
pub record Wrote (events : List Happened) (text : List ℕ) : Type 0 where
  pub cut : List ℕ
  pub beginning : taken events ++ cut ≡ text
  pub whole : any_failed is_failure events ≡ false → taken events ≡ text

-- no call on the sink failed until it had taken the whole text
pub record WroteAnswers (events : List Happened) (text : List ℕ) : Type 0 where
  pub before : List Happened
  pub behind : List Happened
  pub is : events ≡ before ++ behind
  pub fine : any_failed is_failure before ≡ false
  pub took : taken before ≡ text

-- How the sink went, by the status: it failed where that is the status, while an answer or what is left was written.
-- At Done and Faults no call on it failed, and at the others none before the last line.
abbrev pub IsWritten : Status → List Happened → List ℕ → Type 0
IsWritten Done events answers = any_failed is_failure events ≡ false
IsWritten Faults events answers = any_failed is_failure events ≡ false
IsWritten Words events answers = WroteAnswers events answers
IsWritten Disk events answers = WroteAnswers events answers
IsWritten Input events answers = WroteAnswers events answers
IsWritten (Cache fault) events answers = WroteAnswers events answers
IsWritten Memory events answers = WroteAnswers events answers
IsWritten Output events answers = any_failed is_failure events ≡ true

-- How the source went, by the status: it failed in the last call where that is the status, and only there. It said
-- that its end was there where the input was read to its end. Where the words were refused it wasn't called.
abbrev pub EndHeard : Status → List Happened → Type 0
EndHeard Done heard = HeardEnd heard
EndHeard Faults heard = HeardEnd heard
EndHeard Memory heard = any_failed is_failure heard ≡ false
EndHeard Words heard = heard ≡ []
EndHeard Disk heard = any_failed is_failure heard ≡ false
EndHeard Input heard = HeardFailure heard
EndHeard Output heard = any_failed is_failure heard ≡ false
EndHeard (Cache fault) heard = any_failed is_failure heard ≡ false

-- at these statuses no connection was made
abbrev pub NothingSent : Status → List Happened → Type 0
NothingSent Words events = events ≡ []
NothingSent Input events = events ≡ []
NothingSent Done events = Unit {0}
NothingSent Faults events = Unit {0}
NothingSent Disk events = Unit {0}
NothingSent Output events = Unit {0}
NothingSent (Cache fault) events = Unit {0}
NothingSent Memory events = Unit {0}

-- at these statuses every line of the input was carried out
abbrev pub AllRead : Status → List (List ℕ) → Type 0
AllRead Done rest = rest ≡ []
AllRead Faults rest = rest ≡ []
AllRead Memory rest = Unit {0}
AllRead Words rest = Unit {0}
AllRead Disk rest = Unit {0}
AllRead Input rest = Unit {0}
AllRead Output rest = Unit {0}
AllRead (Cache fault) rest = Unit {0}

-- the trace has the steps that these asks add, where the desk started so; the one under way is of an ask that was stopped
abbrev pub HasSteps : Opened → List Asked → List Step → Option Step → Type 0
HasSteps (Ok t) asked steps under = (map still steps ≡ steps_through t asked) × IsUnderIf t asked under
HasSteps (Err fault) asked steps under = (asked ≡ []) × (steps ≡ []) × (under ≡ None)

-- what the run made of the desk, if one started with this table: the steps are those of the asks; of the bytes that were closed last of
-- each path, those of earlier runs among them, each is queued at the end, or was sent by one of the steps, or is lost
pub record IsDesked (opening : DeskTable) (asked : List Asked) (steps : List Step) (under : Option Step) (final : DeskTable) : Type 0 where
  pub traced : HasSteps (Ok opening) asked steps under
  pub final_is : final ≡ table_through opening asked
  pub kept : IsKept opening steps final.index
  pub sums : AllSummed opening asked

-- The source gave these bytes, and their first lines were carried out, with these answers. The sink took what they
-- printed, in their order, and a last line. For each path the bytes that were closed last are kept.
pub record Keeps (words : List (List ℕ)) (source_old source_new out_old out_new up_old up_new : DeviceLog) (steps : List Step) (under : Option Step) (end : Ending) : Type 0 where
  pub heard : List Happened
  pub made : Made
  pub told : List Told
  pub last : State
  pub rest : List (List ℕ)
  pub gave : Grew source_old source_new heard
  pub out : Grew out_old out_new made.out
  pub up : Grew up_old up_new made.up
  pub ended : EndHeard end.status heard
  pub source : (end.status ≡ Input) ↔ (any_failed is_failure heard ≡ true)
  pub lines : lines_of (given heard) ≡ map line_of told ++ rest
  pub read : AllRead end.status rest
  pub current : PathParts
  pub stands : (base : BaseParts) → IsBase words base → current ≡ base.path
  pub opening : DeskTable
  pub answered : Walks (fresh_state current opening) told last
  pub behind : List Asked
  pub asks : made.desk ≡ asked_by told ++ behind
  pub no_more : NoStores behind
  pub final : DeskTable
  pub desked : IsDesked opening made.desk steps under final
  pub stores : StoresAre told (closings (with_under steps under))
  pub lost : end.lost ≡ length final.index.lost
  pub wrote : Wrote made.out (printed_by told ++ last_text end.status final)
  pub written : IsWritten end.status made.out (printed_by told)
  pub faults : FaultsTold end.status told
  pub done : last.done ≡ end.done
  pub starved : last.starved ≡ true → end.starved ≡ true
  pub undrained : NothingSent end.status made.up
  pub backed : (base : BaseParts) → IsBase words base → AsksBacked base [] opening made.desk made.up
  pub sent : (base : BaseParts) → IsBase words base → OfJobs base (jobs_told opening made.desk) (connections_of made.up)
  pub differ : PathsDiffer (jobs_told opening made.desk)
