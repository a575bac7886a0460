-- What a run comes to is decided by what it was given.
use Rattle.std.specs.Prelude.{◌≡◌, ℕ, List, [], ◌∷◌, ◌++◌, map, length, min, false, Option, None, Ok}
use Rattle.dav_machine.specs.Log.{any_failed}
use Rattle.dav_machine.specs.Devices.{answers_before}
use Rattle.dav_machine.specs.Machine.{Run, run_with}
use Rattle.dav_edge.specs.Device.{Happened, DeviceLog, Grew, given, taken, is_failure}
use Rattle.dav_text.specs.Path.{PathParts}
use Rattle.dav_deeds.specs.DeskTable.{DeskTable}
use Rattle.dav_deeds.specs.declared.deed.Step.{Step}
use Rattle.dav_uri.specs.Target.{BaseParts}
use Rattle.dav_run.specs.Words.{IsBase}
use Rattle.dav_run.specs.Kept.{Told, line_of, asked_by, printed_by, LineDoes, HasSteps}
use Rattle.dav_run.specs.Line.{lines_of}
use Rattle.dav_run.specs.Devices.{Made, Answers, answers_of, all}
use Rattle.dav_run.specs.Shell.{State, fresh_state, counted, Lined}
use Rattle.dav_run.specs.Run.{Ending, Opened, Runs}

-- no answer is left
abbrev pub none_left : Answers
none_left = answers_of [] [] []

abbrev pub whole_run : Ending → Made → Run Made Answers Ending
whole_run end made = run_with end made none_left

-- The source gave these bytes, and failed behind them or not; the desk started so. Of the answers that the sink, the wire and the desk
-- gave, each in its own list, the words and these bytes make these calls and asks and come to this end, and no other run that had
-- memory throughout makes others or comes to another end. So the bytes that are written, the bytes that are sent on each connection,
-- the steps but for their moments, the status and what is left are one function of the words, the input, the opening table and the answers.
pub record IsTheRun (words : List (List ℕ)) (source_old source_new out_old out_new up_old up_new : DeviceLog) (steps : List Step) (under : Option Step) (end : Ending) : Type 0 where
  pub heard : List Happened
  pub made : Made
  pub opened : Opened
  pub gave : Grew source_old source_new heard
  pub out : Grew out_old out_new made.out
  pub up : Grew up_old up_new made.up
  pub traced : HasSteps opened made.desk steps under
  pub does : Runs words (given heard) (any_failed is_failure heard) opened (all.answered made none_left) (whole_run end made)
  pub only : (other : Run Made Answers Ending) → Runs words (given heard) (any_failed is_failure heard) opened (all.answered made none_left) other
      → other.result.starved ≡ false → other ≡ whole_run end made

-- the lines were carried out one after another, and the answer of each was written whole
abbrev pub Carried : State → List Told → State → Type 0
Carried before [] end = end ≡ before
Carried before (told ∷ more) end =
    (lined : Lined) × LineDoes before told lined × (lined.fault ≡ None) × Carried (counted lined.now) more end

-- the calls begin with the early ones
abbrev pub BeginsWith : {X : Type 0} → List X → List X → Type 0
BeginsWith {X} early made = (more : List X) × (made ≡ early ++ more)

-- A run goes on without want of memory up to the end of the lines that it counts. These are the first lines of the
-- input; each was carried out with memory, and the calls on the sink begin with those that write their answers whole, and the asks of the
-- desk with theirs. Every run of the same words, input and opening in which the sink and the desk answer these in the same way, and that
-- has memory throughout, begins with them too.
pub record BeginsFed (words : List (List ℕ)) (source_old source_new out_old out_new up_old up_new : DeviceLog) (steps : List Step) (under : Option Step) (end : Ending) : Type 0 where
  pub heard : List Happened
  pub made : Made
  pub opened : Opened
  pub gave : Grew source_old source_new heard
  pub out : Grew out_old out_new made.out
  pub up : Grew up_old up_new made.up
  pub traced : HasSteps opened made.desk steps under
  pub first : List Told
  pub rest : List (List ℕ)
  pub lines : lines_of (given heard) ≡ map line_of first ++ rest
  pub count : end.done ≡ min (length first) 18446744073709551615
  pub now : State
  pub current : PathParts
  pub table : DeskTable
  pub stands : (base : BaseParts) → IsBase words base → current ≡ base.path
  pub opens : (t : DeskTable) → opened ≡ Ok t → table ≡ t
  pub carried : Carried (fresh_state current table) first now
  pub fed : now.starved ≡ false
  pub early : List Happened
  pub begins : BeginsWith early made.out
  pub asks : BeginsWith (asked_by first) made.desk
  pub output : taken early ≡ printed_by first
  pub only : (answers : Answers) (other : Run Made Answers Ending)
      → Runs words (given heard) (any_failed is_failure heard) opened (answers_of (answers_before early answers.out) answers.up (answers_before (asked_by first) answers.desk)) other
      → other.result.starved ≡ false → BeginsWith early other.made.out × BeginsWith (asked_by first) other.made.desk
