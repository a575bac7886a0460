-- Turns of the uploader: a job is taken, sent and settled. The drain is turn after turn, until nothing is to be taken.
use Rattle.std.specs.Prelude.{◌≡◌, ℕ, Option, Some, None, Result, Ok, Err}
use Rattle.dav_machine.specs.Devices.{one_device}
use Rattle.dav_machine.specs.Machine.{Run, run_with, prepend, give, and_then}
use Rattle.dav_machine.specs.Part.{lift}
use Rattle.dav_edge.specs.Device.{ByteMachine, DeviceLog}
use Rattle.dav_uri.specs.Target.{BaseParts}
use Rattle.dav_text.specs.declared.memory.Memory.{Memory as Want}
use Rattle.dav_deeds.specs.Answers.{fate_in, job_in}
use Rattle.dav_deeds.specs.DeskTable.{DeskTable}
use Rattle.dav_deeds.specs.declared.answer.Answer.{Answer}
use Rattle.dav_deeds.specs.declared.answer.Fated.{Fated}
use Rattle.dav_deeds.specs.declared.answer.Job.{Job}
use Rattle.dav_deeds.specs.declared.ask.Ask.TheVariants.{Take, Settle}
use Rattle.dav_deeds.specs.declared.ask.Done.{Done}
use Rattle.dav_deeds.specs.declared.ask.Who.TheVariants.{Uploader}
use Rattle.dav_deeds.specs.declared.fault.DeskFault.{DeskFault}
use Rattle.dav_deeds.specs.declared.fault.DeskFault.TheVariants as desk
use Rattle.dav_desk.specs.declared.desk.Desk.{Desk}
use Rattle.dav_upload.specs.declared.did.Did.{Did}
use Rattle.dav_upload.specs.declared.did.Did.TheVariants as did
use Rattle.dav_upload.specs.declared.did.UploadFault.{UploadFault}
use Rattle.dav_upload.specs.declared.did.UploadFault.TheVariants as faults
use Rattle.dav_upload.specs.Exchange.{Uploads}
use Rattle.dav_upload.specs.Ending.{Ending, ending_of, Sends}
use Rattle.dav_upload.specs.Asking.{Asking, asking, Answered, Asks}
use Rattle.dav_upload.specs.Desks.{DiskView, AskedSo}
use Rattle.dav_upload.specs.Pair.{Made, Answers, pair, the_wire, the_desk, PairMachine}

abbrev pub take_ask : ℕ → Asking
take_ask now = asking Uploader now Take

abbrev pub settle_ask : ℕ → ℕ → Done → Asking
settle_ask now number done = asking Uploader now (Settle number done)

-- what a turn answers
abbrev pub Turned : Type 0
Turned = Result Did UploadFault

-- why a turn gives up, by the fault of the desk
abbrev pub fault_of : DeskFault → UploadFault
fault_of desk.Disk = faults.Desk desk.Disk
fault_of (desk.NotACache at) = faults.Desk (desk.NotACache at)
fault_of (desk.Damaged file stored found) = faults.Desk (desk.Damaged file stored found)
fault_of (desk.OtherServer kept asked) = faults.Desk (desk.OtherServer kept asked)
fault_of (desk.Queued path) = faults.Desk (desk.Queued path)
fault_of (desk.NoSuchJob number) = faults.Desk (desk.NoSuchJob number)
fault_of (desk.Crowded oldest) = faults.Desk (desk.Crowded oldest)
fault_of (desk.Limit which) = faults.Desk (desk.Limit which)
fault_of desk.Memory = faults.Memory

-- what a settling comes to
abbrev pub did_by : Option Fated → Did
did_by None = did.Nothing
did_by (Some fated) = did.Settled fated

abbrev pub did_in : Answer → Did
did_in answer = did_by (fate_in answer)

abbrev pub did_of : Answered → Turned
did_of (Ok answer) = Ok (did_in answer)
did_of (Err fault) = Err (fault_of fault)

-- the file of a job is sent where what was known of it still holds, and how the job ends then
abbrev pub JobSends : BaseParts → Job → ByteMachine Ending
JobSends base job = and_then one_device (Uploads base job.path job.seen job.bytes) (λ came. give one_device (ending_of came))

-- how the job ended is settled; without memory it stays in flight
abbrev pub Settles : ℕ → Job → DeskTable → Ending → PairMachine (Turned × DeskTable)
Settles now job t (Ok done) = and_then pair (lift the_desk (Asks t (settle_ask now job.number done))) (λ r. give pair (did_of r.0, r.1))
Settles now job t (Err want) = give pair (Err faults.Memory, t)

-- the job that was taken, if one was, is sent and settled
abbrev pub Finishes : BaseParts → ℕ → DeskTable → Option Job → PairMachine (Turned × DeskTable)
Finishes base now t None = give pair (Ok did.Nothing, t)
Finishes base now t (Some job) = and_then pair (lift the_wire (JobSends base job)) (Settles now job t)

abbrev pub goes_on : BaseParts → ℕ → Answered → DeskTable → PairMachine (Turned × DeskTable)
goes_on base now (Ok answer) t = Finishes base now t (job_in answer)
goes_on base now (Err fault) t = give pair (Err (fault_of fault), t)

-- one turn: the next job is taken, sent and settled. What it answers, and the table then
abbrev pub TurnsOf : BaseParts → ℕ → DeskTable → PairMachine (Turned × DeskTable)
TurnsOf base now t = and_then pair (lift the_desk (Asks t (take_ask now))) (λ r. goes_on base now r.0 r.1)

-- what a drain answers
abbrev pub Drained : Type 0
Drained = Result (Unit {0}) UploadFault

-- what the drain answers after a turn, unless it goes on
abbrev pub drained_by : Turned → Option Drained
drained_by (Ok did.Nothing) = Some (Ok tt)
drained_by (Ok (did.Settled fated)) = None
drained_by (Err fault) = Some (Err fault)

-- One turn after another, until nothing is to be taken. What the drain answers, and the table then.
pub data Drains (base : BaseParts) (now : ℕ) : DeskTable → Answers → Run Made Answers (Drained × DeskTable) → Type 0 where
  last : (t : DeskTable) (answers : Answers) (run : Run Made Answers (Drained × DeskTable)) (one : Run Made Answers (Turned × DeskTable)) (drained : Drained)
      → TurnsOf base now t answers one → drained_by one.result.0 ≡ Some drained → run ≡ run_with (drained, one.result.1) one.made one.left → Drains base now t answers run
  turn : (t : DeskTable) (answers : Answers) (run : Run Made Answers (Drained × DeskTable)) (one : Run Made Answers (Turned × DeskTable)) (rest : Run Made Answers (Drained × DeskTable))
      → TurnsOf base now t answers one → drained_by one.result.0 ≡ None → Drains base now one.result.1 one.left rest → run ≡ prepend pair one.made rest → Drains base now t answers run

-- the job was sent, and what came of it was settled, unless there was no memory
pub data SentSo {D : Type 0} (view : DiskView D) (base : BaseParts) (now : ℕ) (job : Job) (wire_old wire_new : DeviceLog) (old new : Desk D) (turned : Turned) : Type 0 where
  starved : (want : Want) → Sends base job wire_old wire_new (Err want) → new ≡ old → turned ≡ Err faults.Memory → SentSo view base now job wire_old wire_new old new turned
  settled : (done : Done) (answered : Answered) → Sends base job wire_old wire_new (Ok done) → AskedSo view now (Settle job.number done) old new answered → turned ≡ did_of answered
      → SentSo view base now job wire_old wire_new old new turned

-- one turn over a desk and a wire
pub data TurnSo {D : Type 0} (view : DiskView D) (base : BaseParts) (now : ℕ) (wire_old wire_new : DeviceLog) (old new : Desk D) (turned : Turned) : Type 0 where
  idle : (answer : Answer) → AskedSo view now Take old new (Ok answer) → job_in answer ≡ None → wire_new ≡ wire_old → turned ≡ Ok did.Nothing → TurnSo view base now wire_old wire_new old new turned
  stopped : (fault : DeskFault) → AskedSo view now Take old new (Err fault) → wire_new ≡ wire_old → turned ≡ Err (fault_of fault) → TurnSo view base now wire_old wire_new old new turned
  took : (mid : Desk D) (answer : Answer) (job : Job) → AskedSo view now Take old mid (Ok answer) → job_in answer ≡ Some job → SentSo view base now job wire_old wire_new mid new turned
      → TurnSo view base now wire_old wire_new old new turned
