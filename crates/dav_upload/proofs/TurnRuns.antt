-- A turn over a desk and a wire is a run of its machine, and so is a drain.
use Rattle.std.proofs.Common.{◌≡◌, ℕ, List, Option, Some, Ok, Err, refl, sym, ◌∙◌, ap, subst}
use Rattle.dav_machine.specs.Log.{event}
use Rattle.dav_machine.specs.Devices.{one_device}
use Rattle.dav_machine.specs.Machine.{run_with, prepend, give, Reaches, Does}
use Rattle.dav_machine.specs.Part.{lift}
use Rattle.dav_machine.proofs.Logs.{grows_then, grows_same}
use Rattle.dav_machine.proofs.Reaching.{reaches_same, reaches_then, reaches_next, reaches_next_call, does_lifted}
use Rattle.dav_edge.specs.Device.{DeviceLog, Grew, is_failure}
use Rattle.dav_edge.specs.Whole.{DoesOn}
use Rattle.dav_uri.specs.Target.{BaseParts}
use Rattle.dav_deeds.specs.DeskTable.{DeskTable}
use Rattle.dav_deeds.specs.declared.answer.Fated.{Fated}
use Rattle.dav_deeds.specs.declared.answer.Job.{Job}
use Rattle.dav_deeds.specs.declared.ask.Ask.TheVariants as asks
use Rattle.dav_desk.specs.declared.desk.Desk.{Desk}
use Rattle.dav_upload.specs.declared.did.Did.TheVariants as did
use Rattle.dav_upload.specs.declared.did.UploadFault.TheVariants as faults
use Rattle.dav_upload.specs.Exchange.{Uploads}
use Rattle.dav_upload.specs.Ending.{Ending, ending_of, Sends}
use Rattle.dav_upload.specs.Asking.{Asking, Met, Asked, Answered, table_met, answer_met, Asks}
use Rattle.dav_upload.specs.Desks.{DiskView, WasAsked, WereAsked, AskedSo}
use Rattle.dav_upload.specs.Pair.{Made, pair, the_wire, the_desk, PairMachine, PairGrew}
use Rattle.dav_upload.specs.Drain.{take_ask, settle_ask, Turned, fault_of, did_of, JobSends, Settles, Finishes, goes_on, TurnsOf, Drained, drained_by, Drains, last, turn, SentSo, starved, settled, TurnSo, idle, stopped, took}
use Rattle.dav_upload.proofs.Asks.{were_then}

abbrev Result2 : Type 0
Result2 = Turned × DeskTable

abbrev result2 : Turned → DeskTable → Result2
result2 turned t = (turned, t)

module _ {D : Type 0} (view : DiskView D) where
  pub pair_then : {R : Type 0} (a b c : DeviceLog) (x y z : Desk D) (f g h : PairMachine R) → Reaches pair (PairGrew view a b x y) f g → Reaches pair (PairGrew view b c y z) g h → Reaches pair (PairGrew view a c x z) f h
  pair_then a b c x y z f g h = reaches_then pair (PairGrew view a b x y) (PairGrew view b c y z) (PairGrew view a c x z) f g h
      (λ one two first second. record { up = grows_then is_failure a b c one.up two.up first.up second.up; desk = were_then view one.desk two.desk x y z first.desk second.desk })

  pub pair_same : {R : Type 0} (a : DeviceLog) (x : Desk D) (f : PairMachine R) → Reaches pair (PairGrew view a a x x) f f
  pair_same a x f = reaches_same pair (PairGrew view a a x x) f (record { up = grows_same is_failure a; desk = refl })

  -- one ask
  asks_once : (a : DeviceLog) (x y : Desk D) (asked : Asking) (met : Met) → WasAsked view (event asked met) x y
      → Does pair (PairGrew view a a x y) (lift the_desk (Asks x.table asked)) (answer_met x.table asked met, table_met x.table asked met)
  asks_once a x y asked met was =
      does_lifted one_device pair the_desk (λ (es : List Asked). WereAsked view es x y) (PairGrew view a a x y) (Asks x.table asked) (answer_met x.table asked met, table_met x.table asked met)
      (λ es were. record { up = grows_same is_failure a; desk = were })
      (reaches_next_call (λ (es : List Asked). WereAsked view es x y) (Asks x.table asked) (give one_device (answer_met x.table asked met, table_met x.table asked met)) (event asked met)
      (y, was, refl) (λ more run calls. calls))

  -- the file of a job is sent
  sends_once : (a b : DeviceLog) (x : Desk D) (base : BaseParts) (job : Job) (ending : Ending) → Sends base job a b ending → Does pair (PairGrew view a b x x) (lift the_wire (JobSends base job)) ending
  sends_once a b x base job ending sends =
      does_lifted one_device pair the_wire (Grew a b) (PairGrew view a b x x) (JobSends base job) ending (λ es grew. record { up = grew; desk = refl })
      (subst (λ (e : Ending). DoesOn a b (JobSends base job) e) (sym sends.ends)
      (reaches_next one_device (Grew a b) (Uploads base job.path job.seen job.bytes) sends.came (λ came. give one_device (ending_of came)) sends.uploads))

  turned_as : (a b : DeviceLog) (x y : Desk D) (f : PairMachine Result2) (turned other : Turned) (t : DeskTable) → other ≡ turned → y.table ≡ t → Does pair (PairGrew view a b x y) f (turned, t) → Does pair (PairGrew view a b x y) f (other, y.table)
  turned_as a b x y f turned other t is same does =
      subst (λ (r : Result2). Does pair (PairGrew view a b x y) f r) (sym (ap (λ (r : Turned). result2 r y.table) is ∙ ap (λ (u : DeskTable). result2 turned u) same)) does

  sent_does : (a b : DeviceLog) (x y : Desk D) (base : BaseParts) (now : ℕ) (job : Job) (turned : Turned) → SentSo view base now job a b x y turned → Does pair (PairGrew view a b x y) (Finishes base now x.table (Some job)) (turned, y.table)
  sent_does a b x y base now job turned (starved want sends same is) =
      subst (λ (d : Desk D). Does pair (PairGrew view a b x d) (Finishes base now x.table (Some job)) (turned, d.table)) (sym same)
      (turned_as a b x x (Finishes base now x.table (Some job)) (Err faults.Memory) turned x.table is refl
      (reaches_next pair (PairGrew view a b x x) (lift the_wire (JobSends base job)) (Err want) (Settles now job x.table) (sends_once a b x base job (Err want) sends)))
  sent_does a b x y base now job turned (settled done answered sends asked is) =
      let met = asked.met in
      let settling = settle_ask now job.number done in
      turned_as a b x y (Finishes base now x.table (Some job)) (did_of (answer_met x.table settling met)) turned (table_met x.table settling met) (is ∙ ap did_of asked.answer) asked.was.table
      (pair_then a b b x x y (Finishes base now x.table (Some job)) (Settles now job x.table (Ok done)) (give pair (did_of (answer_met x.table settling met), table_met x.table settling met))
      (reaches_next pair (PairGrew view a b x x) (lift the_wire (JobSends base job)) (Ok done) (Settles now job x.table) (sends_once a b x base job (Ok done) sends))
      (reaches_next pair (PairGrew view b b x y) (lift the_desk (Asks x.table settling)) (answer_met x.table settling met, table_met x.table settling met) (λ r. give pair (did_of r.0, r.1)) (asks_once b x y settling met asked.was)))

  -- the job was asked for, and the turn goes on by the answer
  takes : (a : DeviceLog) (x y : Desk D) (base : BaseParts) (now : ℕ) (answered : Answered) (asked : AskedSo view now asks.Take x y answered) → Reaches pair (PairGrew view a a x y) (TurnsOf base now x.table) (goes_on base now answered y.table)
  takes a x y base now answered asked =
      let met = asked.met in
      let after : DeskTable = table_met x.table (take_ask now) met in
      subst (λ (t : DeskTable). Reaches pair (PairGrew view a a x y) (TurnsOf base now x.table) (goes_on base now answered t)) (sym asked.was.table)
      (subst (λ (r : Answered). Reaches pair (PairGrew view a a x y) (TurnsOf base now x.table) (goes_on base now r after)) (sym asked.answer)
      (reaches_next pair (PairGrew view a a x y) (lift the_desk (Asks x.table (take_ask now))) (answer_met x.table (take_ask now) met, after) (λ r. goes_on base now r.0 r.1) (asks_once a x y (take_ask now) met asked.was)))

  at_log : (a b : DeviceLog) (x y : Desk D) (f : PairMachine Result2) (r : Result2) → b ≡ a → Does pair (PairGrew view a a x y) f r → Does pair (PairGrew view a b x y) f r
  at_log a b x y f r same does = subst (λ (log : DeviceLog). Does pair (PairGrew view a log x y) f r) (sym same) does

  pub turn_does : (a b : DeviceLog) (x y : Desk D) (base : BaseParts) (now : ℕ) (turned : Turned) → TurnSo view base now a b x y turned → Does pair (PairGrew view a b x y) (TurnsOf base now x.table) (turned, y.table)
  turn_does a b x y base now turned (idle answer asked none same is) =
      at_log a b x y (TurnsOf base now x.table) (turned, y.table) same
      (turned_as a a x y (TurnsOf base now x.table) (Ok did.Nothing) turned y.table is refl
      (subst (λ (job : Option Job). Reaches pair (PairGrew view a a x y) (TurnsOf base now x.table) (Finishes base now y.table job)) none (takes a x y base now (Ok answer) asked)))
  turn_does a b x y base now turned (stopped fault asked same is) =
      at_log a b x y (TurnsOf base now x.table) (turned, y.table) same
      (turned_as a a x y (TurnsOf base now x.table) (Err (fault_of fault)) turned y.table is refl (takes a x y base now (Err fault) asked))
  turn_does a b x y base now turned (took mid answer job asked has sent) =
      pair_then a a b x mid y (TurnsOf base now x.table) (Finishes base now mid.table (Some job)) (give pair (turned, y.table))
      (subst (λ (j : Option Job). Reaches pair (PairGrew view a a x mid) (TurnsOf base now x.table) (Finishes base now mid.table j)) has (takes a x mid base now (Ok answer) asked))
      (sent_does a b mid y base now job turned sent)

  -- the drain goes on behind a turn
  pub drain_goes_on : (a b : DeviceLog) (x y : Desk D) (base : BaseParts) (now : ℕ) (fated : Fated) → Does pair (PairGrew view a b x y) (TurnsOf base now x.table) (Ok (did.Settled fated), y.table)
      → Reaches pair (PairGrew view a b x y) (Drains base now x.table) (Drains base now y.table)
  drain_goes_on a b x y base now fated one =
      let r : Result2 = (Ok (did.Settled fated), y.table) in record {
        made = one.made;
        grew = one.grew;
        same = λ more run does.
            turn x.table (pair.answered one.made more) (prepend pair one.made run) (prepend pair one.made (run_with r pair.nothing more)) run (one.same more (run_with r pair.nothing more) refl) refl does
            (ap (λ (made : Made). prepend pair made run) (sym (pair.joined_nothing one.made)));
      }

  -- or ends
  pub drain_ends : (a b : DeviceLog) (x y : Desk D) (base : BaseParts) (now : ℕ) (turned : Turned) (drained : Drained) → drained_by turned ≡ Some drained → Does pair (PairGrew view a b x y) (TurnsOf base now x.table) (turned, y.table)
      → Does pair (PairGrew view a b x y) (Drains base now x.table) (drained, y.table)
  drain_ends a b x y base now turned drained ends one =
      let r : Result2 = (turned, y.table) in record {
        made = one.made;
        grew = one.grew;
        same = λ more run does.
            last x.table (pair.answered one.made more) (prepend pair one.made run) (prepend pair one.made (run_with r pair.nothing more)) drained (one.same more (run_with r pair.nothing more) refl) ends
            (ap (prepend pair one.made) does);
      }
