-- Of the same answers one drain comes, where there was memory for it.
use Rattle.std.proofs.Common.{◌≡◌, ℕ, List, [], ◌∷◌, Option, Some, None, Ok, Err, sym, ◌∙◌, ap, subst}
use Rattle.dav_machine.specs.Log.{event}
use Rattle.dav_machine.specs.Devices.{one_device}
use Rattle.dav_machine.specs.Machine.{Run, run_with, prepend, give}
use Rattle.dav_machine.specs.Part.{lift}
use Rattle.dav_edge.specs.Device.{Answer as WireAnswer, Happened}
use Rattle.dav_uri.specs.Target.{BaseParts}
use Rattle.dav_deeds.specs.Answers.{job_in}
use Rattle.dav_deeds.specs.DeskTable.{DeskTable}
use Rattle.dav_deeds.specs.declared.answer.Job.{Job}
use Rattle.dav_upload.specs.declared.did.Did.TheVariants as did
use Rattle.dav_upload.specs.declared.did.UploadFault.TheVariants as faults
use Rattle.dav_upload.specs.Exchange.{Uploads, Uploaded}
use Rattle.dav_upload.specs.Ending.{Ending, ending_of}
use Rattle.dav_upload.specs.Asking.{Asking, Answered, answer_met, table_met, Asks}
use Rattle.dav_upload.specs.Pair.{Made, Answers, pair, the_wire, the_desk}
use Rattle.dav_upload.specs.Drain.{take_ask, settle_ask, Turned, fault_of, did_of, JobSends, Settles, Finishes, goes_on, TurnsOf, Drained, drained_by, Drains, last, turn}
use Rattle.dav_run.proofs.One.{One, AnyResult, one_give, one_then, one_lift, one_calls}
use Rattle.dav_run.proofs.OneUpload.{UploadFed, one_uploads}

-- one ask has one outcome
pub one_asks : (t : DeskTable) (a : Asking) (Fed : Answered × DeskTable → Type 0) → One (Asks t a) Fed
one_asks t a Fed [] r q d e fr fq = absurd d
one_asks t a Fed (met ∷ more) r q d e fr fq =
    one_calls (event a met) (give one_device (answer_met t a met, table_met t a met) more) Fed r q d e fr fq (λ x y c k fx fy. c ∙ sym k)

abbrev EndingFed : Ending → Type 0
EndingFed (Ok done) = Unit {0}
EndingFed (Err want) = ⊥

ending_fed : (came : Uploaded) (answers : List WireAnswer) (r : Run (List Happened) (List WireAnswer) Ending) → give one_device (ending_of came) answers r → EndingFed r.result → UploadFed came
ending_fed (Ok came) answers r does fed = tt
ending_fed (Err want) answers r does fed = subst (λ (q : Run (List Happened) (List WireAnswer) Ending). EndingFed q.result) does fed

one_job : (base : BaseParts) (job : Job) → One (JobSends base job) EndingFed
one_job base job =
    one_then one_device (Uploads base job.path job.seen job.bytes) (λ came. give one_device (ending_of came)) UploadFed EndingFed (one_uploads base job.path job.seen job.bytes)
    (λ came. one_give one_device (ending_of came) EndingFed) ending_fed

-- a turn that didn't end for want of memory
abbrev TurnedFed : Turned → Type 0
TurnedFed (Ok done) = Unit {0}
TurnedFed (Err (faults.Desk fault)) = Unit {0}
TurnedFed (Err faults.Memory) = ⊥

abbrev TurnFed : Turned × DeskTable → Type 0
TurnFed x = TurnedFed x.0

abbrev TurnRun : Type 0
TurnRun = Run Made Answers (Turned × DeskTable)

one_settles : (now : ℕ) (job : Job) (t : DeskTable) (ending : Ending) → One (Settles now job t ending) TurnFed
one_settles now job t (Ok done) =
    one_then pair (lift the_desk (Asks t (settle_ask now job.number done))) (λ r. give pair (did_of r.0, r.1)) AnyResult TurnFed
    (one_lift one_device pair the_desk (Asks t (settle_ask now job.number done)) AnyResult (one_asks t (settle_ask now job.number done) AnyResult)) (λ r. one_give pair (did_of r.0, r.1) TurnFed) (λ r answers run does fed. tt)
one_settles now job t (Err want) = one_give pair (Err faults.Memory, t) TurnFed

settles_fed : (now : ℕ) (job : Job) (t : DeskTable) (ending : Ending) (answers : Answers) (r : TurnRun) → Settles now job t ending answers r → TurnFed r.result → EndingFed ending
settles_fed now job t (Ok done) answers r does fed = tt
settles_fed now job t (Err want) answers r does fed = subst (λ (q : TurnRun). TurnFed q.result) does fed

one_finishes : (base : BaseParts) (now : ℕ) (t : DeskTable) (job : Option Job) → One (Finishes base now t job) TurnFed
one_finishes base now t None = one_give pair (Ok did.Nothing, t) TurnFed
one_finishes base now t (Some job) =
    one_then pair (lift the_wire (JobSends base job)) (Settles now job t) EndingFed TurnFed (one_lift one_device pair the_wire (JobSends base job) EndingFed (one_job base job)) (one_settles now job t) (settles_fed now job t)

one_goes : (base : BaseParts) (now : ℕ) (answered : Answered) (t : DeskTable) → One (goes_on base now answered t) TurnFed
one_goes base now (Ok answer) t = one_finishes base now t (job_in answer)
one_goes base now (Err fault) t = one_give pair (Err (fault_of fault), t) TurnFed

one_turn : (base : BaseParts) (now : ℕ) (t : DeskTable) → One (TurnsOf base now t) TurnFed
one_turn base now t =
    one_then pair (lift the_desk (Asks t (take_ask now))) (λ r. goes_on base now r.0 r.1) AnyResult TurnFed
    (one_lift one_device pair the_desk (Asks t (take_ask now)) AnyResult (one_asks t (take_ask now) AnyResult)) (λ r. one_goes base now r.0 r.1) (λ r answers run does fed. tt)

-- a drain that didn't end for want of memory
abbrev pub DrainedFed : Drained → Type 0
DrainedFed (Ok done) = Unit {0}
DrainedFed (Err (faults.Desk fault)) = Unit {0}
DrainedFed (Err faults.Memory) = ⊥

abbrev pub DrainFed : Drained × DeskTable → Type 0
DrainFed x = DrainedFed x.0

abbrev pub DrainRun : Type 0
DrainRun = Run Made Answers (Drained × DeskTable)

abbrev ends_so : Drained → Option Drained
ends_so drained = Some drained

last_fed : (turned : Turned) (drained : Drained) → drained_by turned ≡ Some drained → DrainedFed drained → TurnedFed turned
last_fed (Ok did.Nothing) drained ends fed = tt
last_fed (Ok (did.Settled fated)) drained ends fed = tt
last_fed (Err (faults.Desk fault)) drained ends fed = tt
last_fed (Err faults.Memory) drained ends fed = let same : Err faults.Memory ≡ drained = cc in subst DrainedFed (sym same) fed

goes_fed : (turned : Turned) → drained_by turned ≡ None → TurnedFed turned
goes_fed (Ok done) goes = tt
goes_fed (Err fault) goes = let h : ends_so (Err fault) ≡ None = goes in absurd (cc)

same_end : (turned other : Turned) (a b : Drained) → turned ≡ other → drained_by turned ≡ Some a → drained_by other ≡ Some b → a ≡ b
same_end turned other a b same one two = let h : ends_so a ≡ ends_so b = sym one ∙ ap drained_by same ∙ two in cc

no_end : (turned other : Turned) (a : Drained) (P : Type 0) → turned ≡ other → drained_by turned ≡ Some a → drained_by other ≡ None → P
no_end turned other a P same one two = let h : ends_so a ≡ None = sym one ∙ ap drained_by same ∙ two in absurd (cc)

abbrev last_run : TurnRun → Drained → DrainRun
last_run one drained = run_with (drained, one.result.1) one.made one.left

last_or : (base : BaseParts) (now : ℕ) (t : DeskTable) (answers : Answers) (r q : DrainRun) (one : TurnRun) (drained : Drained) → TurnsOf base now t answers one → drained_by one.result.0 ≡ Some drained → r ≡ last_run one drained
    → Drains base now t answers q → DrainFed r.result → DrainFed q.result → r ≡ q
last_or base now t answers r q one drained does ends is (last u a x other more goes too also) fr fq =
    let fed : DrainedFed drained = subst (λ (z : DrainRun). DrainFed z.result) is fr in
    let fed_too : DrainedFed more = subst (λ (z : DrainRun). DrainFed z.result) also fq in
    let same : one ≡ other = one_turn base now u a one other does goes (last_fed one.result.0 drained ends fed) (last_fed other.result.0 more too fed_too) in
    let end : drained ≡ more = same_end one.result.0 other.result.0 drained more (ap (λ (z : TurnRun). z.result.0) same) ends too in
    is ∙ ap (λ (z : TurnRun). last_run z drained) same ∙ ap (last_run other) end ∙ sym also
last_or base now t answers r q one drained does ends is (turn u a x other rest goes on_ later also) fr fq =
    let fed : DrainedFed drained = subst (λ (z : DrainRun). DrainFed z.result) is fr in
    let same : one ≡ other = one_turn base now u a one other does goes (last_fed one.result.0 drained ends fed) (goes_fed other.result.0 on_) in
    no_end one.result.0 other.result.0 drained (r ≡ x) (ap (λ (z : TurnRun). z.result.0) same) ends on_

turn_or : (base : BaseParts) (now : ℕ) (t : DeskTable) (answers : Answers) (r q : DrainRun) (one : TurnRun) (rest : DrainRun) → TurnsOf base now t answers one → drained_by one.result.0 ≡ None → r ≡ prepend pair one.made rest
    → ((x : DrainRun) → Drains base now one.result.1 one.left x → DrainFed x.result → rest ≡ x) → Drains base now t answers q → DrainFed q.result → r ≡ q
turn_or base now t answers r q one rest does on_ is later (last u a x other more goes too also) fq =
    let fed_too : DrainedFed more = subst (λ (z : DrainRun). DrainFed z.result) also fq in
    let same : other ≡ one = one_turn base now u a other one goes does (last_fed other.result.0 more too fed_too) (goes_fed one.result.0 on_) in
    no_end other.result.0 one.result.0 more (r ≡ x) (ap (λ (z : TurnRun). z.result.0) same) too on_
turn_or base now t answers r q one rest does on_ is later (turn u a x other more goes on_too drains also) fq =
    let same : one ≡ other = one_turn base now u a one other does goes (goes_fed one.result.0 on_) (goes_fed other.result.0 on_too) in
    let back : Drains base now one.result.1 one.left more = subst (λ (z : TurnRun). Drains base now z.result.1 z.left more) (sym same) drains in
    is ∙ ap (prepend pair one.made) (later more back (subst (λ (z : DrainRun). DrainFed z.result) also fq)) ∙ ap (λ (z : TurnRun). prepend pair z.made more) same ∙ sym also

pub one_drain : (base : BaseParts) (now : ℕ) (t : DeskTable) → One (Drains base now t) DrainFed
one_drain base now t answers r q (last u a x one drained does ends is) e fr fq = last_or base now u a x q one drained does ends is e fr fq
one_drain base now t answers r q (turn u a x one rest does on_ drains is) e fr fq =
    turn_or base now u a x q one rest does on_ is
    (λ y d f. one_drain base now one.result.1 one.left rest y drains d (subst (λ (z : DrainRun). DrainFed z.result) is fr) f) e fq
