-- How a desk goes on, or ends.
use Rattle.std.proofs.Common.{◌≡◌, ℕ, List, [], ◌∷◌, ◌++◌, Option, Some, None, Result, refl, sym, ◌∙◌, ap, subst}
use Rattle.std.specs.Prelude.{◌≢◌, IfOk, IfErr}
use Rattle.sha2.specs.Sha256.{sha256}
use Rattle.dav_disk.specs.Disk.{Doubt}
use Rattle.dav_store.specs.Rows.{IsReady}
use Rattle.dav_store.specs.View.{journal_end}
use Rattle.dav_store.specs.declared.body_id.BodyId.{BodyId}
use Rattle.dav_deeds.specs.Answers.{Tells, Ends, answer_of, kind_told, wanted}
use Rattle.dav_deeds.specs.DeskTable.{DeskTable}
use Rattle.dav_deeds.specs.Effects.{after}
use Rattle.dav_deeds.specs.Legal.{table_after}
use Rattle.dav_deeds.specs.Made.{answer_by}
use Rattle.dav_deeds.specs.declared.answer.Answer.{Answer}
use Rattle.dav_deeds.specs.declared.answer.Told.{Told}
use Rattle.dav_deeds.specs.declared.deed.Mark.{Mark}
use Rattle.dav_deeds.specs.declared.deed.Mark.TheVariants as marks
use Rattle.dav_deeds.specs.declared.deed.Step.{Step}
use Rattle.dav_deeds.specs.declared.fault.DeskFault.{DeskFault}
use Rattle.dav_deeds.specs.declared.fault.DeskFault.TheVariants.{Memory}
use Rattle.dav_deeds.proofs.Rows.{wanted_told}
use Rattle.dav_deeds.proofs.Taking.{table_push}
use Rattle.dav_recorder.specs.Survives.{IsLive}
use Rattle.dav_recorder.specs.declared.recorder.Recorder.{Recorder}
use Rattle.dav_recorder.proofs.LiveLemmas.{stamped}
use Rattle.dav_desk.specs.declared.desk.Desk.{Desk}
use Rattle.dav_desk.specs.Ends.{IsEnd, IsEndIfAny}
use Rattle.dav_desk.specs.Room.{HasRoom}
use Rattle.dav_desk.specs.Verdict.{with_bytes}
use Rattle.dav_desk.specs.Working.{IsReadied, IsWorking, HasBytes, HasSum}
use Rattle.dav_desk.proofs.Entering.{live_reserved}

module _ {D : Type 0} (honest : D → Type 0) (moment : D → ℕ) (seen : D → ℕ → List ℕ) (past : D → ℕ → ℕ → Doubt) where
  abbrev pub CanRecord : Recorder D → Type 0
  CanRecord r = IsReady (journal_end r.journal) (seen r.disk 0) (past r.disk (moment r.disk) 0)

  pub records_reserved : (old r : Recorder D) → r ≡ record old { trace = r.trace } → CanRecord old → CanRecord r
  records_reserved old r rest is = subst CanRecord (sym rest) is

  -- the desk lives on
  pub readied_alive : (desk : Desk D) → desk.recorder.dead ≡ None → (honest desk.recorder.disk → CanRecord desk.recorder) → HasRoom desk → IsReadied honest moment seen past desk
  readied_alive desk alive can room = record { index = λ h is. can h; end = subst IsEndIfAny (sym alive) tt; room = λ is. room }

  -- or has died
  pub readied_dead : (desk : Desk D) (fault : DeskFault) → desk.recorder.dead ≡ Some fault → IsEnd fault → IsReadied honest moment seen past desk
  readied_dead desk fault dead end = record { index = λ h alive. absurd (not_both alive); end = subst IsEndIfAny (sym dead) end; room = λ alive. absurd (not_both alive) }
    where
      not_both : desk.recorder.dead ≡ None → ⊥
      not_both alive = let same : None ≡ Some fault = sym alive ∙ dead in cc same

module _ {D : Type 0} (moment : D → ℕ) (seen : D → ℕ → List ℕ) (past : D → ℕ → ℕ → Doubt) (url : List ℕ) (opening : DeskTable) (start : ℕ) (given : ℕ → List ℕ) where
  abbrev pub Works : Desk D → Type 0
  Works desk = IsWorking moment seen past url opening start given desk

  abbrev pub Lives : Recorder D → Type 0
  Lives r = IsLive moment seen past url opening start given r

  pub lives_reserved : (old r : Recorder D) → r ≡ record old { trace = r.trace } → r.trace.steps.items ≡ old.trace.steps.items → Lives old → Lives r
  lives_reserved old r rest same is = subst Lives (sym rest) (live_reserved moment seen past url opening start given old r.trace same is)

  -- the same steps
  pub works_still : (old new : Desk D) → new.table ≡ old.table → new.recorder.trace.steps.items ≡ old.recorder.trace.steps.items → new.recorder.dead ≡ None → Works old → Lives new.recorder → Works new
  works_still old new table items alive is live = record {
    alive = alive;
    table = table ∙ is.table ∙ ap (λ (l : List Step). table_after opening l) (sym items);
    live = live;
  }

  -- one step more
  pub works_on : (old new : Desk D) (s : Step) (n : ℕ) → new.table ≡ after old.table s.now s.deed → new.recorder.trace.steps.items ≡ old.recorder.trace.steps.items ++ stamped s n ∷ [] → new.recorder.dead ≡ None → Works old → Lives new.recorder → Works new
  works_on old new s n table items alive is live = record {
    alive = alive;
    table = table ∙ ap (λ (t : DeskTable). after t s.now s.deed) is.table ∙ sym (table_push opening old.recorder.trace.steps.items (stamped s n)) ∙ ap (λ (l : List Step). table_after opening l) (sym items);
    live = live;
  }

-- what is answered with bytes
told_has : (P : Answer → Type 0) (mark : Mark) (told : Option Told) (bytes : List ℕ) → ((t : Told) → told ≡ Some t → P (answer_of t bytes)) → IfOk (with_bytes (answer_by mark told) bytes) P
told_has P mark (Some t) bytes each = each t refl
told_has P (marks.Refused fault) None bytes each = tt
told_has P marks.Plain None bytes each = tt
told_has P (marks.Body body) None bytes each = tt
told_has P (marks.Job number) None bytes each = tt
told_has P (marks.LostAs number) None bytes each = tt

pub answer_has : (P : Answer → Type 0) (mark : Mark) (told : Option Told) (bytes : List ℕ) (answer : Result Told DeskFault) (result : Result Answer DeskFault) → result ≡ with_bytes answer bytes → answer ≡ answer_by mark told
    → ((t : Told) → told ≡ Some t → P (answer_of t bytes)) → IfOk result P
answer_has P mark told bytes answer result made is each =
    subst (λ (r : Result Answer DeskFault). IfOk r P) (sym (made ∙ ap (λ (r : Result Told DeskFault). with_bytes r bytes) is)) (told_has P mark told bytes each)

-- the answer has the bytes of the body that it names
pub body_bytes : (given : ℕ → List ℕ) (bytes : List ℕ) (told : Option Told) (t : Told) → told ≡ Some t → ((body : BodyId) → wanted told ≡ Some body → bytes ≡ given body.file) → HasBytes given told (answer_of t bytes)
body_bytes given bytes told t at of body is = wanted_told t bytes body (ap wanted (sym at) ∙ is) ∙ of body is

pub body_sum : (bytes : List ℕ) (told : Option Told) (t : Told) → told ≡ Some t → ((body : BodyId) → wanted told ≡ Some body → sha256 bytes ≡ body.sum) → HasSum told (answer_of t bytes)
body_sum bytes told t at of body is = ap sha256 (wanted_told t bytes body (ap wanted (sym at) ∙ is)) ∙ of body is

-- the end of a job is no fault
pub end_answers : (mark : Mark) (told : Option Told) (bytes : List ℕ) → kind_told told ≡ Ends → IfErr (with_bytes (answer_by mark told) bytes) (λ fault. fault ≢ Memory)
end_answers mark (Some t) bytes is = tt
end_answers mark None bytes is = cc is
