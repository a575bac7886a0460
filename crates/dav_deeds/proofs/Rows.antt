-- What is owed of each deed, by its effect: the laws on deeds, and all that a desk over a disk uses of them, follow from it.
use Rattle.std.proofs.Common.{◌≡◌, ◌≢◌, ◌⊎◌, inl, ℕ, ◌+◌, Bool, true, false, List, [], Option, Some, None, nat_eq, Contains, refl, sym, ◌∙◌, ap, subst, arith}
use Rattle.std.proofs.lemmas.Bool.{false≢true}
use Rattle.dav_text.specs.Path.{PathParts}
use Rattle.dav_text.specs.declared.tag.Seen.{Seen}
use Rattle.dav_store.specs.declared.body_id.BodyId.{BodyId}
use Rattle.dav_index.specs.Items.{same_path}
use Rattle.dav_index.specs.Tables.{queued_at}
use Rattle.dav_index.specs.Bounds.{bodies_of}
use Rattle.dav_index.specs.declared.lost.LostItem.{LostItem}
use Rattle.dav_deeds.specs.declared.answer.Answer.{Answer}
use Rattle.dav_deeds.specs.declared.answer.Answer.TheVariants as answers
use Rattle.dav_deeds.specs.declared.answer.Flight.{Flight}
use Rattle.dav_deeds.specs.declared.answer.Job.{Job}
use Rattle.dav_deeds.specs.declared.answer.Told.{Told}
use Rattle.dav_deeds.specs.declared.answer.Told.TheVariants.{Closed, Forgot, Took, Idle, Settled, Stopping}
use Rattle.dav_deeds.specs.declared.ask.Done.TheVariants as ends
use Rattle.dav_deeds.specs.declared.deed.Deed.{Deed}
use Rattle.dav_deeds.specs.declared.deed.Deed.TheVariants.{Take, Settle}
use Rattle.dav_deeds.specs.declared.deed.Mark.{Mark}
use Rattle.dav_deeds.specs.declared.deed.Mark.TheVariants as marks
use Rattle.dav_deeds.specs.declared.fault.DeskFault.{DeskFault}
use Rattle.dav_deeds.specs.declared.spare.Spare.{Spare}
use Rattle.dav_deeds.specs.Answers.{Kind, Tells, Gives, Idles, Ends, answer_of, bytes_told, job_in, job_of_kind, kind_of, kind_told, job_by, wanted}
use Rattle.dav_deeds.specs.DeskTable.{DeskTable}
use Rattle.dav_deeds.specs.Effects.{Effect, quiet, changed, taken}
use Rattle.dav_deeds.specs.Fate.{Fate, Story, tell, IsLostAs}
use Rattle.dav_deeds.specs.Legal.{IsDeed, new_body}
use Rattle.dav_deeds.specs.Made.{AreRecords}
use Rattle.dav_deeds.specs.Refusals.{refusal_of}
use Rattle.dav_deeds.specs.Sound.{IsSound}
use Rattle.dav_deeds.specs.Spare.{HasSpareOf, HasSpare, IsSavedBy, IsSaved, kept_spare, deed_ends, is_flight}
use Rattle.dav_deeds.proofs.Fits.{Fits, StoryFits, EffectFits}
use Rattle.dav_deeds.proofs.Naming.{Stays}
use Rattle.dav_deeds.proofs.Released.{Spares, Begins, nothing, none_begins}
use Rattle.dav_deeds.proofs.Sparing.{unsaved}

-- the story of a path goes on by one step of which it tells nothing
abbrev pub rested : Story → Story
rested story = record { last = story.last; fate = story.fate; job = story.job; count = story.count + 1 }

-- where a settling with Sent is not refused, the bytes of its job went with the step of this number
abbrev pub MayGo : DeskTable → Deed → PathParts → (ℕ → BodyId → Type 0) → ℕ → Type 0
MayGo t deed path Went count =
    (flight : Flight) (b : BodyId) (number : ℕ) (seen : Seen) → deed ≡ Settle number (ends.Sent seen) → refusal_of t deed ≡ None → t.job ≡ Some flight
    → same_path path flight.path ≡ true → nat_eq b.file flight.body.file ≡ true → Went count b

-- only a take gives a job
pub record IsGiven (t : DeskTable) (now : ℕ) (deed : Deed) (told : Option Told) (flight : Flight) : Type 0 where
  pub deed_is : deed ≡ Take
  pub told_is : told ≡ Some (Took flight)
  pub taken_is : taken t now ≡ Some flight

-- what finds nothing to take changes nothing, has no new body and frees no file
pub record IsIdle (t : DeskTable) (deed : Deed) (e : Effect) : Type 0 where
  pub same : changed t e ≡ t
  pub none : new_body deed ≡ None
  pub frees : e.released ≡ []

pub record IsRow (t : DeskTable) (now : ℕ) (deed : Deed) (e : Effect) : Type 1 where
  -- the table stays within its bounds, what is put on record is a record, and each body that is named was so before or is the new one
  pub sound : IsSound t → IsDeed t deed → IsSound (changed t e)
  pub recorded : IsSound t → IsDeed t deed → AreRecords e.on_record
  pub stays : IsSound t → IsDeed t deed → (Q : BodyId → Type 0) → Stays t deed e Q
  -- no body is in a file that is released, nor is it the one of the job in flight, and it is a file of bodies
  pub spares : (s : IsSound t) → IsDeed t deed → Spares t s e
  pub begins : (s : IsSound t) → Begins t s e
  -- the new body is in the next file, and is put on record
  pub new : IsDeed t deed → (id : BodyId) → new_body deed ≡ Some id → (id.file ≡ t.index.next_file) × (e.on_record ≢ None)
  -- the body whose bytes are told is one of the table, and then nothing is put on record
  pub named : (body : BodyId) → wanted e.told ≡ Some body → Contains (bodies_of t.index) body × (e.on_record ≡ None)
  -- the job in flight goes by the answer, and so does the memory for its end
  pub job : e.job ≡ job_by t.job (kind_told e.told)
  pub given : (flight : Flight) → kind_told e.told ≡ Gives flight → IsGiven t now deed e.told flight
  pub ends : kind_told e.told ≡ Ends → is_flight t.job (deed_ends deed) ≡ true
  pub ended : is_flight t.job (deed_ends deed) ≡ true → kind_told e.told ≡ Ends
  pub holds : (old saved : Option Spare) → HasSpare t old → IsSaved t.index e.told saved → HasSpareOf (changed t e).index (changed t e).job (kept_spare saved old)
  pub idle : kind_told e.told ≡ Idles → IsIdle t deed e
  -- what was lost stays so, and what is queued of a path goes on with its story
  pub lost : (x : LostItem) → Contains t.index.lost x → Contains (changed t e).index.lost x
  pub fits : (Went : ℕ → BodyId → Type 0) (path : PathParts) (last : Option BodyId) (fate : Fate) (count : ℕ) (fit : Fits Went (IsLostAs t.index path) (queued_at path t.index.entries) last fate)
      → MayGo t deed path Went count → EffectFits Went path t last fate count fit t.job deed e

not_some : {X : Type 0} (o : Option X) (x : X) → o ≡ None → o ≡ Some x → ⊥
not_some None x none some = cc some
not_some (Some y) x none some = cc none

-- a deed that is answered and no more: it has no record, no body and no bytes, and changes nothing of the index, nor of the job
module _ (t : DeskTable) (now : ℕ) (deed : Deed) where
  pub plain_row : (mark : Mark) (told : Option Told) (jobs : ℕ) (stopping : Bool)
      → (kind : kind_told told ≡ Tells) (wants : wanted told ≡ None) → (IsDeed t deed → new_body deed ≡ None) → is_flight t.job (deed_ends deed) ≡ false
      → ((path : PathParts) (story : Story) → tell path story deed mark told ≡ rested story)
      → IsRow t now deed (record { mark = mark; told = told; on_record = None; waits = None; released = []; job = t.job; jobs = jobs; stopping = stopping })
  plain_row mark told jobs stopping kind wants none other tells = record {
    sound = λ s is. record { index = s.index; job = s.job };
    recorded = λ s is. tt;
    stays = λ s is Q h new. h;
    spares = λ s is. nothing t s e refl;
    begins = λ s. none_begins t s e refl;
    new = λ is id some. absurd (not_some (new_body deed) id (none is) some);
    named = λ body some. absurd (not_some (wanted told) body wants some);
    job = ap (job_by t.job) (sym kind);
    given = λ flight is. absurd (let no : Tells ≡ Gives flight = sym kind ∙ is in cc no);
    ends = λ is. absurd (let no : Tells ≡ Ends = sym kind ∙ is in cc no);
    ended = λ is. absurd (false≢true (sym other ∙ is));
    holds = λ old saved has taken. unsaved t.index t.job old has t.index saved refl refl (omega arith) (subst (λ (k : Kind). IsSavedBy t.index k saved) kind taken);
    idle = λ is. absurd (let no : Tells ≡ Idles = sym kind ∙ is in cc no);
    lost = λ x there. there;
    fits = λ Went path last fate count fit may.
        let st : Story = record { last = last; fate = fate; job = t.job; count = count } in
        subst (λ (s : Story). StoryFits Went path count s (changed t e)) (sym (tells path st)) (record { job = refl; count = refl; fits = fit });
  }
    where
      e : Effect
      e = record { mark = mark; told = told; on_record = None; waits = None; released = []; job = t.job; jobs = jobs; stopping = stopping }

  -- a refusal changes nothing
  pub refused_row : (fault : DeskFault) → (IsDeed t deed → new_body deed ≡ None) → is_flight t.job (deed_ends deed) ≡ false
      → ((path : PathParts) (story : Story) → tell path story deed (marks.Refused fault) None ≡ rested story) → IsRow t now deed (quiet t (marks.Refused fault) None)
  refused_row fault none other tells = plain_row (marks.Refused fault) None t.jobs t.stopping refl refl none other tells

-- the end of a job wants no bytes, and an answer has the bytes of the body that it wants
pub end_wants : (told : Option Told) → kind_told told ≡ Ends → wanted told ≡ None
end_wants None is = cc is
end_wants (Some (Closed body)) is = cc is
end_wants (Some Forgot) is = cc is
end_wants (Some (Took flight)) is = cc is
end_wants (Some Idle) is = cc is
end_wants (Some (Settled fated)) is = refl
end_wants (Some Stopping) is = cc is

pub wanted_told : (told : Told) (bytes : List ℕ) (body : BodyId) → wanted (Some told) ≡ Some body → bytes_told (answer_of told bytes) ≡ bytes
wanted_told (Closed b) bytes body is = cc is
wanted_told Forgot bytes body is = cc is
wanted_told (Took flight) bytes body is = refl
wanted_told Idle bytes body is = cc is
wanted_told (Settled fated) bytes body is = cc is
wanted_told Stopping bytes body is = cc is

-- the job that an answer gives
pub job_answered : (told : Told) (bytes : List ℕ) → job_in (answer_of told bytes) ≡ job_of_kind (kind_of told) bytes
job_answered (Closed b) bytes = refl
job_answered Forgot bytes = refl
job_answered (Took flight) bytes = refl
job_answered Idle bytes = refl
job_answered (Settled fated) bytes = refl
job_answered Stopping bytes = refl

pub answer_given : (answer : Answer) (job : Job) → job_in answer ≡ Some job → answer ≡ answers.Took job
answer_given (answers.Closed b) job is = cc is
answer_given answers.Forgot job is = cc is
answer_given (answers.Took given) job is = let same : given ≡ job = cc is in ap (λ (j : Job). answers.Took j) same
answer_given answers.Idle job is = cc is
answer_given (answers.Settled fated) job is = cc is
answer_given answers.Stopping job is = cc is
