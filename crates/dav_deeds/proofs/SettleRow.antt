-- What is owed of the end of a job.
use Rattle.std.proofs.Common.{◌≡◌, ℕ, Contains, Bool, true, false, nat_eq, Option, Some, None, if◌then◌else◌, refl, sym, ◌∙◌, ap, subst}
use Rattle.std.proofs.lemmas.Bool.{false≢true}
use Rattle.dav_store.specs.declared.body_id.BodyId.{BodyId}
use Rattle.dav_text.specs.Path.{PathParts}
use Rattle.dav_index.specs.Bounds.{bodies_of}
use Rattle.dav_deeds.specs.declared.answer.Flight.{Flight}
use Rattle.dav_deeds.specs.declared.ask.Done.{Done}
use Rattle.dav_deeds.specs.declared.deed.Deed.TheVariants.{Settle}
use Rattle.dav_deeds.specs.declared.deed.Mark.TheVariants as marks
use Rattle.dav_deeds.specs.declared.fault.DeskFault.{DeskFault}
use Rattle.dav_deeds.specs.declared.fault.DeskFault.TheVariants.{NoSuchJob}
use Rattle.dav_deeds.specs.Answers.{Gives, Idles, Ends, kind_told, wanted, job_by}
use Rattle.dav_deeds.specs.DeskTable.{DeskTable}
use Rattle.dav_deeds.specs.Effects.{settle_effect, effect_unless}
use Rattle.dav_deeds.specs.Fate.{Story, tell}
use Rattle.dav_deeds.specs.Refusals.{job_fault, refusal_of}
use Rattle.dav_deeds.specs.Spare.{is_flight}
use Rattle.dav_deeds.proofs.Fits.{settle_fits}
use Rattle.dav_deeds.proofs.Losing.{settling_keeps}
use Rattle.dav_deeds.proofs.Naming.{settle_stays}
use Rattle.dav_deeds.proofs.Released.{settle_spares, settle_begins}
use Rattle.dav_deeds.proofs.Rows.{IsRow, IsGiven, IsIdle, rested, refused_row}
use Rattle.dav_deeds.proofs.Sounds.{settle_sound, settle_record}
use Rattle.dav_deeds.proofs.Sparing.{fits_are, settle_holds}

-- a settling is refused exactly where it isn't of the job in flight
refused_other : (number : ℕ) (fault : DeskFault) (job : Option Flight) → job_fault number job ≡ Some fault → is_flight job (Some number) ≡ false
refused_other number fault None is = refl
refused_other number fault (Some flight) is = by (nat_eq flight.number number) is
  where
    by : (b : Bool) → (if b then None else Some (NoSuchJob number)) ≡ Some fault → b ≡ false
    by true h = cc h
    by false h = refl

free_own : (number : ℕ) (job : Option Flight) → job_fault number job ≡ None → is_flight job (Some number) ≡ true
free_own number None is = cc is
free_own number (Some flight) is = by (nat_eq flight.number number) is
  where
    by : (b : Bool) → (if b then None else Some (NoSuchJob number)) ≡ None → b ≡ true
    by true h = refl
    by false h = cc h

pub settle_row : (t : DeskTable) (now number : ℕ) (done : Done) (r : Option DeskFault) → refusal_of t (Settle number done) ≡ r
    → IsRow t now (Settle number done) (effect_unless r t now (Settle number done))
settle_row t now number done (Some fault) at = refused_row t now (Settle number done) fault (λ is. refl) (refused_other number fault t.job at) (λ p story. no_tale done p story)
  where
    no_tale : (d : Done) (p : PathParts) (story : Story) → tell p story (Settle number d) (marks.Refused fault) None ≡ rested story
    no_tale d p story = refl
settle_row t now number done None at = record {
  sound = λ s is. settle_sound t s t.job now done refl is;
  recorded = λ s is. fits_are t s (settle_effect t t.job now done).on_record (settle_record t s t.job now done refl is);
  stays = λ s is Q h new. settle_stays t s Q t.job number now done refl is h new;
  spares = λ s is. settle_spares t s t.job now done refl;
  begins = λ s. settle_begins t s t.job now done refl;
  new = λ is id some. cc some;
  named = λ body some. wants t.job body some;
  job = job_of t.job refl;
  given = λ flight is. gives t.job flight is;
  ends = λ is. free_own number t.job at;
  ended = λ is. ended_by t.job is;
  holds = λ old saved has taken. settle_holds t old saved has t.job now done taken;
  idle = λ is. finds t.job is;
  lost = λ x there. settling_keeps t x t.job now done there;
  fits = λ Went p last fate count fit may.
      settle_fits Went p t last fate count fit t.job number now done refl (λ flight b seen is flies on file. may flight b number seen (ap (Settle number) is) at flies on file);
}
  where
    wants : (job : Option Flight) (b : BodyId) → wanted (settle_effect t job now done).told ≡ Some b → Contains (bodies_of t.index) b × ((settle_effect t job now done).on_record ≡ None)
    wants None b some = cc some
    wants (Some flight) b some = cc some

    job_of : (job : Option Flight) → t.job ≡ job → (settle_effect t job now done).job ≡ job_by t.job (kind_told (settle_effect t job now done).told)
    job_of None same = refl
    job_of (Some flight) same = refl

    gives : (job : Option Flight) (flight : Flight) → kind_told (settle_effect t job now done).told ≡ Gives flight → IsGiven t now (Settle number done) (settle_effect t job now done).told flight
    gives None flight is = cc is
    gives (Some f) flight is = cc is

    ended_by : (job : Option Flight) → is_flight job (Some number) ≡ true → kind_told (settle_effect t job now done).told ≡ Ends
    ended_by None is = absurd (false≢true is)
    ended_by (Some flight) is = refl

    finds : (job : Option Flight) → kind_told (settle_effect t job now done).told ≡ Idles → IsIdle t (Settle number done) (settle_effect t job now done)
    finds None is = cc is
    finds (Some flight) is = cc is
