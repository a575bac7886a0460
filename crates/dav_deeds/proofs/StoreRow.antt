-- What is owed of bytes that are to be kept.
use Rattle.std.proofs.Common.{◌≡◌, ◌≢◌, ℕ, Contains, false, true, Option, Some, None, refl, sym, ◌∙◌, ap, subst}
use Rattle.std.proofs.lemmas.Bool.{false≢true}
use Rattle.dav_text.specs.Path.{PathParts}
use Rattle.dav_store.specs.declared.body_id.BodyId.{BodyId}
use Rattle.dav_index.specs.Bounds.{bodies_of}
use Rattle.dav_deeds.specs.declared.answer.Flight.{Flight}
use Rattle.dav_deeds.specs.declared.deed.Deed.TheVariants.{Store}
use Rattle.dav_deeds.specs.declared.deed.Mark.TheVariants as marks
use Rattle.dav_deeds.specs.declared.fault.DeskFault.{DeskFault}
use Rattle.dav_deeds.specs.Answers.{Tells, Gives, Idles, Ends, kind_told, wanted, job_by}
use Rattle.dav_deeds.specs.DeskTable.{DeskTable}
use Rattle.dav_deeds.specs.Effects.{store_effect, effect_unless}
use Rattle.dav_deeds.specs.Fate.{Story, tell}
use Rattle.dav_deeds.specs.Legal.{IsDeed, IsBodyUnless}
use Rattle.dav_deeds.specs.Refusals.{store_refusal, refusal_of}
use Rattle.dav_deeds.proofs.Fits.{store_fits}
use Rattle.dav_deeds.proofs.Losing.{store_keeps}
use Rattle.dav_deeds.proofs.Naming.{store_stays}
use Rattle.dav_deeds.proofs.Released.{store_spares, store_begins}
use Rattle.dav_deeds.proofs.Rows.{IsRow, IsGiven, IsIdle, rested, refused_row}
use Rattle.dav_deeds.proofs.Sounds.{store_sound, store_record}
use Rattle.dav_deeds.proofs.Sparing.{fits_are, store_holds}

pub store_row : (t : DeskTable) (now : ℕ) (path : PathParts) (len : ℕ) (body : Option BodyId) (r : Option DeskFault) → refusal_of t (Store path len body) ≡ r
    → IsRow t now (Store path len body) (effect_unless r t now (Store path len body))
store_row t now path len body (Some fault) at = refused_row t now (Store path len body) fault (λ is. no_body body (body_of is)) refl (λ p story. no_tale body p story)
  where
    body_of : IsDeed t (Store path len body) → IsBodyUnless (Some fault) t.index.next_file len body
    body_of is = subst (λ (r : Option DeskFault). IsBodyUnless r t.index.next_file len body) at is.1

    no_body : (o : Option BodyId) → IsBodyUnless (Some fault) t.index.next_file len o → o ≡ None
    no_body None is = refl
    no_body (Some b) is = absurd is

    no_tale : (o : Option BodyId) → (p : PathParts) (story : Story) → tell p story (Store path len o) (marks.Refused fault) None ≡ rested story
    no_tale None p story = refl
    no_tale (Some b) p story = refl
store_row t now path len body None at = record {
  sound = λ s is. store_sound t s now path len body is.0 at (body_of is);
  recorded = λ s is. fits_are t s (store_effect t path now body).on_record (store_record t s now path len body is.0 at (body_of is));
  stays = λ s is Q h new. store_stays t s Q now path len body is.0 h new;
  spares = λ s is. store_spares t s now path len body is.0 at (body_of is);
  begins = λ s. store_begins t s now path body;
  new = λ is id some. new_of body (body_of is) id some;
  named = λ b some. wants body b some;
  job = job_of body;
  given = λ flight is. gives body flight is;
  ends = λ is. end body is;
  ended = λ is. absurd (false≢true is);
  holds = λ old saved has taken. store_holds t old saved has path now body taken;
  idle = λ is. finds body is;
  lost = λ x there. store_keeps t x path now body there;
  fits = λ Went p last fate count fit may. store_fits Went p t last fate count fit t.job path len now body refl;
}
  where
    body_of : IsDeed t (Store path len body) → IsBodyUnless None t.index.next_file len body
    body_of is = subst (λ (r : Option DeskFault). IsBodyUnless r t.index.next_file len body) at is.1

    new_of : (o : Option BodyId) → IsBodyUnless None t.index.next_file len o → (id : BodyId) → o ≡ Some id → (id.file ≡ t.index.next_file) × ((store_effect t path now o).on_record ≢ None)
    new_of None is id some = absurd is
    new_of (Some b) is id some = let same : b ≡ id = cc some in (ap (λ (x : BodyId). x.file) (sym same) ∙ is.0, λ none. cc none)

    wants : (o : Option BodyId) (b : BodyId) → wanted (store_effect t path now o).told ≡ Some b → Contains (bodies_of t.index) b × ((store_effect t path now o).on_record ≡ None)
    wants None b some = cc some
    wants (Some c) b some = cc some

    job_of : (o : Option BodyId) → (store_effect t path now o).job ≡ job_by t.job (kind_told (store_effect t path now o).told)
    job_of None = refl
    job_of (Some b) = refl

    gives : (o : Option BodyId) (flight : Flight) → kind_told (store_effect t path now o).told ≡ Gives flight → IsGiven t now (Store path len body) (store_effect t path now o).told flight
    gives None flight is = cc is
    gives (Some b) flight is = cc is

    end : (o : Option BodyId) → kind_told (store_effect t path now o).told ≡ Ends → false ≡ true
    end None is = cc is
    end (Some b) is = cc is

    finds : (o : Option BodyId) → kind_told (store_effect t path now o).told ≡ Idles → IsIdle t (Store path len body) (store_effect t path now o)
    finds None is = cc is
    finds (Some b) is = cc is
