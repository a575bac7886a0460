-- What is owed of a job that is taken.
use Rattle.std.proofs.Common.{◌≡◌, ℕ, suc, false, true, List, [], ◌∷◌, Option, Some, None, Contains, refl, sym, ◌∙◌, ap, subst, arith}
use Rattle.std.proofs.lemmas.Bool.{false≢true}
use Rattle.dav_store.specs.declared.body_id.BodyId.{BodyId}
use Rattle.dav_index.specs.Item.{Item}
use Rattle.dav_index.specs.Items.{Every}
use Rattle.dav_index.specs.Tables.{waiting_body}
use Rattle.dav_index.specs.declared.entry.Waiting.{Waiting}
use Rattle.dav_index.specs.Bounds.{bodies_of}
use Rattle.dav_deeds.specs.declared.answer.Flight.{Flight}
use Rattle.dav_deeds.specs.declared.answer.Told.{Told}
use Rattle.dav_deeds.specs.declared.answer.Told.TheVariants.{Took}
use Rattle.dav_deeds.specs.declared.deed.Deed.TheVariants.{Take}
use Rattle.dav_deeds.specs.Answers.{Gives, Idles, Ends, kind_told, wanted, job_by}
use Rattle.dav_deeds.specs.DeskTable.{DeskTable}
use Rattle.dav_deeds.specs.Effects.{take_effect, taken}
use Rattle.dav_deeds.specs.Fate.{IsOfTable}
use Rattle.dav_deeds.specs.Made.{AreRecords}
use Rattle.dav_deeds.proofs.Bodies.{OfBody, EachBody, each_body}
use Rattle.dav_deeds.proofs.Flying.{every_at}
use Rattle.dav_deeds.proofs.Fits.{take_fits}
use Rattle.dav_deeds.proofs.Losing.{take_keeps}
use Rattle.dav_deeds.proofs.Naming.{take_stays}
use Rattle.dav_deeds.proofs.Released.{take_spares, take_begins}
use Rattle.dav_deeds.proofs.Rows.{IsRow, IsGiven, IsIdle, plain_row}
use Rattle.dav_deeds.proofs.Sounds.{take_sound}
use Rattle.dav_deeds.proofs.Sparing.{take_holds}
use Rattle.dav_deeds.proofs.Taking.{taken_of}

each_itself : {X : Type 0} (xs ys : List X) → ((x : X) → Contains ys x → Contains xs x) → Every (Contains xs) ys
each_itself xs [] h = tt
each_itself xs (y ∷ ys) h = (h y (0, omega arith, refl), each_itself xs ys (λ x c. h x (suc c.0, omega (arith, c.1), c.2)))

-- the body of a job that is taken is one of the table
pub taken_named : (t : DeskTable) (now : ℕ) (flight : Flight) → taken t now ≡ Some flight → Contains (bodies_of t.index) flight.body
taken_named t now flight is =
    let of : IsOfTable flight t.index = (taken_of t now flight is).1 in
    let each : EachBody (Contains (bodies_of t.index)) t.index.entries t.index.lost = each_body (Contains (bodies_of t.index)) t.index (each_itself (bodies_of t.index) (bodies_of t.index) (λ x c. c)) in
    every_at (λ (x : Item). OfBody (Contains (bodies_of t.index)) x.entry) t.index.entries of.item each.kept of.among flight.body (body_is of)
  where
    waiting_is : (q : Option Waiting) (o : Option BodyId) → waiting_body q o ≡ Some flight.body → o ≡ Some flight.body
    waiting_is None o is = cc is
    waiting_is (Some w) o is = is

    body_is : (of : IsOfTable flight t.index) → of.item.entry.body ≡ Some flight.body
    body_is of = waiting_is of.item.entry.queued of.item.entry.body of.body_is

pub take_row : (t : DeskTable) (now : ℕ) (o : Option Flight) → taken t now ≡ o → IsRow t now Take (take_effect t o)
take_row t now o at = record {
  sound = λ s is. take_sound t s now o at;
  recorded = λ s is. none o;
  stays = λ s is Q h new. take_stays t s Q o h new;
  spares = λ s is. take_spares t s o;
  begins = λ s. take_begins t s o;
  new = λ is id some. cc some;
  named = λ body some. wants o at body some;
  job = job_of o;
  given = λ flight is. gives o at flight is;
  ends = λ is. end o is;
  ended = λ is. absurd (false≢true is);
  holds = λ old saved has taken. take_holds t old saved has o taken;
  idle = λ is. finds o is;
  lost = λ x there. take_keeps t x o there;
  fits = λ Went p last fate count fit may. take_fits Went p t last fate count fit t.job o refl;
}
  where
    none : (o : Option Flight) → AreRecords (take_effect t o).on_record
    none None = tt
    none (Some flight) = tt

    wants : (o : Option Flight) → taken t now ≡ o → (body : BodyId) → wanted (take_effect t o).told ≡ Some body → Contains (bodies_of t.index) body × ((take_effect t o).on_record ≡ None)
    wants None at body some = cc some
    wants (Some flight) at body some = let same : flight.body ≡ body = cc some in (subst (Contains (bodies_of t.index)) same (taken_named t now flight at), refl)

    job_of : (o : Option Flight) → (take_effect t o).job ≡ job_by t.job (kind_told (take_effect t o).told)
    job_of None = refl
    job_of (Some flight) = refl

    gives : (o : Option Flight) → taken t now ≡ o → (flight : Flight) → kind_told (take_effect t o).told ≡ Gives flight → IsGiven t now Take (take_effect t o).told flight
    gives None at flight is = cc is
    gives (Some f) at flight is =
        let same : f ≡ flight = cc is in
        record { deed_is = refl; told_is = ap (λ (g : Flight). Some (Took g)) same; taken_is = at ∙ ap (λ (g : Flight). Some g) same }

    end : (o : Option Flight) → kind_told (take_effect t o).told ≡ Ends → false ≡ true
    end None is = cc is
    end (Some flight) is = cc is

    finds : (o : Option Flight) → kind_told (take_effect t o).told ≡ Idles → IsIdle t Take (take_effect t o)
    finds None is = record { same = refl; none = refl; frees = refl }
    finds (Some flight) is = cc is
