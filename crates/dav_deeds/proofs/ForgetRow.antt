-- What is owed of a path that is forgotten.
use Rattle.std.proofs.Common.{◌≡◌, ℕ, Bool, false, List, [], ◌∷◌, Option, Some, None, refl, sym, ap, subst}
use Rattle.std.proofs.lemmas.Bool.{false≢true}
use Rattle.dav_text.specs.Path.{PathParts}
use Rattle.dav_index.specs.Item.{Item}
use Rattle.dav_index.specs.declared.record.Record.{Record}
use Rattle.dav_deeds.specs.declared.deed.Deed.TheVariants.{Forget}
use Rattle.dav_deeds.specs.declared.fault.DeskFault.{DeskFault}
use Rattle.dav_deeds.specs.DeskTable.{DeskTable}
use Rattle.dav_deeds.specs.Effects.{effect_unless, going, forgot_record}
use Rattle.dav_deeds.specs.Legal.{IsDeed}
use Rattle.dav_deeds.specs.Made.{AreRecords}
use Rattle.dav_deeds.specs.Refusals.{queued_with, refusal_of}
use Rattle.dav_deeds.proofs.Fits.{no_fault, forget_fits}
use Rattle.dav_deeds.proofs.Losing.{forget_keeps}
use Rattle.dav_deeds.proofs.Naming.{forget_stays}
use Rattle.dav_deeds.proofs.Released.{forget_spares, forget_begins}
use Rattle.dav_deeds.proofs.Rows.{IsRow, refused_row}
use Rattle.dav_deeds.proofs.Sounds.{forget_sound, forget_record}
use Rattle.dav_deeds.proofs.Sparing.{fits_are, forget_holds}

pub forget_row : (t : DeskTable) (now : ℕ) (path : PathParts) (locks below : Bool) (r : Option DeskFault) → refusal_of t (Forget path locks below) ≡ r
    → IsRow t now (Forget path locks below) (effect_unless r t now (Forget path locks below))
forget_row t now path locks below (Some fault) at = refused_row t now (Forget path locks below) fault (λ is. refl) refl (λ p story. refl)
forget_row t now path locks below None at = record {
  sound = λ s is. forget_sound t s path locks below free;
  recorded = λ s is. fits_are t s (forgot_record path locks below (going path below t.index.entries)) (forget_record t s path locks below is (going path below t.index.entries));
  stays = λ s is Q h new. forget_stays t s Q path locks below h new;
  spares = λ s is. forget_spares t s path locks below;
  begins = λ s. forget_begins t s path locks below;
  new = λ is id some. cc some;
  named = λ body some. cc some;
  job = refl;
  given = λ flight is. cc is;
  ends = λ is. cc is;
  ended = λ is. absurd (false≢true is);
  holds = λ old saved has taken. forget_holds t old saved has path locks below taken;
  idle = λ is. cc is;
  lost = λ x there. forget_keeps t x path locks below there;
  fits = λ Went p last fate count fit may. forget_fits Went p t last fate count fit t.job path locks below refl free;
}
  where
    free : queued_with path below t.index.entries ≡ None
    free = no_fault (queued_with path below t.index.entries) at
