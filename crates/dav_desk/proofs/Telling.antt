-- What is told, and the bytes that it names.
use Rattle.std.proofs.Common.{◌≡◌, ◌≢◌, ℕ, Bool, true, false, List, [], ◌∷◌, Option, Some, None, Contains, if◌then◌else◌, refl, sym, ◌∙◌, ap, subst}
use Rattle.std.proofs.lemmas.Bool.{false≢true}
use Rattle.dav_store.specs.declared.body_id.BodyId.{BodyId}
use Rattle.dav_index.specs.Bounds.{bodies_of}
use Rattle.dav_deeds.specs.Answers.{kind_told, is_idle, wanted}
use Rattle.dav_deeds.specs.DeskTable.{DeskTable}
use Rattle.dav_deeds.specs.Effects.{told_of}
use Rattle.dav_deeds.specs.declared.answer.Told.{Told}
use Rattle.dav_deeds.specs.declared.answer.Told.TheVariants.{Idle}
use Rattle.dav_deeds.specs.declared.deed.Deed.{Deed}
use Rattle.dav_deeds.specs.declared.deed.Step.{Step}
use Rattle.dav_deeds.proofs.AllRows.{told_named}
use Rattle.dav_deeds.proofs.Resting.{rest_bodies}
use Rattle.dav_recorder.specs.Planned.{kept_table}
use Rattle.dav_desk.specs.Verdict.{unless_idle}

-- the body whose bytes are told is one that a start keeps
pub told_kept : (t : DeskTable) (now : ℕ) (deed : Deed) (body : BodyId) → wanted (told_of t now deed) ≡ Some body → Contains (bodies_of (kept_table t)) body
told_kept t now deed body is = subst (λ (l : List BodyId). Contains l body) (sym (rest_bodies t.index)) (told_named t now deed body is)

-- what is told is that nothing is to be taken, or it is not
pub not_idle : (told : Option Told) → is_idle (kind_told told) ≡ false → told ≢ Some Idle
not_idle told is = λ same. absurd (false≢true (sym is ∙ ap (λ (o : Option Told). is_idle (kind_told o)) same))

pub one_step : (told : Option Told) (s : Step) → is_idle (kind_told told) ≡ false → unless_idle told s ≡ s ∷ []
one_step told s is = ap (λ (b : Bool). if b then [] else s ∷ []) is

pub no_step : (told : Option Told) (s : Step) → told ≡ Some Idle → unless_idle told s ≡ []
no_step told s is = ap (λ (o : Option Told). unless_idle o s) is

pub some_step : (told : Option Told) (s : Step) → is_idle (kind_told told) ≡ false → unless_idle told s ≡ [] → ⊥
some_step told s is none = let no : s ∷ [] ≡ [] = sym (one_step told s is) ∙ none in cc no
