-- A declaration goes on until its last byte.
use Rattle.std.proofs.Common.{◌≡◌, ℕ, List, [], ◌∷◌, refl}
use Rattle.dav_doc.specs.Words.{Want, word}
use Rattle.dav_doc.specs.Machine as machine
use Rattle.dav_doc.specs.Machine.{declare_state}
use Rattle.dav_markup.specs.Declaration.{want_in, then_in, in_any_case}
use Rattle.dav_markup.specs.declared.declaration.Part.TheVariants.{Version, Encoding, Standalone}
use Rattle.dav_markup.specs.declared.declaration.Then.{Then}
use Rattle.dav_markup.specs.declared.declaration.Then.TheVariants as thens
use Rattle.dav_markup.specs.declared.declaration.Declaration.{Declaration}
use Rattle.dav_markup.specs.declared.declaration.Declaration.TheVariants as places

-- some byte is wanted
abbrev pub Wants : Want → Type 0
Wants w = declare_state w ≡ machine.Declaring w

then_wants : (then : Then) → Wants (then_in then)
then_wants (thens.Equals part) = refl
then_wants (thens.Digit q) = refl
then_wants (thens.Close part q) = refl

word_wants : (s : List ℕ) (w : Want) → Wants w → Wants (word s w)
word_wants [] w h = h
word_wants (b ∷ s) w h = refl

any_wants : (s : List (ℕ × ℕ)) (w : Want) → Wants w → Wants (in_any_case s w)
any_wants [] w h = h
any_wants (b ∷ s) w h = refl

pub wants : (d : Declaration) → (d ≡ places.Done → ⊥) → Wants (want_in d)
wants places.Start h = refl
wants (places.Letters left then) h = word_wants left.now (then_in then) (then_wants then)
wants (places.AnyCase left then) h = any_wants left.now (then_in then) (then_wants then)
wants (places.Equals part) h = refl
wants (places.Value part) h = refl
wants (places.Digit q) h = refl
wants (places.Encoding q) h = refl
wants (places.SecondLetter q) h = refl
wants (places.YesOrNo q) h = refl
wants (places.Close part q) h = refl
wants (places.After Version) h = refl
wants (places.After Encoding) h = refl
wants (places.After Standalone) h = refl
wants (places.Blanks part) h = refl
wants places.Closing h = refl
wants places.Done h = absurd (h refl)
