-- The blanks of a field are the white space of httparse.
use Rattle.std.proofs.Common.{◌≡◌, ℕ, List, [], ◌∷◌, reverse, refl}
use Rattle.httparse.specs.Grammar.{skip_ows, trim_ows}
use Rattle.dav_text.specs.Blanks.{without_front, trimmed}
use Rattle.dav_text.specs.declared.blanks.Blanks.TheVariants.{Field}

front_same : (text : List ℕ) → without_front Field text ≡ skip_ows text
front_same [] = refl
front_same (b ∷ text) = rw (front_same text) refl

pub trimmed_same : (text : List ℕ) → trimmed Field text ≡ trim_ows text
unfolding trim_ows
trimmed_same text = rw (front_same text, front_same (reverse (skip_ows text))) refl
