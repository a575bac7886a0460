-- Stretches of bytes that lead on alike.
use Rattle.std.specs.Prelude.{◌≡◌, ℕ, ◌≤◌, ◌<◌, Bool, not, ◌||◌, ◌==◌, List, [], ◌∷◌, length, take, get_or, Option, Some, None, if◌then◌else◌}
use Rattle.dav_doc.specs.Bytes.{in_name}
use Rattle.dav_doc.specs.Characters.{Owed, owed_after, owed_by, on_owed}
use Rattle.dav_doc.specs.Machine.{longer}
use Rattle.dav_doc.specs.Names.{Name}
use Rattle.dav_markup.specs.declared.stretch.Alike.{Alike}
use Rattle.dav_markup.specs.declared.stretch.Alike.TheVariants as alikes

-- a byte of text that stands for itself whatever is around it: no `<`, `&` or CR, and no part of `]]>`
abbrev pub is_plain : ℕ → Bool
is_plain b = not ((b == 60) || (b == 38) || (b == 13) || (b == 93) || (b == 62))

abbrev pub is_alike : Alike → ℕ → Bool
is_alike alikes.Text b = is_plain b
is_alike alikes.Name b = in_name b

-- what is owed to a character after one more byte, where the byte is one of these
abbrev pub after_alike : (ℕ → Bool) → Owed → ℕ → Option Owed
after_alike p o b = if p b then owed_after o b else None

abbrev pub after_all : (ℕ → Bool) → List ℕ → Owed → Option Owed
after_all p [] o = Some o
after_all p (b ∷ s) o = on_owed (after_alike p o b) (after_all p s)

-- so many bytes of the text are such bytes, in characters, and the next one is not
pub record IsStretch (p : ℕ → Bool) (o : Owed) (s : List ℕ) (n : ℕ) (behind : Owed) : Type 0 where
  pub within : n ≤ length s
  pub all : after_all p (take n s) o ≡ Some behind
  pub longest : n < length s → after_alike p behind (get_or s n 0) ≡ None

-- so many bytes of the text are those of the word, in characters, and the next one is not
pub record IsShared (word : List ℕ) (o : Owed) (s : List ℕ) (n : ℕ) (behind : Owed) : Type 0 where
  pub within : n ≤ length s
  pub short : n ≤ length word
  pub same : take n s ≡ take n word
  pub owed : owed_by (take n s) o ≡ Some behind
  pub longest : n < length s → n < length word → get_or s n 0 ≡ get_or word n 0 → owed_after behind (get_or s n 0) ≡ None

-- a name with more bytes
abbrev pub longer_by : Name → List ℕ → Name
longer_by n [] = n
longer_by n (b ∷ s) = longer_by (longer n b) s
