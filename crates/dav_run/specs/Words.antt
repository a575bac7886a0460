-- The words of the program.
use Rattle.std.specs.declared.alloc.Global.{Global}
use Rattle.std.specs.Prelude.{◌≡◌, ◌⊎◌, ℕ, List, [], ◌∷◌, map, String, string_bytes, Ok}
use Rattle.dav_uri.specs.Target.{BaseParts, base_of}
use Rattle.dav_run.specs.declared.ended.Status.{Status}
use Rattle.dav_run.specs.declared.ended.Status.TheVariants.{Words, Memory}

-- the one word is the URL of this base
pub record IsBase (words : List (List ℕ)) (base : BaseParts) : Type 0 where
  pub text : List ℕ
  pub only : words ≡ text ∷ []
  pub read : base_of text ≡ Ok base

abbrev pub HasNoBase : List (List ℕ) → Type 0
HasNoBase words = (base : BaseParts) → ¬ (IsBase words base)

-- the status tells whether the words have a base: without one the run is refused, or there was no memory to read them
pub record IsRefusal (words : List (List ℕ)) (status : Status) : Type 0 where
  pub refused : status ≡ Words → HasNoBase words
  pub refuses : HasNoBase words → (status ≡ Words) ⊎ (status ≡ Memory)

-- the texts of the words
abbrev pub texts_of : List (String Global) → List (List ℕ)
texts_of words = map string_bytes words
