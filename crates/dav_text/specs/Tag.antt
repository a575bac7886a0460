-- Entity tags: RFC 9110 section 8.8.3.
use Rattle.std.specs.Prelude.{◌≡◌, ◌≤◌, ℕ, Bool, true, false, nat_le, ◌||◌, ◌==◌, List, [], ◌∷◌, ◌++◌, length, codes, if◌then◌else◌}
use Rattle.std.specs.List.{list_all}

-- a byte that may stand between the quotes: `etagc`
abbrev pub is_tag_byte : ℕ → Bool
is_tag_byte b = b == 33 || (if nat_le 35 b then nat_le b 126 || nat_le 128 b else false)

-- a quoted text: `opaque-tag`
pub record IsOpaque (opaque : List ℕ) : Type 0 where
  pub inner : List ℕ
  pub quoted : opaque ≡ 34 ∷ (inner ++ 34 ∷ [])
  pub bytes : list_all is_tag_byte inner ≡ true

-- what stands before the quotes: `weak`
abbrev pub weak_mark : Bool → List ℕ
weak_mark weak = if weak then codes "W/" else []

-- the value is the entity tag of this strength and this quoted text
pub record IsTagOf (value : List ℕ) (weak : Bool) (opaque : List ℕ) : Type 0 where
  pub split : value ≡ weak_mark weak ++ opaque
  pub opaque_is : IsOpaque opaque

-- the value is no entity tag
abbrev pub IsNoTag : List ℕ → Type 0
IsNoTag value = (weak : Bool) (opaque : List ℕ) → ¬ (IsTagOf value weak opaque)

-- a tag that can be kept: strong, and of at most 128 bytes with its quotes
pub record IsKept (tag : List ℕ) : Type 0 where
  pub strong : IsTagOf tag false tag
  pub short : length tag ≤ 128
