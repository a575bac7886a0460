-- What a front of a reference leaves to come.
use Rattle.std.specs.Prelude.{◌≡◌, ℕ, ◌+◌, ◌*◌, ◌≤◌, Bool, true, false, nat_le, List, [], ◌∷◌, ◌++◌, Option, Some, None, if◌then◌else◌}
use Rattle.dav_doc.specs.References.{utf_8, decimal_digit, hex_digit, number, number_front, number_reference, may_number, named_reference, may_name, stands_for, may_stand}
use Rattle.dav_markup.specs.declared.reference.Reference.{Reference}
use Rattle.dav_markup.specs.declared.reference.Reference.TheVariants.{Start, Named, Hash, Decimal, Hexadecimal}
use Rattle.dav_markup.specs.declared.reference.Taken.{Taken}
use Rattle.dav_markup.specs.declared.reference.Taken.TheVariants.{Wrong, Further, Stands}

-- what the reference stands for, where this text follows its front
abbrev pub means : Reference → List ℕ → Option (List ℕ)
means Start t = stands_for t
means (Named front) t = named_reference (front ++ t)
means Hash t = number_reference t
means (Decimal v some) t = number decimal_digit 10 v some t
means (Hexadecimal v some) t = number hex_digit 16 v some t

-- whether the front and this text are a front of a reference
abbrev pub may : Reference → List ℕ → Bool
may Start t = may_stand t
may (Named front) t = may_name (front ++ t)
may Hash t = may_number t
may (Decimal v some) t = number_front decimal_digit 10 v t
may (Hexadecimal v some) t = number_front hex_digit 16 v t

-- the reference ends with no such byte, and its front goes on: whatever follows is read as behind the new front
pub record GoesOn (old : Reference) (b : ℕ) (new : Reference) : Type 0 where
  pub unended : means old (b ∷ []) ≡ None
  pub front : may old (b ∷ []) ≡ true
  pub means : (t : List ℕ) → means old (b ∷ t) ≡ means new t
  pub may : (t : List ℕ) → may old (b ∷ t) ≡ may new t

-- no reference has the byte there
pub record IsWrong (old : Reference) (b : ℕ) : Type 0 where
  pub none : means old (b ∷ []) ≡ None
  pub no_front : may old (b ∷ []) ≡ false

-- what a byte of a reference does
abbrev pub Takes : Reference → ℕ → Taken → Type 0
Takes old b Wrong = IsWrong old b
Takes old b (Further new) = GoesOn old b new
Takes old b (Stands v) = (means old (b ∷ []) ≡ Some (utf_8 v)) × (v ≤ 1114111)

-- a number with one more digit, up to the greatest character
abbrev pub grown : ℕ → ℕ → ℕ → Option ℕ
grown base v n = if nat_le (base * v + n) 1114111 then Some (base * v + n) else None
