-- Texts in UTF-8, and the machine that reads one byte by byte.
use Rattle.std.specs.Prelude.{◌≡◌, ℕ, zero, suc, Bool, true, false, ◌&&◌, ◌||◌, ◌==◌, nat_le, List, [], ◌∷◌, ◌++◌, Option, Some, None, if◌then◌else◌}

-- what is owed to a character: nothing, a byte in a range and so many further bytes, or what follows the byte EF
pub data Owed : Type 0 where
  Whole : Owed
  Owes : ℕ → ℕ → ℕ → Owed
  Special : Owed

abbrev pub within : ℕ → ℕ → ℕ → Bool
within low high b = nat_le low b && nat_le b high

-- tab, LF, CR, and space to DEL (XML 1.0, production 2)
abbrev pub is_ascii : ℕ → Bool
is_ascii b = within 32 127 b || ((b == 9) || ((b == 10) || (b == 13)))

-- the rows of RFC 3629, section 4: the first byte of a character past ASCII, and what it owes
abbrev pub lead : ℕ → Option Owed
lead b =
    if within 194 223 b then Some (Owes 128 191 0)
    else (if b == 224 then Some (Owes 160 191 1)
    else (if b == 237 then Some (Owes 128 159 1)
    else (if b == 239 then Some Special
    else (if within 225 238 b then Some (Owes 128 191 1)
    else (if b == 240 then Some (Owes 144 191 2)
    else (if within 241 243 b then Some (Owes 128 191 2)
    else (if b == 244 then Some (Owes 128 143 2) else None)))))))

abbrev pub owed : ℕ → Owed
owed zero = Whole
owed (suc n) = Owes 128 191 n

-- what is left of a character; after EF BF no U+FFFE and no U+FFFF
pub data Tail : Owed → List ℕ → Type 0 where
  whole : Tail Whole []
  tail_byte : {low high n : ℕ} {s : List ℕ} (b : ℕ) → within low high b ≡ true → Tail (owed n) s → Tail (Owes low high n) (b ∷ s)
  special_byte : {s : List ℕ} (b : ℕ) → within 128 190 b ≡ true → Tail (Owes 128 191 0) s → Tail Special (b ∷ s)
  special_last : {s : List ℕ} (b : ℕ) → within 128 190 b ≡ false → (b == 191) ≡ true → Tail (Owes 128 189 0) s → Tail Special (b ∷ s)

-- the text is of characters that XML allows, in UTF-8
pub data Characters : List ℕ → Type 0 where
  no_more : Characters []
  ascii : {s : List ℕ} (b : ℕ) → is_ascii b ≡ true → Characters s → Characters (b ∷ s)
  wide : {s : List ℕ} (b : ℕ) (o : Owed) (t : List ℕ) → is_ascii b ≡ false → lead b ≡ Some o → Tail o t → Characters s → Characters (b ∷ (t ++ s))

-- what is owed after one more byte
abbrev pub owed_after : Owed → ℕ → Option Owed
owed_after Whole b = if is_ascii b then Some Whole else lead b
owed_after (Owes low high n) b = if within low high b then Some (owed n) else None
owed_after Special b = if within 128 190 b then Some (Owes 128 191 0) else (if b == 191 then Some (Owes 128 189 0) else None)

abbrev pub on_owed : Option Owed → (Owed → Option Owed) → Option Owed
on_owed None f = None
on_owed (Some o) f = f o

-- what is owed after a text; None where a byte of it is bad
abbrev pub owed_by : List ℕ → Owed → Option Owed
owed_by [] o = Some o
owed_by (b ∷ s) o = on_owed (owed_after o b) (owed_by s)
