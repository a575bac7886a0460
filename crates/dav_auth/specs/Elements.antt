-- Lists of challenges: RFC 9110 sections 5.6.1, 11.2, 11.3 and 11.6.1. Challenges and their parameters stand between the
-- same commas, so a list is one of elements: each begins a challenge, or is a parameter of the one before.
use Rattle.std.specs.Prelude.{◌≡◌, ℕ, Bool, true, false, ◌==◌, ◌||◌, ◌&&◌, nat_lt, List, [], ◌∷◌, ◌++◌, length, codes}
use Rattle.std.specs.List.{list_all, list_any}
use Rattle.std.specs.Char.{is_ascii_alphanumeric}
use Rattle.dav_auth.specs.Grammar.{AreBlank, IsToken, Among, Parameter as Named}
use Rattle.dav_auth.specs.declared.piece.Piece.{Piece}
use Rattle.dav_auth.specs.declared.piece.Piece.TheVariants.{Scheme, Parameter}

-- a byte of a token68 before its padding
abbrev pub is_token68_byte : ℕ → Bool
is_token68_byte b = is_ascii_alphanumeric b || list_any (λ c. b == c) (codes "-._~+/")

-- a token68: such bytes, and padding
pub record IsToken68 (text : List ℕ) : Type 0 where
  pub bytes : List ℕ
  pub padding : List ℕ
  pub some : nat_lt 0 (length bytes) && list_all is_token68_byte bytes ≡ true
  pub padded : list_all (λ b. b == 61) padding ≡ true
  pub split : text ≡ bytes ++ padding

-- spaces alone
abbrev pub AreSpaces : List ℕ → Type 0
AreSpaces bytes = list_all (λ b. b == 32) bytes ≡ true

-- the bytes do not begin with a space
abbrev pub NoSpaceFirst : List ℕ → Type 0
NoSpaceFirst [] = Unit {0}
NoSpaceFirst (b ∷ bytes) = (b == 32) ≡ false

-- a parameter, as a part of the list
abbrev pub piece_of : Named → Piece
piece_of p = Parameter p.name p.value

-- Where a parameter may come or not, the text of an element among blanks; the parts that it stands for; and whether a parameter may
-- come behind it, which is so where a space stands behind the scheme and no token68.
pub data Element : Bool → List Piece → Bool → List ℕ → Type 0 where
  alone : {may : Bool} (front scheme back : List ℕ) → AreBlank front → IsToken scheme → AreBlank back → NoSpaceFirst back
      → Element may (Scheme scheme ∷ []) false (front ++ (scheme ++ back))
  spaced : {may : Bool} (front scheme back : List ℕ) → AreBlank front → IsToken scheme → AreBlank back
      → Element may (Scheme scheme ∷ []) true (front ++ (scheme ++ 32 ∷ back))
  token68 : {may : Bool} (front scheme spaces text back : List ℕ) → AreBlank front → IsToken scheme → AreSpaces spaces → IsToken68 text → AreBlank back
      → Element may (Scheme scheme ∷ []) false (front ++ (scheme ++ 32 ∷ (spaces ++ (text ++ back))))
  first : {may : Bool} {p : Named} (front scheme text : List ℕ) → AreBlank front → IsToken scheme → Among p text
      → Element may (Scheme scheme ∷ piece_of p ∷ []) true (front ++ (scheme ++ 32 ∷ text))
  next : {p : Named} (text : List ℕ) → Among p text → Element true (piece_of p ∷ []) true text

-- the text of elements between commas, some of them blank, and the parts that they stand for
pub data Elements : Bool → List Piece → List ℕ → Type 0 where
  blank : {may : Bool} (text : List ℕ) → AreBlank text → Elements may [] text
  last : {may behind : Bool} {pieces : List Piece} (text : List ℕ) → Element may pieces behind text → Elements may pieces text
  empty : {may : Bool} {pieces : List Piece} {rest : List ℕ} (text : List ℕ) → AreBlank text → Elements may pieces rest → Elements may pieces (text ++ 44 ∷ rest)
  more : {may behind : Bool} {pieces others : List Piece} {rest : List ℕ} (text : List ℕ) → Element may pieces behind text → Elements behind others rest
      → Elements may (pieces ++ others) (text ++ 44 ∷ rest)

-- the text of a list of challenges, and its parts
abbrev pub Challenges : List Piece → List ℕ → Type 0
Challenges pieces text = Elements false pieces text
