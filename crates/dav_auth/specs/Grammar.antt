-- Parameters and credentials: RFC 9110 sections 5.6, 11.2 and 11.4.
use Rattle.std.specs.Prelude.{◌≡◌, ℕ, Bool, true, false, not, ◌==◌, ◌||◌, ◌&&◌, nat_le, nat_lt, List, [], ◌∷◌, ◌++◌, length, codes}
use Rattle.std.specs.List.{list_all, list_any}
use Rattle.std.specs.Char.{is_ascii_alphanumeric}

-- a blank
abbrev pub is_blank : ℕ → Bool
is_blank b = b == 32 || b == 9

-- bytes that are blanks alone
abbrev pub AreBlank : List ℕ → Type 0
AreBlank bytes = list_all is_blank bytes ≡ true

-- a byte of a token
abbrev pub is_token_byte : ℕ → Bool
is_token_byte b = is_ascii_alphanumeric b || list_any (λ c. b == c) (codes "!#$%&'*+-.^_`|~")

-- a token
abbrev pub IsToken : List ℕ → Type 0
IsToken bytes = nat_lt 0 (length bytes) && list_all is_token_byte bytes ≡ true

-- a byte that a quoted string can stand for: a tab, or any byte that is no control
abbrev pub in_string : ℕ → Bool
in_string b = b == 9 || nat_le 32 b && not (b == 127)

-- bytes that a quoted string can stand for
abbrev pub IsSayable : List ℕ → Type 0
IsSayable bytes = list_all in_string bytes ≡ true

-- what the bytes between two quotes stand for
pub data Between : List ℕ → List ℕ → Type 0 where
  nothing : Between [] []
  plain : {value text : List ℕ} (b : ℕ) → in_string b ≡ true → (b == 34 || b == 92) ≡ false → Between value text → Between (b ∷ value) (b ∷ text)
  pair : {value text : List ℕ} (b : ℕ) → in_string b ≡ true → Between value text → Between (b ∷ value) (92 ∷ b ∷ text)

-- the text of a value: a token, or a quoted string
pub data ValueText : List ℕ → List ℕ → Type 0 where
  token : {value : List ℕ} → IsToken value → ValueText value value
  string : {value text : List ℕ} → Between value text → ValueText value (34 ∷ (text ++ 34 ∷ []))

-- a parameter: its name, and its value without quotes and backslashes
pub record Parameter : Type 0 where
  pub name : List ℕ
  pub value : List ℕ

-- the text of a parameter: its name, `=` with blanks round it, and the text of its value
pub record ParameterText (p : Parameter) (text : List ℕ) : Type 0 where
  pub before : List ℕ
  pub after : List ℕ
  pub written : List ℕ
  pub named : IsToken p.name
  pub blank_before : AreBlank before
  pub blank_after : AreBlank after
  pub valued : ValueText p.value written
  pub split : text ≡ p.name ++ (before ++ (61 ∷ (after ++ written)))

-- the text of a parameter among blanks
pub record Among (p : Parameter) (text : List ℕ) : Type 0 where
  pub front : List ℕ
  pub written : List ℕ
  pub back : List ℕ
  pub blank_front : AreBlank front
  pub parameter : ParameterText p written
  pub blank_back : AreBlank back
  pub split : text ≡ front ++ (written ++ back)

-- the text of a list of parameters: elements between commas, each of them blank or one parameter among blanks
pub data Parameters : List Parameter → List ℕ → Type 0 where
  blank : {text : List ℕ} → AreBlank text → Parameters [] text
  last : {p : Parameter} {text : List ℕ} → Among p text → Parameters (p ∷ []) text
  empty : {ps : List Parameter} {rest : List ℕ} (text : List ℕ) → AreBlank text → Parameters ps rest → Parameters ps (text ++ 44 ∷ rest)
  more : {p : Parameter} {ps : List Parameter} {rest : List ℕ} (text : List ℕ) → Among p text → Parameters ps rest
      → Parameters (p ∷ ps) (text ++ 44 ∷ rest)

-- the text of credentials: a scheme, spaces, and a list of parameters
pub record Credentials (scheme : List ℕ) (ps : List Parameter) (text : List ℕ) : Type 0 where
  pub spaces : List ℕ
  pub listed : List ℕ
  pub named : IsToken scheme
  pub spaced : nat_lt 0 (length spaces) && list_all (λ b. b == 32) spaces ≡ true
  pub parameters : Parameters ps listed
  pub split : text ≡ scheme ++ (spaces ++ listed)
