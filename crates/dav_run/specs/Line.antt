-- The lines of the input, and what one of them asks for.
use Rattle.std.specs.Prelude.{◌≡◌, ◌≢◌, ◌<◌, ◌≤◌, ◌==◌, ◌||◌, not, false, true, ℕ, Bool, slice_index, List, [], ◌∷◌, ◌++◌, length, All, codes, Ok, if◌then◌else◌}
use Rattle.std.specs.List.{list_all}
use Rattle.std.specs.Str.{IsUtf8}
use Rattle.dav_text.specs.Path.{PathParts}
use Rattle.dav_text.specs.Reading.{typed_of}

-- a line without one carriage return at its end
abbrev pub without_return : List ℕ → List ℕ
without_return [] = []
without_return (b ∷ []) = if b == 13 then [] else b ∷ []
without_return (b ∷ c ∷ bytes) = b ∷ without_return (c ∷ bytes)

-- The lines of some bytes behind those of a line that has begun. Each ends with a line feed, and one
-- carriage return before it doesn't count; bytes after the last line feed are a line where there are any.
abbrev pub lines_from : List ℕ → List ℕ → List (List ℕ)
lines_from [] [] = []
lines_from [] (b ∷ begun) = (b ∷ begun) ∷ []
lines_from (b ∷ bytes) begun = if b == 10 then without_return begun ∷ lines_from bytes [] else lines_from bytes (begun ++ b ∷ [])

abbrev pub lines_of : List ℕ → List (List ℕ)
lines_of bytes = lines_from bytes []

-- a printable ASCII character other than the blank and the double quote
pub record IsPlain (b : ℕ) : Type 0 where
  pub low : 33 ≤ b
  pub high : b ≤ 126
  pub unquoted : b ≢ 34

-- 1 to 60,000 such characters
pub record IsArgument (bytes : List ℕ) : Type 0 where
  pub some : 1 ≤ length bytes
  pub few : length bytes ≤ 60000
  pub plain : All IsPlain bytes

-- no blank is among the bytes
abbrev pub IsUnbroken : List ℕ → Type 0
IsUnbroken [] = Unit {0}
IsUnbroken (b ∷ bytes) = (b ≢ 32) × IsUnbroken bytes

-- neither a tab nor a double quote is among the bytes
abbrev pub is_bare : List ℕ → Bool
is_bare bytes = list_all (λ b. not (b == 9 || b == 34)) bytes

-- the word is this path as it is typed at the current path, and can name a file: no slash, `.` or `..` ends it
pub record IsFileWord (current : PathParts) (word : List ℕ) (path : PathParts) : Type 0 where
  pub utf8 : IsUtf8 word
  pub bare : is_bare word ≡ true
  pub typed : typed_of current word ≡ Ok path
  pub file : path.slash ≡ false

-- at the current path the line stores these bytes under this path
pub record IsPut (current : PathParts) (line : List ℕ) (path : PathParts) (bytes : List ℕ) : Type 0 where
  pub target : List ℕ
  pub spelled : line ≡ codes "fput " ++ (target ++ 32 ∷ bytes)
  pub unbroken : IsUnbroken target
  pub word : IsFileWord current target path
  pub argument : IsArgument bytes
  pub short : length line < 65536

abbrev pub IsNoPut : PathParts → List ℕ → Type 0
IsNoPut current line = (path : PathParts) (bytes : List ℕ) → ¬ (IsPut current line path bytes)

-- the first blank of some bytes
pub record IsFirstBlank (bytes : List ℕ) (at : ℕ) : Type 0 where
  pub inside : at < length bytes
  pub blank : slice_index bytes at ≡ 32
  pub before : (k : ℕ) → k < at → slice_index bytes k ≢ 32

-- the line is `fput`, a first word and these bytes, of which the word has no blank
pub record IsSplit (line target bytes : List ℕ) : Type 0 where
  pub spelled : line ≡ codes "fput " ++ (target ++ 32 ∷ bytes)
  pub unbroken : IsUnbroken target
  pub argument : IsArgument bytes
