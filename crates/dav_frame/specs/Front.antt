-- Which text of a grammar, a head or trailers, is at the front of a stream, by the limit of heads and trailers.
use Rattle.std.specs.Prelude.{◌≡◌, ℕ, List, ◌++◌}
use Rattle.dav_head.specs.Limit.{IsWithin, IsReached, IsPast}

-- no text of the grammar is at the front of the bytes
abbrev pub HasNone : (T : Type 0) → (T → Type 0) → (T → List ℕ) → List ℕ → Type 0
HasNone T Valid print bytes = (text : T) (rest : List ℕ) → ¬ (Valid text × (bytes ≡ print text ++ rest))

-- nor can one be with any bytes after them
abbrev pub NeverHas : (T : Type 0) → (T → Type 0) → (T → List ℕ) → List ℕ → Type 0
NeverHas T Valid print bytes = (more : List ℕ) → HasNone T Valid print (bytes ++ more)

-- what is at the front: a text within the limit and the bytes after it, a text whose last byte is the first
-- past the limit, a front that no continuation makes a text, one whose last byte is past the limit before a
-- text has ended, or the beginning of a text
pub data Verdict (T : Type 0) : Type 0 where
  Found : T → List ℕ → Verdict T
  FoundPast : T → Verdict T
  Refused : Verdict T
  Overrun : Verdict T
  Open : Verdict T

-- the verdict on the stream, where so many bytes of heads and trailers came before
pub data Finds (T : Type 0) (Valid : T → Type 0) (print : T → List ℕ) (before : ℕ) (stream : List ℕ) (verdict : Verdict T) : Type 0 where
  found : (text : T) (rest : List ℕ) → Valid text × (stream ≡ print text ++ rest)
      → IsWithin before (print text) → verdict ≡ Found text rest
      → Finds T Valid print before stream verdict
  found_past : (text : T) (rest : List ℕ) → Valid text × (stream ≡ print text ++ rest)
      → IsPast before (print text) → verdict ≡ FoundPast text
      → Finds T Valid print before stream verdict
  refused : (front rest : List ℕ) → stream ≡ front ++ rest
      → NeverHas T Valid print front → IsReached before front → verdict ≡ Refused
      → Finds T Valid print before stream verdict
  overrun : (front rest : List ℕ) → stream ≡ front ++ rest
      → HasNone T Valid print front → ¬ (NeverHas T Valid print front) → IsPast before front → verdict ≡ Overrun
      → Finds T Valid print before stream verdict
  opens : HasNone T Valid print stream → ¬ (NeverHas T Valid print stream) → IsWithin before stream → verdict ≡ Open
      → Finds T Valid print before stream verdict
