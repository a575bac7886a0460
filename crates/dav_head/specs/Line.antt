-- The line of a chunk's size, of at most 15 digits and 4,096 bytes: RFC 9112 section 7.1.
use Rattle.std.specs.Prelude.{◌≡◌, ℕ, ◌≤◌, List, ◌++◌, length}
use Rattle.httparse.specs.Grammar.{ChunkLine, IsChunkLine, print_chunk_line}
use Rattle.httparse.specs.Spans.{IsChunkLineAt}
use Rattle.dav_head.specs.declared.line.LineState.{LineState}
use Rattle.dav_head.specs.declared.line.LineState.TheVariants.{Open, Whole, Refused}

-- a line of the grammar within both bounds
pub record IsSizeLine (l : ChunkLine) : Type 0 where
  pub valid : IsChunkLine l
  pub few : length l.digits ≤ 15
  pub fits : length (print_chunk_line l) ≤ 4096

-- the bytes do not begin with a size line
abbrev pub HasNoLine : List ℕ → Type 0
HasNoLine bytes = (l : ChunkLine) (rest : List ℕ) → IsSizeLine l → ¬ (bytes ≡ print_chunk_line l ++ rest)

-- nor can they with any bytes after them
abbrev pub NeverHasLine : List ℕ → Type 0
NeverHasLine bytes = (more : List ℕ) → HasNoLine (bytes ++ more)

-- the judgement is right of these bytes: no size line is at their front and one may come, or the first
-- `used` bytes are one that writes `size`, or none can come
abbrev pub JudgesLine : List ℕ → LineState → Type 0
JudgesLine bytes Open = HasNoLine bytes × (¬ (NeverHasLine bytes))
JudgesLine bytes (Whole size used) = (l : ChunkLine) × IsSizeLine l × IsChunkLineAt bytes used size l
JudgesLine bytes Refused = NeverHasLine bytes
