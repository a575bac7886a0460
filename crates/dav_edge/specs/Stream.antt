-- What a stream still gives, and how long its next piece is.
use Rattle.std.specs.Prelude.{◌≡◌, ◌<◌, ◌≤◌, ◌+◌, ◌⊎◌, ℕ, List, length, drop, slice_index}
use Rattle.dav_edge.specs.declared.stream.Stream.{Stream}

abbrev pub bytes_left : Stream → List ℕ
bytes_left s = drop s.at s.bytes.items

-- no cut before that place is one that the piece goes across
abbrev pub CrossesNone : List ℕ → ℕ → ℕ → ℕ → Type 0
CrossesNone cuts upto at n = (k : ℕ) → k < upto → at < slice_index cuts k → at + n ≤ slice_index cuts k

-- the place is a cut
abbrev pub IsCut : List ℕ → ℕ → Type 0
IsCut cuts place = (k : ℕ) × (k < length cuts) × (slice_index cuts k ≡ place)

-- the piece is as long as the buffer, or ends with the bytes or at a cut
abbrev pub HasEnd : List ℕ → ℕ → ℕ → ℕ → ℕ → Type 0
HasEnd cuts len room at n = (n ≡ room) ⊎ (at + n ≡ len) ⊎ IsCut cuts (at + n)

-- A piece fits the buffer, and crosses no cut. Where it is shorter than the buffer, it ends at a cut or
-- with the bytes.
pub record IsPiece (s : Stream) (room n : ℕ) : Type 0 where
  pub fits : n ≤ room
  pub within : s.at + n ≤ length s.bytes.items
  pub crosses_none : CrossesNone s.cuts.items (length s.cuts.items) s.at n
  pub ends : HasEnd s.cuts.items (length s.bytes.items) room s.at n
  pub moves : 0 < room → s.at < length s.bytes.items → 0 < n

-- the stream stands so many bytes further
pub record MovesOn (old new : Stream) (n : ℕ) : Type 0 where
  pub bytes : new.bytes ≡ old.bytes
  pub cuts : new.cuts ≡ old.cuts
  pub at : new.at ≡ old.at + n
