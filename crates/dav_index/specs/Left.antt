-- What is left of a text that is read.
use Rattle.std.specs.Prelude.{ℕ, List}

-- the bytes that are left, and the offset at which they begin
pub record Left : Type 0 where
  pub rest : List ℕ
  pub at : ℕ
