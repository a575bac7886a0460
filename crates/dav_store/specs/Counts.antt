-- How many device calls a call makes.
use Rattle.std.specs.Prelude.{◌≡◌, ℕ, ◌+◌, ◌≤◌, Result, OnOk}

-- it made so many device calls where it went, and no more than these where it failed
pub record IsCountedAs {T E : Type 0} (calls before now : ℕ) (result : Result T E) : Type 0 where
  pub later : before ≤ now
  pub all : OnOk result (now ≡ before + calls)
  pub no_more : now ≤ before + calls
