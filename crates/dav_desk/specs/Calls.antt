-- How many device calls put a step on the disk, by its row.
use Rattle.std.specs.Prelude.{ℕ, List, [], ◌∷◌, Option}
use Rattle.dav_recorder.specs.Calls.{entry_calls, freeing_calls}

-- one without a row empties files alone
abbrev pub row_calls : List ℕ → Option ℕ → List ℕ → ℕ
row_calls [] fresh freed = freeing_calls freed
row_calls (b ∷ row) fresh freed = entry_calls fresh freed
