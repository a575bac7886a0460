-- What a device in memory tells that gives the numbers of a list.
use Rattle.std.specs.Prelude.{ℕ, zero, suc, ◌+◌, ◌-◌, min, length, slice_index, List, [], ◌∷◌, ◌++◌, Some, None, cond, ltb}
use Rattle.dav_edge.specs.Numbers.{NumberGiven, number_given, NumberLog}

-- the answer to the call of a number, counted from 0: the number of the list, and 0 behind its end
abbrev pub number_or_zero : List ℕ → ℕ → ℕ
number_or_zero numbers call = slice_index numbers call

-- the same, with the last number again behind the end; 0 where the list is empty
abbrev pub number_or_last : List ℕ → ℕ → ℕ
number_or_last numbers call = slice_index numbers (min call (length numbers - 1))

-- so many first calls, where the call of each number has this answer
abbrev pub first_calls : (ℕ → ℕ) → ℕ → List NumberGiven
first_calls answer zero = []
first_calls answer (suc n) = first_calls answer n ++ number_given (answer n) ∷ []

-- It tells all its calls, unless there were as many as the greatest u64.
abbrev pub listed_log : (ℕ → ℕ) → ℕ → NumberLog
listed_log answer calls = record { told = cond (ltb calls 18446744073709551615) (Some (first_calls answer calls)) None; faults = 0 }

-- one call more was counted
abbrev pub one_call_more : ℕ → ℕ
one_call_more calls = min (calls + 1) 18446744073709551615
