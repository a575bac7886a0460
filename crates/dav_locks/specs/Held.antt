-- The locks that are held, in the order of holding.
use Rattle.std.specs.Prelude.{◌≡◌, ℕ, ◌≤◌, Bool, false, not, bytes_eq, List, [], ◌∷◌, length, map, filter, if◌then◌else◌}
use Rattle.std.specs.List.{list_any}
use Rattle.dav_text.specs.Path.{PathParts}
use Rattle.dav_locks.specs.Paths.{same_path}
use Rattle.dav_locks.specs.declared.lock.Lock.{Lock}

abbrev pub has_token : List ℕ → Lock → Bool
has_token token lock = bytes_eq lock.token token

abbrev pub has_root : PathParts → Lock → Bool
has_root root lock = same_path lock.root root

-- a lock of the list has the token
abbrev pub is_held : List ℕ → List Lock → Bool
is_held token locks = list_any (has_token token) locks

-- the locks of other tokens
abbrev pub without : List ℕ → List Lock → List Lock
without token locks = filter (λ lock. not (has_token token lock)) locks

-- the lock in the place of the one with its token, or behind the others
abbrev pub held : Lock → List Lock → List Lock
held lock [] = lock ∷ []
held lock (first ∷ others) =
    if has_token lock.token first then lock ∷ others else first ∷ held lock others

-- 256 locks of other tokens are there
abbrev pub IsFull : List ℕ → List Lock → Type 0
IsFull token locks = 256 ≤ length (without token locks)

-- no token comes twice
abbrev pub Differ : List Lock → Type 0
Differ [] = Unit {0}
Differ (lock ∷ locks) = (is_held lock.token locks ≡ false) × Differ locks

-- what is held at any moment
pub record IsStore (locks : List Lock) : Type 0 where
  pub differ : Differ locks
  pub few : length locks ≤ 256

-- the tokens, in order
abbrev pub tokens : List Lock → List (List ℕ)
tokens locks = map (λ (lock : Lock). lock.token) locks

-- the tokens in order once this one is held, again or for the first time
abbrev pub tokens_after : List ℕ → List (List ℕ) → List (List ℕ)
tokens_after token [] = token ∷ []
tokens_after token (first ∷ others) =
    if bytes_eq first token then first ∷ others else first ∷ tokens_after token others
