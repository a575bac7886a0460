-- What reading a list of challenges comes to.
use Rattle.std.specs.Prelude.{◌≡◌, ℕ, suc, ◌<◌, ◌≤◌, Bool, false, List, length, take, ◌++◌, Option, Some, None, Result, Ok, Err}
use Rattle.dav_auth.specs.Chosen.{offers_in, parts_of, first_answerable, IsUnanswered}
use Rattle.dav_auth.specs.Elements.{Elements, Challenges}
use Rattle.dav_auth.specs.declared.challenge.Challenge.{Challenge}
use Rattle.dav_auth.specs.declared.fault.AuthFault.{AuthFault}
use Rattle.dav_auth.specs.declared.fault.AuthFault.TheVariants.{NoDigest, Unsupported, BadChallenge, Memory}
use Rattle.dav_auth.specs.declared.piece.Piece.{Piece}

-- The text is no list, and this is its first byte that no list has there, or its length where it ends inside one: the bytes
-- before it go on to a list, and with it they go on to none.
pub record IsBad (may : Bool) (text : List ℕ) (at : ℕ) : Type 0 where
  pub within : at ≤ length text
  pub none : (pieces : List Piece) → ¬ (Elements may pieces text)
  pub goes_on : (rest : List ℕ) × (pieces : List Piece) × Elements may pieces (take at text ++ rest)
  pub stops : at < length text → (rest : List ℕ) (pieces : List Piece) → ¬ (Elements may pieces (take (suc at) text ++ rest))

-- why no list is read
abbrev pub IsUnread : Bool → List ℕ → AuthFault → Type 0
IsUnread may text (BadChallenge at) = IsBad may text at
IsUnread may text Memory = Unit {0}
IsUnread may text NoDigest = ⊥
IsUnread may text Unsupported = ⊥

-- The text is a list of challenges, or not. Its first Digest challenge that can be answered has these parts, or there is none.
abbrev pub Chooses : List ℕ → Result Challenge AuthFault → Type 0
Chooses text (Ok challenge) = (pieces : List Piece) × Challenges pieces text × (first_answerable (offers_in pieces) ≡ Some (parts_of challenge))
Chooses text (Err (BadChallenge at)) = IsBad false text at
Chooses text (Err Memory) = Unit {0}
Chooses text (Err fault) = (pieces : List Piece) × Challenges pieces text × IsUnanswered (offers_in pieces) fault
