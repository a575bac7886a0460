-- Which challenge of a list is answered: RFC 7616 sections 3.3 and 3.7.
use Rattle.std.specs.Prelude.{◌≡◌, ℕ, Bool, true, false, ◌==◌, ◌&&◌, List, [], ◌∷◌, Option, Some, None, codes, if◌then◌else◌}
use Rattle.std.specs.List.{list_any, slice_split}
use Rattle.std.specs.Option.{option_map}
use Rattle.std.specs.Str.{str_eq_ignore_ascii_case}
use Rattle.dav_text.specs.Blanks.{trimmed}
use Rattle.dav_text.specs.declared.blanks.Blanks.TheVariants.{Field}
use Rattle.dav_auth.specs.Algorithm.{algorithm_of, is_keyed}
use Rattle.dav_auth.specs.Clean.{is_clean, is_clean_if_some}
use Rattle.dav_auth.specs.Grammar.{Parameter}
use Rattle.dav_auth.specs.declared.algorithm.Algorithm.{Algorithm}
use Rattle.dav_auth.specs.declared.algorithm.Algorithm.TheVariants.{Md5, Md5Sess, Sha256, Sha256Sess}
use Rattle.dav_auth.specs.declared.algorithm.Qop.{Qop}
use Rattle.dav_auth.specs.declared.algorithm.Qop.TheVariants.{Missing, Auth}
use Rattle.dav_auth.specs.declared.challenge.Challenge.{Challenge}
use Rattle.dav_auth.specs.declared.fault.AuthFault.{AuthFault}
use Rattle.dav_auth.specs.declared.fault.AuthFault.TheVariants.{NoDigest, Unsupported, BadChallenge, Memory}
use Rattle.dav_auth.specs.declared.piece.Piece.{Piece}
use Rattle.dav_auth.specs.declared.piece.Piece.TheVariants as pieces

-- a challenge of a list: its scheme and its parameters
pub record Offer : Type 0 where
  pub scheme : List ℕ
  pub parameters : List Parameter

-- the parameters before the next scheme
abbrev pub parameters_in : List Piece → List Parameter
parameters_in [] = []
parameters_in (pieces.Scheme scheme ∷ rest) = []
parameters_in (pieces.Parameter name value ∷ rest) = record { name = name; value = value } ∷ parameters_in rest

-- the challenges that the parts of a list make
abbrev pub offers_in : List Piece → List Offer
offers_in [] = []
offers_in (pieces.Scheme scheme ∷ rest) = record { scheme = scheme; parameters = parameters_in rest } ∷ offers_in rest
offers_in (pieces.Parameter name value ∷ rest) = offers_in rest

-- the value of the first parameter of this name, whatever the case of its letters
abbrev pub value_of : List ℕ → List Parameter → Option (List ℕ)
value_of name [] = None
value_of name (p ∷ more) = if str_eq_ignore_ascii_case p.name name then Some p.value else value_of name more

-- the scheme is Digest
abbrev pub is_digest : Offer → Bool
is_digest offer = str_eq_ignore_ascii_case offer.scheme (codes "Digest")

-- the algorithm that a value names, if it is one of the four
abbrev pub algorithm_named : List ℕ → Option Algorithm
algorithm_named value =
    if str_eq_ignore_ascii_case value (codes "MD5") then Some Md5
    else (if str_eq_ignore_ascii_case value (codes "MD5-sess") then Some Md5Sess
    else (if str_eq_ignore_ascii_case value (codes "SHA-256") then Some Sha256
    else (if str_eq_ignore_ascii_case value (codes "SHA-256-sess") then Some Sha256Sess else None)))

-- what a challenge says of its algorithm: nothing, or one of the four; None where it names another
abbrev pub algorithm_said : Option (List ℕ) → Option (Option Algorithm)
algorithm_said None = Some None
algorithm_said (Some value) = option_map (λ algorithm. Some algorithm) (algorithm_named value)

-- the element between commas is `auth`, with or without blanks around it
abbrev pub is_auth : List ℕ → Bool
is_auth element = str_eq_ignore_ascii_case (trimmed Field element) (codes "auth")

-- `auth` is among the elements of a value
abbrev pub lists_auth : List ℕ → Bool
lists_auth value = list_any is_auth (slice_split (λ b. b == 44) value)

-- what a challenge says of its qop: nothing, or a list with `auth`; None where the list has none
abbrev pub qop_said : Option (List ℕ) → Option Qop
qop_said None = Some Missing
qop_said (Some value) = if lists_auth value then Some Auth else None

-- what an answer needs of a challenge
pub record Parts : Type 0 where
  pub realm : List ℕ
  pub nonce : List ℕ
  pub opaque : Option (List ℕ)
  pub algorithm : Option Algorithm
  pub qop : Qop

abbrev pub parts_of : Challenge → Parts
parts_of c = record { realm = c.realm; nonce = c.nonce; opaque = c.opaque; algorithm = c.algorithm; qop = c.qop }

-- a challenge of these parts, where it can be answered: it has a realm and a nonce, its algorithm and qop are supported, a
-- session has a qop, and a field can carry its texts
abbrev pub challenge_with : Option (List ℕ) → Option (List ℕ) → Option (List ℕ) → Option (Option Algorithm) → Option Qop → Option Parts
challenge_with (Some realm) (Some nonce) opaque (Some algorithm) (Some qop) =
    if is_clean realm && is_clean nonce && is_clean_if_some opaque && is_keyed (algorithm_of algorithm) qop
    then Some (record { realm = realm; nonce = nonce; opaque = opaque; algorithm = algorithm; qop = qop }) else None
challenge_with _ _ opaque _ _ = None

-- the challenge that these parameters make
abbrev pub challenge_of : List Parameter → Option Parts
challenge_of ps =
    challenge_with (value_of (codes "realm") ps) (value_of (codes "nonce") ps) (value_of (codes "opaque") ps)
    (algorithm_said (value_of (codes "algorithm") ps)) (qop_said (value_of (codes "qop") ps))

-- the Digest challenge that is offered, where it can be answered
abbrev pub answerable : Offer → Option Parts
answerable offer = if is_digest offer then challenge_of offer.parameters else None

-- the first that is there
abbrev pub first_some : Option Parts → Option Parts → Option Parts
first_some (Some parts) more = Some parts
first_some None more = more

-- the first challenge that can be answered
abbrev pub first_answerable : List Offer → Option Parts
first_answerable [] = None
first_answerable (offer ∷ more) = first_some (answerable offer) (first_answerable more)

-- why none of the challenges is answered
abbrev pub IsUnanswered : List Offer → AuthFault → Type 0
IsUnanswered offers NoDigest = list_any is_digest offers ≡ false
IsUnanswered offers Unsupported = (list_any is_digest offers ≡ true) × (first_answerable offers ≡ None)
IsUnanswered offers (BadChallenge at) = ⊥
IsUnanswered offers Memory = Unit {0}
