-- What the value of an Authorization field carries.
use Rattle.std.specs.Prelude.{ℕ, List, [], ◌∷◌, ◌++◌, codes, Option, Some, None}
use Rattle.dav_auth.specs.Algorithm.{algorithm_name}
use Rattle.dav_auth.specs.Digest.{eight_digits}
use Rattle.dav_auth.specs.Grammar.{Parameter, IsSayable}
use Rattle.dav_auth.specs.declared.algorithm.Algorithm.{Algorithm}
use Rattle.dav_auth.specs.declared.algorithm.Qop.{Qop}
use Rattle.dav_auth.specs.declared.algorithm.Qop.TheVariants.{Missing, Auth}
use Rattle.dav_auth.specs.declared.challenge.Challenge.{Challenge}
use Rattle.dav_auth.specs.declared.secret.Secret.{Secret}

-- a parameter of this name and value
abbrev pub named : List ℕ → List ℕ → Parameter
named name value = record { name = name; value = value }

-- the algorithm, where the challenge names it
abbrev pub algorithm_parameters : Option Algorithm → List Parameter
algorithm_parameters None = []
algorithm_parameters (Some algorithm) = named (codes "algorithm") (algorithm_name algorithm) ∷ []

-- the opaque text, where the challenge has one
abbrev pub opaque_parameters : Option (List ℕ) → List Parameter
opaque_parameters None = []
opaque_parameters (Some opaque) = named (codes "opaque") opaque ∷ []

-- what goes with a qop
abbrev pub qop_parameters : Qop → ℕ → List ℕ → List Parameter
qop_parameters Missing nc cnonce = []
qop_parameters Auth nc cnonce =
    named (codes "qop") (codes "auth") ∷ named (codes "nc") (eight_digits nc) ∷ named (codes "cnonce") cnonce ∷ []

-- what each value has
abbrev pub login_parameters : Challenge → Secret → List ℕ → List ℕ → List Parameter
login_parameters challenge secret uri answer =
    named (codes "username") secret.user ∷ named (codes "realm") challenge.realm ∷ named (codes "nonce") challenge.nonce
    ∷ named (codes "uri") uri ∷ named (codes "response") answer ∷ []

-- all that a value whose response is this answer carries
abbrev pub carried : Challenge → Secret → List ℕ → ℕ → List ℕ → List ℕ → List Parameter
carried challenge secret uri nc cnonce answer =
    login_parameters challenge secret uri answer ++ algorithm_parameters challenge.algorithm ++ opaque_parameters challenge.opaque
    ++ qop_parameters challenge.qop nc cnonce

-- a quoted string can stand for it, if it is there
abbrev pub IsSayableIfSome : Option (List ℕ) → Type 0
IsSayableIfSome None = Unit {0}
IsSayableIfSome (Some bytes) = IsSayable bytes

-- quoted strings can stand for all that goes in
pub record AreSayable (challenge : Challenge) (secret : Secret) (uri cnonce : List ℕ) : Type 0 where
  pub user : IsSayable secret.user
  pub realm : IsSayable challenge.realm
  pub nonce : IsSayable challenge.nonce
  pub opaque : IsSayableIfSome challenge.opaque
  pub target : IsSayable uri
  pub own : IsSayable cnonce
