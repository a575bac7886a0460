-- The value of an Authorization field: RFC 7616 section 3.4.
use Rattle.std.specs.Prelude.{ℕ, List, [], ◌++◌, codes, Option, Some, None}
use Rattle.dav_text.specs.declared.method.Method.{Method}
use Rattle.dav_auth.specs.Algorithm.{algorithm_name}
use Rattle.dav_auth.specs.Digest.{digest, eight_digits}
use Rattle.dav_auth.specs.Quoted.{quoted}
use Rattle.dav_auth.specs.declared.algorithm.Algorithm.{Algorithm}
use Rattle.dav_auth.specs.declared.algorithm.Qop.{Qop}
use Rattle.dav_auth.specs.declared.algorithm.Qop.TheVariants.{Missing, Auth}
use Rattle.dav_auth.specs.declared.challenge.Challenge.{Challenge}
use Rattle.dav_auth.specs.declared.secret.Secret.{Secret}

-- a name with its separators, and a quoted string
abbrev pub parameter : List ℕ → List ℕ → List ℕ
parameter name bytes = name ++ quoted bytes

-- the parameters that each value has
abbrev pub login_text : Challenge → Secret → List ℕ → List ℕ → List ℕ
login_text challenge secret uri answer =
    parameter (codes "Digest username=") secret.user ++ parameter (codes ", realm=") challenge.realm
    ++ parameter (codes ", nonce=") challenge.nonce ++ parameter (codes ", uri=") uri ++ parameter (codes ", response=") answer

-- the algorithm, where the challenge names it
abbrev pub algorithm_text : Option Algorithm → List ℕ
algorithm_text None = []
algorithm_text (Some algorithm) = codes ", algorithm=" ++ algorithm_name algorithm

-- the opaque text, where the challenge has one
abbrev pub opaque_text : Option (List ℕ) → List ℕ
opaque_text None = []
opaque_text (Some opaque) = parameter (codes ", opaque=") opaque

-- the number of uses of the nonce, and the qop
abbrev pub count_text : ℕ → List ℕ
count_text nc = codes ", qop=auth, nc=" ++ eight_digits nc

-- the parameters that go with a qop
abbrev pub qop_text : Qop → ℕ → List ℕ → List ℕ
qop_text Missing nc cnonce = []
qop_text Auth nc cnonce = count_text nc ++ parameter (codes ", cnonce=") cnonce

-- the value whose response is this answer
abbrev pub value_text : Challenge → Secret → List ℕ → ℕ → List ℕ → List ℕ → List ℕ
value_text challenge secret uri nc cnonce answer =
    login_text challenge secret uri answer ++ algorithm_text challenge.algorithm ++ opaque_text challenge.opaque
    ++ qop_text challenge.qop nc cnonce

-- the value that answers a challenge
abbrev pub authorization_text : Challenge → Secret → Method → List ℕ → ℕ → List ℕ → List ℕ
authorization_text challenge secret method uri nc cnonce =
    value_text challenge secret uri nc cnonce (digest challenge secret method uri nc cnonce)
