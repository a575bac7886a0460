-- The formulas of Digest: RFC 7616 section 3.4, and RFC 2617 section 3.2.2 where there is no qop.
use Rattle.std.specs.Prelude.{ℕ, List, [], ◌∷◌, ◌++◌, codes, flat_map, if◌then◌else◌}
use Rattle.std.specs.Int.{to_be_bytes, w32}
use Rattle.hex.specs.Hex.{encode_lower}
use Rattle.md5.specs.Md5.{md5}
use Rattle.sha2.specs.Sha256.{sha256}
use Rattle.dav_text.specs.declared.method.Method.{Method}
use Rattle.dav_text.specs.Method.{method_name}
use Rattle.dav_auth.specs.Algorithm.{algorithm_of, is_session}
use Rattle.dav_auth.specs.declared.algorithm.Algorithm.{Algorithm}
use Rattle.dav_auth.specs.declared.algorithm.Algorithm.TheVariants.{Md5, Md5Sess, Sha256, Sha256Sess}
use Rattle.dav_auth.specs.declared.algorithm.Qop.{Qop}
use Rattle.dav_auth.specs.declared.algorithm.Qop.TheVariants.{Missing, Auth}
use Rattle.dav_auth.specs.declared.challenge.Challenge.{Challenge}
use Rattle.dav_auth.specs.declared.secret.Secret.{Secret}

-- the hash of a message, as lower hexadecimal digits
abbrev pub hash : Algorithm → List ℕ → List ℕ
hash Md5 message = encode_lower (md5 message)
hash Md5Sess message = encode_lower (md5 message)
hash Sha256 message = encode_lower (sha256 message)
hash Sha256Sess message = encode_lower (sha256 message)

-- the number of uses of a nonce, as eight lower hexadecimal digits
abbrev pub eight_digits : ℕ → List ℕ
eight_digits nc = encode_lower (to_be_bytes w32 nc)

-- texts with a colon before each but the first
abbrev pub joined : List ℕ → List (List ℕ) → List ℕ
joined first rest = first ++ flat_map (λ text. 58 ∷ text) rest

-- the hash of who logs in; a session makes it anew with both nonces
abbrev pub login_hash : Algorithm → List ℕ → List ℕ → List ℕ → List ℕ
login_hash algorithm login nonce cnonce =
    if is_session algorithm then hash algorithm (joined (hash algorithm login) (nonce ∷ cnonce ∷ [])) else hash algorithm login

-- the same, of a secret at a challenge
abbrev pub first_hash : Challenge → Secret → List ℕ → List ℕ
first_hash challenge secret cnonce =
    login_hash (algorithm_of challenge.algorithm) (joined secret.user (challenge.realm ∷ secret.password ∷ [])) challenge.nonce cnonce

-- what the response is a hash of: with a qop it names the uses of the nonce and the client's own
abbrev pub response_text : Qop → List ℕ → List ℕ → ℕ → List ℕ → List ℕ → List ℕ
response_text Missing first nonce nc cnonce second = joined first (nonce ∷ second ∷ [])
response_text Auth first nonce nc cnonce second =
    joined first (nonce ∷ eight_digits nc ∷ cnonce ∷ codes "auth" ∷ second ∷ [])

-- the response about a request of this method and target; the method is empty in what a server owes
abbrev pub response : Challenge → Secret → List ℕ → List ℕ → ℕ → List ℕ → List ℕ
response challenge secret method uri nc cnonce =
    hash (algorithm_of challenge.algorithm)
    (response_text challenge.qop (first_hash challenge secret cnonce) challenge.nonce nc cnonce
    (hash (algorithm_of challenge.algorithm) (joined method (uri ∷ []))))

-- the digits that answer a challenge
abbrev pub digest : Challenge → Secret → Method → List ℕ → ℕ → List ℕ → List ℕ
digest challenge secret method uri nc cnonce = response challenge secret (method_name method) uri nc cnonce

-- the digits that the server owes in its reply
abbrev pub owed : Challenge → Secret → List ℕ → ℕ → List ℕ → List ℕ
owed challenge secret uri nc cnonce = response challenge secret [] uri nc cnonce
