use Rattle.std.proofs.Common.{◌≡◌, ℕ, List, [], ◌∷◌, ◌++◌, refl, ap, ◌∙◌, codes, flat_map}
use Rattle.std.proofs.lemmas.Result.{IfOk-weaker}
use Rattle.dav_auth.specs.Algorithm.{algorithm_of}
use Rattle.dav_auth.specs.Digest.{hash, joined, eight_digits, first_hash, response}
use Rattle.dav_auth.specs.declared.algorithm.Algorithm.{Algorithm}
use Rattle.dav_auth.specs.declared.algorithm.Qop.TheVariants.{Auth}
use Rattle.dav_auth.specs.declared.challenge.Challenge.{Challenge}
use Rattle.dav_auth.specs.declared.secret.Secret.{Secret}
use Rattle.dav_auth.proofs.formulas.response.Goals as goal

-- the response with a qop, from its parts
with_qop : (challenge : Challenge) (secret : Secret) (method uri : List ℕ) (nc : ℕ) (cnonce : List ℕ) (algorithm : Algorithm)
    (first nonce digits second : List ℕ) → challenge.qop ≡ Auth → algorithm ≡ algorithm_of challenge.algorithm
    → first ≡ first_hash challenge secret cnonce → nonce ≡ challenge.nonce → digits ≡ eight_digits nc
    → second ≡ hash (algorithm_of challenge.algorithm) (joined method (uri ∷ []))
    → hash algorithm (joined first (nonce ∷ digits ∷ cnonce ∷ codes "auth" ∷ second ∷ [])) ≡ response challenge secret method uri nc cnonce
with_qop challenge secret method uri nc cnonce algorithm first nonce digits second q a f n d s =
    ap (λ x. hash x (joined first (nonce ∷ digits ∷ cnonce ∷ codes "auth" ∷ second ∷ []))) a
    ∙ ap (λ x. hash (algorithm_of challenge.algorithm) (joined x (nonce ∷ digits ∷ cnonce ∷ codes "auth" ∷ second ∷ []))) f
    ∙ ap (λ x. hash (algorithm_of challenge.algorithm) (joined (first_hash challenge secret cnonce) (x ∷ digits ∷ cnonce ∷ codes "auth" ∷ second ∷ []))) n
    ∙ ap (λ x. hash (algorithm_of challenge.algorithm) (joined (first_hash challenge secret cnonce) (challenge.nonce ∷ x ∷ cnonce ∷ codes "auth" ∷ second ∷ []))) d
    ∙ ap (λ x. hash (algorithm_of challenge.algorithm) (joined (first_hash challenge secret cnonce) (challenge.nonce ∷ eight_digits nc ∷ cnonce ∷ codes "auth" ∷ x ∷ []))) s
    ∙ rw q refl

pub returns-clause-value : goal.returns-clause-value
returns-clause-value c =
    let challenge = c.args.challenge.now in
    let secret = c.args.secret.now in
    let method = c.args.method.now in
    let uri = c.args.uri.now in
    let a = c.algorithm_of-algorithm.ensures in
    let second = c.in_ok-second.ensures.value ∙ ap (λ x. hash x (joined method (uri ∷ []))) a in
    IfOk-weaker c.hash_joined-in-Auth.result _ _
    (λ t e. e ∙ ap (λ rest. hash c.algorithm_of-algorithm.result (c.as_bytes-first.result.now ++ flat_map (λ p. 58 ∷ p.now) rest)) c.as_slice.ensures
    ∙ with_qop challenge secret method uri c.args.nc c.args.cnonce.now c.algorithm_of-algorithm.result c.as_bytes-first.result.now
    c.as_slice-nonce.result.now c.as_bytes.result.now c.as_bytes-second.result.now c.in-Auth.is a (c.as_bytes-first.ensures ∙ c.in_ok-first.ensures)
    c.as_slice-nonce.ensures (c.as_bytes.ensures ∙ c.in_ok-nc-in-Auth.ensures.value) (c.as_bytes-second.ensures ∙ second))
    c.hash_joined-in-Auth.ensures.value
