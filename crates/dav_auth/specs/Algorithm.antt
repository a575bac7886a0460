-- The algorithms of Digest: RFC 7616 section 3.3.
use Rattle.std.specs.Prelude.{ℕ, Bool, true, false, List, codes, Option, Some, None}
use Rattle.dav_auth.specs.declared.algorithm.Algorithm.{Algorithm}
use Rattle.dav_auth.specs.declared.algorithm.Algorithm.TheVariants.{Md5, Md5Sess, Sha256, Sha256Sess}
use Rattle.dav_auth.specs.declared.algorithm.Qop.{Qop}
use Rattle.dav_auth.specs.declared.algorithm.Qop.TheVariants.{Missing, Auth}

-- the name of an algorithm
abbrev pub algorithm_name : Algorithm → List ℕ
algorithm_name Md5 = codes "MD5"
algorithm_name Md5Sess = codes "MD5-sess"
algorithm_name Sha256 = codes "SHA-256"
algorithm_name Sha256Sess = codes "SHA-256-sess"

-- the first hash is made anew with the nonces of a session
abbrev pub is_session : Algorithm → Bool
is_session Md5 = false
is_session Md5Sess = true
is_session Sha256 = false
is_session Sha256Sess = true

-- the algorithm of a challenge: MD5 where it names none
abbrev pub algorithm_of : Option Algorithm → Algorithm
algorithm_of None = Md5
algorithm_of (Some algorithm) = algorithm

-- a session needs a nonce of the client, which only an answer with a qop carries
abbrev pub is_keyed : Algorithm → Qop → Bool
is_keyed Md5 qop = true
is_keyed Sha256 qop = true
is_keyed Md5Sess Auth = true
is_keyed Sha256Sess Auth = true
is_keyed Md5Sess Missing = false
is_keyed Sha256Sess Missing = false
