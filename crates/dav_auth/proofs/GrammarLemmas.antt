-- What is written is credentials, and carries what went in.
use Rattle.std.proofs.Common.{◌≡◌, ℕ, zero, suc, ◌<◌, ◌/◌, ◌%◌, ◌==◌, ◌||◌, Bool, true, List, [], ◌∷◌, ◌++◌, length, slice_index, inl, inr, refl, ap, sym, subst, ◌∙◌, arith, append_assoc, Option, Some, None, codes, nat_lt}
use Rattle.std.specs.Int.{byte_at, bytes_low_first, bytes_high_first, to_be_bytes, w32}
use Rattle.std.specs.List.{list_all}
use Rattle.std.proofs.lemmas.Bool.{cases_Bool, and_parts, and_from}
use Rattle.std.proofs.lemmas.Bool.Decides.{nat_tests}
use Rattle.std.proofs.lemmas.List.{append-nil}
use Rattle.std.proofs.lemmas.List.Folds.{list_all-append}
use Rattle.std.proofs.lemmas.List.Sums.{AllPass-from_list_all}
use Rattle.hex.specs.Hex.{encode_lower, encode_with, lower_digits}
use Rattle.md5.specs.Md5 as md5
use Rattle.sha2.specs.Sha256 as sha2
use Rattle.dav_text.specs.declared.method.Method.{Method}
use Rattle.dav_auth.specs.Algorithm.{algorithm_name}
use Rattle.dav_auth.specs.Carried.{named, algorithm_parameters, opaque_parameters, qop_parameters, login_parameters, carried, IsSayableIfSome, AreSayable}
use Rattle.dav_auth.specs.Digest.{hash, digest, eight_digits}
use Rattle.dav_auth.specs.Field.{parameter, algorithm_text, opaque_text, qop_text, authorization_text}
use Rattle.dav_auth.specs.Grammar.{AreBlank, is_token_byte, IsToken, in_string, IsSayable, Between, Parameter, ParameterText, Parameters, Credentials}
use Rattle.dav_auth.specs.Grammar.Between.{nothing, plain, pair}
use Rattle.dav_auth.specs.Grammar.ValueText.{token, string}
use Rattle.dav_auth.specs.Grammar.Parameters.{blank, last, empty, more}
use Rattle.dav_auth.specs.Quoted.{escape, quoted}
use Rattle.dav_auth.specs.declared.algorithm.Algorithm.{Algorithm}
use Rattle.dav_auth.specs.declared.algorithm.Algorithm.TheVariants.{Md5, Md5Sess, Sha256, Sha256Sess}
use Rattle.dav_auth.specs.declared.algorithm.Qop.{Qop}
use Rattle.dav_auth.specs.declared.algorithm.Qop.TheVariants.{Missing, Auth}
use Rattle.dav_auth.specs.declared.challenge.Challenge.{Challenge}
use Rattle.dav_auth.specs.declared.secret.Secret.{Secret}

-- ---- quoted strings and tokens

between : (value : List ℕ) → IsSayable value → Between value (escape value)
between [] said = nothing
between (b ∷ value) said =
    let parts = and_parts (in_string b) (list_all in_string value) said in
    elim (cases_Bool (b == 34 || b == 92)) [
      | inl special ↦ rw special (pair b parts.0 (between value parts.1))
      | inr other ↦ rw other (plain b parts.0 other (between value parts.1))
    ]

-- a parameter whose value is a quoted string
quoted_is : (name value : List ℕ) → IsToken name → IsSayable value → ParameterText (named name value) (name ++ (61 ∷ quoted value))
quoted_is name value is said = record {
  before = [];
  after = [];
  written = quoted value;
  named = is;
  blank_before = refl;
  blank_after = refl;
  valued = string (between value said);
  split = refl;
}

-- a parameter whose value is a token
token_is : (name value : List ℕ) → IsToken name → IsToken value → ParameterText (named name value) (name ++ (61 ∷ value))
token_is name value is said = record {
  before = [];
  after = [];
  written = value;
  named = is;
  blank_before = refl;
  blank_after = refl;
  valued = token said;
  split = refl;
}

-- ---- lists

-- a parameter after some blanks, with none after it
among : (p : Parameter) (front text : List ℕ) → AreBlank front → ParameterText p text → Parameters (p ∷ []) (front ++ text)
among p front text blanks is =
    last (record {
      front = front;
      written = text;
      back = [];
      blank_front = blanks;
      parameter = is;
      blank_back = refl;
      split = ap (λ t. front ++ t) (sym (append-nil text));
    })

-- a list and a parameter after it
and_then : {ps : List Parameter} {s : List ℕ} → Parameters ps s → (p : Parameter) (t : List ℕ) → ParameterText p t
    → Parameters (ps ++ p ∷ []) (s ++ (44 ∷ 32 ∷ t))
and_then (blank {text = s} b) p t is = empty s b (among p (32 ∷ []) t refl is)
and_then (last {text = s} a) p t is = more s a (among p (32 ∷ []) t refl is)
and_then (empty {ps = ps} {rest = r} s b rest) p t is =
    let P : List ℕ → Type 0 = λ text. Parameters (ps ++ p ∷ []) text in
    subst P (sym (append_assoc s (44 ∷ r) (44 ∷ 32 ∷ t))) (empty s b (and_then rest p t is))
and_then (more {p = q} {ps = ps} {rest = r} s a rest) p t is =
    let P : List ℕ → Type 0 = λ text. Parameters (q ∷ (ps ++ p ∷ [])) text in
    subst P (sym (append_assoc s (44 ∷ r) (44 ∷ 32 ∷ t))) (more s a (and_then rest p t is))

-- ---- digits

is_byte : ℕ → Bool
is_byte b = nat_lt b 256

abbrev Bytes : List ℕ → Type 0
Bytes bytes = list_all is_byte bytes ≡ true

byte_small : (i n : ℕ) → is_byte (byte_at i n) ≡ true
unfolding is_byte
byte_small zero n = let h : n % 256 < 256 = omega arith in grind (arith, nat_tests)
byte_small (suc i) n = let h : byte_at (suc i) n < 256 = omega arith in grind (arith, nat_tests)

low_bytes : (k i n : ℕ) → Bytes (bytes_low_first i k n)
low_bytes zero i n = refl
low_bytes (suc k) i n = and_from _ _ (byte_small i n) (low_bytes k (suc i) n)

high_bytes : (k n : ℕ) → Bytes (bytes_high_first k n)
high_bytes zero n = refl
high_bytes (suc k) n = and_from _ _ (byte_small k n) (high_bytes k n)

append_bytes : (xs ys : List ℕ) → Bytes xs → Bytes ys → Bytes (xs ++ ys)
append_bytes xs ys x y = list_all-append is_byte xs ys ∙ and_from _ _ x y

md5_digest : (h : List ℕ) (n : ℕ) → Bytes (md5.digest_bytes h n)
unfolding md5.digest_bytes
md5_digest h zero = refl
md5_digest h (suc n) = append_bytes (md5.digest_bytes h n) _ (md5_digest h n) (low_bytes 4 0 (slice_index h n))

sha_digest : (h : List ℕ) (n : ℕ) → Bytes (sha2.digest_bytes h n)
unfolding sha2.digest_bytes
sha_digest h zero = refl
sha_digest h (suc n) = append_bytes (sha2.digest_bytes h n) _ (sha_digest h n) (high_bytes 4 (slice_index h n))

md5_bytes : (m : List ℕ) → Bytes (md5.md5 m)
unfolding md5.md5
md5_bytes m = md5_digest _ 4

sha_bytes : (m : List ℕ) → Bytes (sha2.sha256 m)
unfolding sha2.sha256
sha_bytes m = sha_digest _ 8

-- what passes at each of the sixteen digits passes at hexadecimal text
digits_pass : (p : ℕ → Bool) → list_all p lower_digits ≡ true → (bytes : List ℕ) → Bytes bytes → list_all p (encode_lower bytes) ≡ true
unfolding encode_with is_byte
digits_pass p all [] small = refl
digits_pass p all (b ∷ bytes) small =
    let parts = and_parts (is_byte b) (list_all is_byte bytes) small in
    let byte : nat_lt b 256 ≡ true = parts.0 in
    let below : b < 256 = grind (arith, nat_tests) in
    let high : b / 16 < 16 = omega arith in
    let low : b % 16 < 16 = omega arith in
    let at : (d : ℕ) → d < 16 → p (slice_index lower_digits d) ≡ true = λ d within. AllPass-from_list_all p lower_digits all d 0 within in
    and_from _ _ (at (b / 16) high) (and_from _ _ (at (b % 16) low) (digits_pass p all bytes parts.1))

hash_passes : (p : ℕ → Bool) → list_all p lower_digits ≡ true → (algorithm : Algorithm) (m : List ℕ) → list_all p (hash algorithm m) ≡ true
hash_passes p all Md5 m = digits_pass p all _ (md5_bytes m)
hash_passes p all Md5Sess m = digits_pass p all _ (md5_bytes m)
hash_passes p all Sha256 m = digits_pass p all _ (sha_bytes m)
hash_passes p all Sha256Sess m = digits_pass p all _ (sha_bytes m)

-- ---- a whole value

algorithm_token : (algorithm : Algorithm) → IsToken (algorithm_name algorithm)
algorithm_token Md5 = refl
algorithm_token Md5Sess = refl
algorithm_token Sha256 = refl
algorithm_token Sha256Sess = refl

count_there : (nc : ℕ) → nat_lt 0 (length (eight_digits nc)) ≡ true
unfolding encode_with
count_there nc = refl

count_token : (nc : ℕ) → IsToken (eight_digits nc)
count_token nc = and_from _ _ (count_there nc) (digits_pass is_token_byte refl (to_be_bytes w32 nc) (high_bytes 4 nc))

-- the same list, where nothing follows
and_nothing : (ps : List Parameter) (s : List ℕ) → Parameters ps s → Parameters (ps ++ []) (s ++ [])
and_nothing ps s is =
    let P : List ℕ → Type 0 = λ t. Parameters (ps ++ []) t in
    let Q : List Parameter → Type 0 = λ qs. Parameters qs s in
    subst P (sym (append-nil s)) (subst Q (sym (append-nil ps)) is)

and_algorithm : (ps : List Parameter) (s : List ℕ) → Parameters ps s → (algorithm : Option Algorithm)
    → Parameters (ps ++ algorithm_parameters algorithm) (s ++ algorithm_text algorithm)
and_algorithm ps s is None = and_nothing ps s is
and_algorithm ps s is (Some algorithm) =
    and_then is (named (codes "algorithm") (algorithm_name algorithm)) _
    (token_is (codes "algorithm") (algorithm_name algorithm) refl (algorithm_token algorithm))

and_opaque : (ps : List Parameter) (s : List ℕ) → Parameters ps s → (opaque : Option (List ℕ)) → IsSayableIfSome opaque
    → Parameters (ps ++ opaque_parameters opaque) (s ++ opaque_text opaque)
and_opaque ps s is None said = and_nothing ps s is
and_opaque ps s is (Some opaque) said =
    and_then is (named (codes "opaque") opaque) _ (quoted_is (codes "opaque") opaque refl said)

and_qop : (ps : List Parameter) (s : List ℕ) → Parameters ps s → (qop : Qop) (nc : ℕ) (cnonce : List ℕ) → IsSayable cnonce
    → Parameters (ps ++ qop_parameters qop nc cnonce) (s ++ qop_text qop nc cnonce)
and_qop ps s is Missing nc cnonce said = and_nothing ps s is
and_qop ps s is Auth nc cnonce said =
    let a = named (codes "qop") (codes "auth") in
    let b = named (codes "nc") (eight_digits nc) in
    let c = named (codes "cnonce") cnonce in
    let x : List ℕ = codes ", qop=auth" in
    let y : List ℕ = codes ", nc=" ++ eight_digits nc in
    let z : List ℕ = codes ", cnonce=" ++ quoted cnonce in
    let h1 : Parameters (ps ++ a ∷ []) (s ++ x) = and_then is a (codes "qop=auth") (token_is (codes "qop") (codes "auth") refl refl) in
    let h2 : Parameters ((ps ++ a ∷ []) ++ b ∷ []) ((s ++ x) ++ y) = and_then h1 b _ (token_is (codes "nc") (eight_digits nc) refl (count_token nc)) in
    let h3 : Parameters (((ps ++ a ∷ []) ++ b ∷ []) ++ c ∷ []) (((s ++ x) ++ y) ++ z) = and_then h2 c _ (quoted_is (codes "cnonce") cnonce refl said) in
    let P : List ℕ → Type 0 = λ t. Parameters (ps ++ a ∷ b ∷ c ∷ []) t in
    let Q : List Parameter → Type 0 = λ qs. Parameters qs (((s ++ x) ++ y) ++ z) in
    subst P (append_assoc (s ++ x) y z ∙ append_assoc s x (y ++ z))
    (subst Q (append_assoc (ps ++ a ∷ []) (b ∷ []) (c ∷ []) ∙ append_assoc ps (a ∷ []) (b ∷ c ∷ [])) h3)

-- the first five parameters, after the scheme and its space
login_body : (challenge : Challenge) (secret : Secret) (uri answer : List ℕ) → IsSayable secret.user → IsSayable challenge.realm → IsSayable challenge.nonce
    → IsSayable uri → IsSayable answer
    → Parameters (login_parameters challenge secret uri answer)
    (parameter (codes "username=") secret.user ++ parameter (codes ", realm=") challenge.realm
    ++ parameter (codes ", nonce=") challenge.nonce ++ parameter (codes ", uri=") uri ++ parameter (codes ", response=") answer)
login_body challenge secret uri answer u r n t a =
    let h1 = among (named (codes "username") secret.user) [] _ refl (quoted_is (codes "username") secret.user refl u) in
    let h2 = and_then h1 (named (codes "realm") challenge.realm) _ (quoted_is (codes "realm") challenge.realm refl r) in
    let h3 = and_then h2 (named (codes "nonce") challenge.nonce) _ (quoted_is (codes "nonce") challenge.nonce refl n) in
    let h4 = and_then h3 (named (codes "uri") uri) _ (quoted_is (codes "uri") uri refl t) in
    and_then h4 (named (codes "response") answer) _ (quoted_is (codes "response") answer refl a)

pub carries : (challenge : Challenge) (secret : Secret) (method : Method) (uri : List ℕ) (nc : ℕ) (cnonce : List ℕ)
    → AreSayable challenge secret uri cnonce
    → Credentials (codes "Digest") (carried challenge secret uri nc cnonce (digest challenge secret method uri nc cnonce))
    (authorization_text challenge secret method uri nc cnonce)
carries challenge secret method uri nc cnonce said =
    let answer = digest challenge secret method uri nc cnonce in
    let login = login_body challenge secret uri answer said.user said.realm said.nonce said.target (hash_passes in_string refl _ _) in
    record {
      spaces = 32 ∷ [];
      listed = _;
      named = refl;
      spaced = refl;
      parameters = and_qop _ _ (and_opaque _ _ (and_algorithm _ _ login challenge.algorithm) challenge.opaque said.opaque) challenge.qop nc cnonce said.own;
      split = refl;
    }
