-- That what is written holds no CR, LF or NUL.
use Rattle.std.proofs.Common.{◌≡◌, ℕ, zero, suc, ◌<◌, ◌/◌, ◌%◌, ◌==◌, ◌||◌, ◌&&◌, not, Bool, true, IsTrue, List, [], ◌∷◌, ◌++◌, get_or, slice_index, inl, inr, refl, ◌∙◌, arith, Option, Some, None, codes}
use Rattle.std.specs.Int.{byte_at, bytes_high_first, to_be_bytes, w32}
use Rattle.std.proofs.lemmas.Bool.{cases_Bool, and_parts, and_from}
use Rattle.std.proofs.lemmas.List.Folds.{list_all-append}
use Rattle.std.proofs.lemmas.List.Sums.{AllPass-from_list_all}
use Rattle.hex.specs.Hex.{encode_lower, encode_with, lower_digits}
use Rattle.dav_auth.specs.Clean.{is_clean, is_clean_if_some}
use Rattle.dav_auth.specs.Digest.{eight_digits}
use Rattle.dav_auth.specs.Field.{parameter, login_text, algorithm_text, opaque_text, count_text, qop_text, value_text}
use Rattle.dav_auth.specs.Quoted.{escape_byte, escape, quoted}
use Rattle.dav_auth.specs.declared.algorithm.Algorithm.{Algorithm}
use Rattle.dav_auth.specs.declared.algorithm.Algorithm.TheVariants.{Md5, Md5Sess, Sha256, Sha256Sess}
use Rattle.dav_auth.specs.declared.challenge.Challenge.{Challenge}
use Rattle.dav_auth.specs.declared.secret.Secret.{Secret}
use Rattle.dav_auth.specs.declared.algorithm.Qop.{Qop}
use Rattle.dav_auth.specs.declared.algorithm.Qop.TheVariants.{Missing, Auth}

abbrev is_clean_byte : ℕ → Bool
is_clean_byte b = not (b == 13 || b == 10 || b == 0)

abbrev pub Clean : List ℕ → Type 0
Clean bytes = IsTrue (is_clean bytes)

digit_clean : (d : ℕ) → d < 16 → is_clean_byte (slice_index lower_digits d) ≡ true
digit_clean d within = AllPass-from_list_all is_clean_byte lower_digits refl d 0 within

-- hexadecimal digits are clean
pub clean_digits : (bytes : List ℕ) → ((k : ℕ) → get_or bytes k 0 < 256) → Clean (encode_lower bytes)
unfolding encode_with
clean_digits [] small = refl
clean_digits (b ∷ bytes) small =
    let byte : b < 256 = small 0 in
    let high : b / 16 < 16 = omega arith in
    let low : b % 16 < 16 = omega arith in
    and_from _ _ (digit_clean (b / 16) high) (and_from _ _ (digit_clean (b % 16) low) (clean_digits bytes (λ k. small (suc k))))

pub clean_append : (xs ys : List ℕ) → Clean xs → Clean ys → Clean (xs ++ ys)
clean_append xs ys x y = list_all-append is_clean_byte xs ys ∙ and_from _ _ x y

clean_escape_byte : (b : ℕ) → is_clean_byte b ≡ true → Clean (escape_byte b)
clean_escape_byte b clean =
    elim (cases_Bool (b == 34 || b == 92)) [
      | inl quoted ↦ rw quoted (and_from true _ refl (and_from _ true clean refl))
      | inr plain ↦ rw plain (and_from _ true clean refl)
    ]

clean_escape : (bytes : List ℕ) → Clean bytes → Clean (escape bytes)
clean_escape [] clean = refl
clean_escape (b ∷ bytes) clean =
    let parts = and_parts (is_clean_byte b) (is_clean bytes) clean in
    clean_append (escape_byte b) (escape bytes) (clean_escape_byte b parts.0) (clean_escape bytes parts.1)

clean_quoted : (bytes : List ℕ) → Clean bytes → Clean (quoted bytes)
clean_quoted bytes clean = and_from true _ refl (clean_append (escape bytes) (34 ∷ []) (clean_escape bytes clean) refl)

clean_parameter : (name bytes : List ℕ) → Clean name → Clean bytes → Clean (parameter name bytes)
clean_parameter name bytes n b = clean_append name (quoted bytes) n (clean_quoted bytes b)

-- the numbers of uses
small_byte : (i n : ℕ) → byte_at i n < 256
small_byte zero n = omega arith
small_byte (suc i) n = omega arith

small_bytes : (size n k : ℕ) → get_or (bytes_high_first size n) k 0 < 256
small_bytes zero n k = omega arith
small_bytes (suc size) n zero = small_byte size n
small_bytes (suc size) n (suc k) = small_bytes size n k

clean_count : (nc : ℕ) → Clean (count_text nc)
clean_count nc = clean_append (codes ", qop=auth, nc=") (eight_digits nc) refl (clean_digits (to_be_bytes w32 nc) (small_bytes 4 nc))

-- the parameters that each value has
pub clean_login : (challenge : Challenge) (secret : Secret) (uri answer : List ℕ) → Clean secret.user → Clean challenge.realm → Clean challenge.nonce
    → Clean uri → Clean answer → Clean (login_text challenge secret uri answer)
clean_login challenge secret uri answer u r n t a =
    let p1 = parameter (codes "Digest username=") secret.user in
    let p2 = parameter (codes ", realm=") challenge.realm in
    let p3 = parameter (codes ", nonce=") challenge.nonce in
    let p4 = parameter (codes ", uri=") uri in
    let p5 = parameter (codes ", response=") answer in
    let c1 : Clean p1 = clean_parameter (codes "Digest username=") secret.user refl u in
    let c2 : Clean p2 = clean_parameter (codes ", realm=") challenge.realm refl r in
    let c3 : Clean p3 = clean_parameter (codes ", nonce=") challenge.nonce refl n in
    let c4 : Clean p4 = clean_parameter (codes ", uri=") uri refl t in
    let c5 : Clean p5 = clean_parameter (codes ", response=") answer refl a in
    clean_append (p1 ++ p2 ++ p3 ++ p4) p5
    (clean_append (p1 ++ p2 ++ p3) p4 (clean_append (p1 ++ p2) p3 (clean_append p1 p2 c1 c2) c3) c4) c5

clean_algorithm : (algorithm : Option Algorithm) → Clean (algorithm_text algorithm)
clean_algorithm None = refl
clean_algorithm (Some Md5) = refl
clean_algorithm (Some Md5Sess) = refl
clean_algorithm (Some Sha256) = refl
clean_algorithm (Some Sha256Sess) = refl

clean_opaque : (opaque : Option (List ℕ)) → IsTrue (is_clean_if_some opaque) → Clean (opaque_text opaque)
clean_opaque None clean = refl
clean_opaque (Some bytes) clean = clean_parameter (codes ", opaque=") bytes refl clean

clean_qop : (qop : Qop) (nc : ℕ) (cnonce : List ℕ) → Clean cnonce → Clean (qop_text qop nc cnonce)
clean_qop Missing nc cnonce clean = refl
clean_qop Auth nc cnonce clean =
    clean_append (count_text nc) (parameter (codes ", cnonce=") cnonce) (clean_count nc) (clean_parameter (codes ", cnonce=") cnonce refl clean)

-- a whole value
pub clean_value : (challenge : Challenge) (secret : Secret) (uri : List ℕ) (nc : ℕ) (cnonce answer : List ℕ) → Clean uri → Clean cnonce → Clean answer
    → Clean (value_text challenge secret uri nc cnonce answer)
clean_value challenge secret uri nc cnonce answer t k a =
    let texts = and_parts (is_clean challenge.realm && is_clean challenge.nonce) (is_clean_if_some challenge.opaque) challenge.clean in
    let two = and_parts (is_clean challenge.realm) (is_clean challenge.nonce) texts.0 in
    let l = login_text challenge secret uri answer in
    let g = algorithm_text challenge.algorithm in
    let o = opaque_text challenge.opaque in
    let q = qop_text challenge.qop nc cnonce in
    clean_append (l ++ g ++ o) q
    (clean_append (l ++ g) o
    (clean_append l g (clean_login challenge secret uri answer secret.clean two.0 two.1 t a) (clean_algorithm challenge.algorithm))
    (clean_opaque challenge.opaque texts.1))
    (clean_qop challenge.qop nc cnonce k)
