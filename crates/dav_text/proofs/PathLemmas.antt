-- What the text of a path is made of.
use Rattle.std.proofs.Common.{◌≡◌, ℕ, zero, suc, ◌+◌, ◌<◌, ◌≤◌, Bool, true, false, not, ◌&&◌, ◌||◌, if◌then◌else◌, eqb, leb, Some, None, List, [], ◌∷◌, ◌++◌, length, get_or, take, inl, inr, refl, sym, ap, subst, ◌∙◌, arith, lit<, IsAscii}
use Rattle.std.specs.Char.{is_ascii_alphanumeric}
use Rattle.std.specs.List.{list_all}
use Rattle.std.proofs.Math.Seq.{take-append_seam}
use Rattle.std.proofs.lemmas.Bool.{and_parts, and_from, cases_Bool, cases_lt, cond-true, cond-false, eqb-true, eq-eqb, leb-true, le-leb}
use Rattle.std.proofs.lemmas.Bool.Decides.{nat_tests}
use Rattle.std.proofs.lemmas.List.{take_more, take-take, append-nil, append_assoc, length-append}
use Rattle.std.proofs.lemmas.List.Elements.{All-weaker}
use Rattle.std.proofs.lemmas.List.Sums.{AllPass-from_list_all, list_all-from_AllPass}
use Rattle.std.proofs.lemmas.Str.{IsAscii-append}
use Rattle.std.proofs.lemmas.Str.Ascii.{IsAscii-nil, IsAscii-cons}
use Rattle.percent_encoding.specs.declared.ascii_set.AsciiSet.{AsciiSet}
use Rattle.percent_encoding.specs.AsciiSet.{should_percent_encode}
use Rattle.percent_encoding.specs.Percent.{IsKept, percent_encode, percent_encode_byte}
use Rattle.percent_encoding.proofs.PercentLemmas.{percent_encode-nil, percent_encode-append, percent_encode_escaped, percent_encode_kept, percent_encode_unchanged, IsAscii-percent_encode}
use Rattle.dav_text.specs.declared.sets.TheConstants.{ESCAPED}
use Rattle.dav_text.specs.Path.{PathParts, is_unreserved, escaped_segments, escaped_parts, escaped, BeginsWith}

-- what begins with a list begins with the list's front
pub BeginsWith-front : (old more new : List ℕ) → BeginsWith (old ++ more) new → BeginsWith old new
BeginsWith-front old more new h =
    let within : length old ≤ length (old ++ more) = omega (arith, length-append {A = ℕ}) in
    sym (take-take (length old) (length (old ++ more)) new within) ∙ ap (take (length old)) h ∙ take-append_seam old more

-- a piece more, where the list so far is what was there and a front
pub grown : (old front piece more mid new : List ℕ) → mid ≡ old ++ front → new ≡ mid ++ piece → more ≡ front ++ piece → new ≡ old ++ more
grown old front piece more mid new e f g = f ∙ ap (λ x. x ++ piece) e ∙ append_assoc old front piece ∙ ap (λ x. old ++ x) (sym g)

-- one more byte, which is escaped
pub percent_encode_escaped_more : (set : AsciiSet) (bs : List ℕ) (i : ℕ) → i < length bs → should_percent_encode set (get_or bs i 0) ≡ true → percent_encode set (take (i + 1) bs) ≡ percent_encode set (take i bs) ++ percent_encode_byte (get_or bs i 0)
percent_encode_escaped_more set bs i within escapes =
    let b = get_or bs i 0 in
    ap (percent_encode set) (take_more bs i 0 within) ∙ percent_encode-append set (take i bs) (b ∷ []) ∙ ap (λ x. percent_encode set (take i bs) ++ x) (percent_encode_escaped set b [] escapes ∙ ap (λ x. percent_encode_byte b ++ x) (percent_encode-nil set) ∙ append-nil (percent_encode_byte b))

-- one more byte, which is kept
pub percent_encode_kept_more : (set : AsciiSet) (bs : List ℕ) (i : ℕ) → i < length bs → should_percent_encode set (get_or bs i 0) ≡ false → percent_encode set (take (i + 1) bs) ≡ percent_encode set (take i bs) ++ get_or bs i 0 ∷ []
percent_encode_kept_more set bs i within kept =
    let b = get_or bs i 0 in
    ap (percent_encode set) (take_more bs i 0 within) ∙ percent_encode-append set (take i bs) (b ∷ []) ∙ ap (λ x. percent_encode set (take i bs) ++ x) (percent_encode_kept set b [] kept ∙ ap (λ x. b ∷ x) (percent_encode-nil set))

pub escaped_segments-append : (xs ys : List (List ℕ)) → escaped_segments (xs ++ ys) ≡ escaped_segments xs ++ escaped_segments ys
escaped_segments-append [] ys = refl
escaped_segments-append (x ∷ xs) ys =
    ap (λ t. 47 ∷ percent_encode ESCAPED x ++ t) (escaped_segments-append xs ys) ∙ sym (append_assoc (47 ∷ percent_encode ESCAPED x) (escaped_segments xs) (escaped_segments ys))

-- one more segment
pub escaped_segments_more : (segments : List (List ℕ)) (i : ℕ) (d : List ℕ) → i < length segments → escaped_segments (take (i + 1) segments) ≡ escaped_segments (take i segments) ++ (47 ∷ percent_encode ESCAPED (get_or segments i d))
escaped_segments_more segments i d within =
    ap escaped_segments (take_more segments i d within) ∙ escaped_segments-append (take i segments) (get_or segments i d ∷ []) ∙ ap (λ t. escaped_segments (take i segments) ++ t) (append-nil (47 ∷ percent_encode ESCAPED (get_or segments i d)))

-- whether a test holds of each number below
unfoldable passes_below : (ℕ → Bool) → ℕ → Bool
passes_below p zero = true
passes_below p (suc n) = p n && passes_below p n

passes_below-at : (p : ℕ → Bool) (n b : ℕ) → passes_below p n ≡ true → b < n → p b ≡ true
unfolding passes_below
passes_below-at p zero b all within = absurd (omega arith)
passes_below-at p (suc n) b all within =
    let parts = and_parts (p n) (passes_below p n) all in
    elim (cases_lt b n) [
      | inl below ↦ passes_below-at p n b parts.1 below
      | inr last ↦ let same : b ≡ n = omega arith in ap p same ∙ parts.0
    ]

same_truth : Bool → Bool → Bool
same_truth x y = if x then y else not y

same-from_truth : (x y : Bool) → same_truth x y ≡ true → x ≡ y
unfolding same_truth
same-from_truth true true e = refl
same-from_truth true false e = cc
same-from_truth false true e = cc
same-from_truth false false e = refl

agreed : passes_below (λ b. same_truth (should_percent_encode ESCAPED b) (not (is_unreserved b))) 128 ≡ true
unfolding passes_below same_truth should_percent_encode
agreed = refl

-- every byte but the unreserved ones is escaped
pub escapes-unless-unreserved : (b : ℕ) → should_percent_encode ESCAPED b ≡ not (is_unreserved b)
unfolding should_percent_encode
escapes-unless-unreserved b =
    elim (cases_lt b 128) [
      | inl ascii ↦ same-from_truth _ _ (passes_below-at (λ x. same_truth (should_percent_encode ESCAPED x) (not (is_unreserved x))) 128 b agreed ascii)
      | inr beyond ↦ grind (arith, nat_tests)
    ]

IsAscii-escaped_segments : (segments : List (List ℕ)) → IsAscii (escaped_segments segments)
IsAscii-escaped_segments [] = IsAscii-nil
IsAscii-escaped_segments (segment ∷ segments) =
    IsAscii-append (47 ∷ percent_encode ESCAPED segment) (escaped_segments segments) (IsAscii-cons 47 _ (lit< tt) (IsAscii-percent_encode ESCAPED segment)) (IsAscii-escaped_segments segments)

IsAscii-escaped_parts : (segments : List (List ℕ)) (slash : Bool) → IsAscii (escaped_parts segments slash)
IsAscii-escaped_parts [] slash = IsAscii-cons 47 [] (lit< tt) IsAscii-nil
IsAscii-escaped_parts (segment ∷ segments) true =
    IsAscii-append (escaped_segments (segment ∷ segments)) (47 ∷ []) (IsAscii-escaped_segments (segment ∷ segments)) (IsAscii-cons 47 [] (lit< tt) IsAscii-nil)
IsAscii-escaped_parts (segment ∷ segments) false =
    IsAscii-append (escaped_segments (segment ∷ segments)) [] (IsAscii-escaped_segments (segment ∷ segments)) IsAscii-nil

-- the text of any path is ASCII
pub IsAscii-escaped : (path : PathParts) → IsAscii (escaped path)
IsAscii-escaped path = IsAscii-escaped_parts path.segments path.slash
