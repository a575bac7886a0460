-- Splitting a text at its slashes, looking for escapes, and how two paths stand to each other.
use Rattle.std.proofs.Common.{◌≡◌, ◌≢◌, ℕ, zero, suc, ◌+◌, ◌-◌, ◌<◌, ◌≤◌, min, Bool, true, false, not, ◌&&◌, cond, if◌then◌else◌, eqb, Option, Some, None, MatchOption, Result, Ok, Err, MatchResult, List, [], ◌∷◌, ◌++◌, length, get_or, take, drop, map, refl, sym, ap, subst, ◌∙◌, arith, Bor, ◌↔◌, IsTrue, length-append, length-drop}
use Rattle.std.specs.List.{All, fold, slice_split}
use Rattle.std.specs.Str.{is_utf8, IsUtf8}
use Rattle.std.proofs.lemmas.Str.{IsUtf8-drop, IsCharBoundary-after_ascii}
use Rattle.std.proofs.Math.Seq.{take-append_seam, get_or-append_seam, drop-append-add}
use Rattle.std.proofs.lemmas.Bool.{ne_eqb, cond-true, cond-false}
use Rattle.std.proofs.lemmas.List.{take_more, drop_more, take-append-drop, append-nil, same_from_push}
use Rattle.std.proofs.lemmas.List.Elements.{All-from_get_or}
use Rattle.std.proofs.lemmas.List.Splits.{slice_split_none, slice_split_at}
use Rattle.std.proofs.lemmas.Str.Pattern.{IsSplitOnceResult, split_parts}
use Rattle.percent_encoding.specs.Percent.{percent_encode, percent_decode, percent_encode_byte, encode_byte}
use Rattle.percent_encoding.specs.declared.ascii_set.AsciiSet.{AsciiSet}
use Rattle.percent_encoding.specs.AsciiSet.{should_percent_encode}
use Rattle.percent_encoding.proofs.PercentLemmas.{percent_encode-nil, percent_encode-append, percent_encode_escaped, percent_encode_kept}
use Rattle.dav_text.specs.Path.{PathParts, IsLonger, IsLongerByOne, escaped, escaped_parts, escaped_segments}
use Rattle.dav_text.specs.declared.sets.TheConstants.{ESCAPED}
use Rattle.dav_text.proofs.PathLemmas.{escaped_segments_more}
use Rattle.dav_text.specs.Reading.{top_path, parts_of, with_part, folded, is_bad_escape, bad_escape_from, not_text_from, unless_bad, fitting, path_of, typed_of}
use Rattle.dav_text.specs.declared.fault.PathFault.{PathFault}
use Rattle.dav_text.specs.declared.fault.PathFault.TheVariants.{NotRooted, BadEscape, NotText, Memory}

-- ---- splitting

without_slash : (bs : List ℕ) → ((i : ℕ) → i < length bs → get_or bs i 0 ≢ 47) → All (λ b. eqb b 47 ≡ false) bs
without_slash bs none = All-from_get_or (λ b. eqb b 47 ≡ false) bs 0 (λ i within. ne_eqb (get_or bs i 0) 47 (none i within))

-- the first part and the others
pub first_of_parts : (text : List ℕ) (part after : Bor (List ℕ)) → IsSplitOnceResult 47 text (Some (part, after)) → parts_of text ≡ part.now ∷ parts_of after.now
first_of_parts text part after is =
    let parts = split_parts 47 text (Some (part, after)) is (omega arith) in
    ap parts_of parts.0 ∙ slice_split_at (λ b. eqb b 47) part.now 47 after.now (without_slash part.now parts.1) refl

-- the only part
pub only_part : (text : List ℕ) → IsSplitOnceResult 47 text None → parts_of text ≡ text ∷ []
only_part text is = slice_split_none (λ b. eqb b 47) text (without_slash text (split_parts 47 text None is (omega arith)))

-- what stands behind a slash of a text is text
pub after_slash : (text : List ℕ) (part after : Bor (List ℕ)) → IsSplitOnceResult 47 text (Some (part, after)) → IsUtf8 text → IsUtf8 after.now
after_slash text part after is valid =
    let split = (split_parts 47 text (Some (part, after)) is (omega arith)).0 in
    let long : length text ≡ length part.now + suc (length after.now) = ap length split ∙ length-append part.now (47 ∷ after.now) in
    let here : get_or text (length part.now) 0 ≡ 47 = ap (λ (t : List ℕ). get_or t (length part.now) 0) split ∙ get_or-append_seam part.now 47 after.now 0 in
    let cut : drop (length part.now + 1) text ≡ after.now =
    ap (λ (t : List ℕ). drop (length part.now + 1) t) split ∙ drop-append-add part.now (47 ∷ after.now) 1 in
    subst IsUtf8 cut (IsUtf8-drop text (length part.now + 1) valid (IsCharBoundary-after_ascii text (length part.now) valid (omega arith) (omega arith)))

-- ---- escapes

-- a byte that is no bad escape is passed
pub escape_passed : (bytes : List ℕ) (at : ℕ) → at < length bytes → is_bad_escape (get_or bytes at 0) (drop (at + 1) bytes) ≡ false
    → bad_escape_from at (drop at bytes) ≡ bad_escape_from (at + 1) (drop (at + 1) bytes)
unfolding bad_escape_from
escape_passed bytes at within fine = ap (bad_escape_from at) (drop_more bytes at 0 within) ∙ cond-false _ _ _ fine

pub escape_found : (bytes : List ℕ) (at : ℕ) → at < length bytes → is_bad_escape (get_or bytes at 0) (drop (at + 1) bytes) ≡ true
    → bad_escape_from at (drop at bytes) ≡ Some at
unfolding bad_escape_from
escape_found bytes at within bad = ap (bad_escape_from at) (drop_more bytes at 0 within) ∙ cond-true _ _ _ bad

pub no_escape_left : (at : ℕ) → bad_escape_from at [] ≡ None
unfolding bad_escape_from
no_escape_left at = refl

-- ---- parts that are text

pub text_passed : (at : ℕ) (part : List ℕ) (parts : List (List ℕ)) → is_utf8 (percent_decode part) ≡ true → not_text_from at (part ∷ parts) ≡ not_text_from (at + (length part + 1)) parts
unfolding not_text_from
text_passed at part parts is = cond-true _ _ _ is

pub no_text : (at : ℕ) (part : List ℕ) (parts : List (List ℕ)) → is_utf8 (percent_decode part) ≡ false → not_text_from at (part ∷ parts) ≡ Some at
unfolding not_text_from
no_text at part parts is = cond-false _ _ _ is

pub no_part_left : (at : ℕ) → not_text_from at [] ≡ None
unfolding not_text_from
no_part_left at = refl

-- ---- the cases of reading

pub not_rooted : (text : List ℕ) → ((rest : List ℕ) → text ≢ 47 ∷ rest) → path_of text ≡ Err NotRooted
not_rooted [] none = refl
not_rooted (b ∷ bs) none = cond-false (eqb b 47) _ _ (ne_eqb b 47 (λ is. none bs (ap (λ (x : ℕ). x ∷ bs) is)))

pub rooted : (text rest : List ℕ) → text ≡ 47 ∷ rest
    → path_of text ≡ unless_bad (bad_escape_from 0 text) (not_text_from 1 (parts_of rest)) (folded top_path (map percent_decode (parts_of rest)))
rooted text rest is = ap path_of is ∙ ap (λ (t : List ℕ). unless_bad (bad_escape_from 0 t) (not_text_from 1 (parts_of rest)) (folded top_path (map percent_decode (parts_of rest)))) (sym is)

pub read_bad : (text rest : List ℕ) (at : ℕ) → text ≡ 47 ∷ rest → Some at ≡ bad_escape_from 0 text → path_of text ≡ Err (BadEscape at)
read_bad text rest at is bad =
    rooted text rest is ∙ ap (λ (o : Option ℕ). unless_bad o (not_text_from 1 (parts_of rest)) (folded top_path (map percent_decode (parts_of rest)))) (sym bad)

pub read_no_text : (text rest : List ℕ) (at : ℕ) → text ≡ 47 ∷ rest → None ≡ bad_escape_from 0 text → not_text_from 1 (parts_of rest) ≡ Some at → path_of text ≡ Err (NotText at)
read_no_text text rest at is fine none =
    rooted text rest is ∙ ap (λ (o : Option ℕ). unless_bad o (not_text_from 1 (parts_of rest)) (folded top_path (map percent_decode (parts_of rest)))) (sym fine)
    ∙ ap (λ (o : Option ℕ). unless_bad None o (folded top_path (map percent_decode (parts_of rest)))) none

pub read_whole : (text rest : List ℕ) (path : PathParts) → text ≡ 47 ∷ rest → None ≡ bad_escape_from 0 text → not_text_from 1 (parts_of rest) ≡ None
    → path ≡ folded top_path (map percent_decode (parts_of rest)) → path_of text ≡ fitting path
read_whole text rest path is fine all same =
    rooted text rest is ∙ ap (λ (o : Option ℕ). unless_bad o (not_text_from 1 (parts_of rest)) (folded top_path (map percent_decode (parts_of rest)))) (sym fine)
    ∙ ap (λ (o : Option ℕ). unless_bad None o (folded top_path (map percent_decode (parts_of rest)))) all ∙ ap fitting (sym same)

pub typed_top : (here : PathParts) (word rest : List ℕ) (path : PathParts) → word ≡ 47 ∷ rest → path ≡ folded top_path (parts_of rest) → typed_of here word ≡ fitting path
typed_top here word rest path is same = ap (typed_of here) is ∙ ap fitting (sym same)

typed_not_top : (here : PathParts) (word : List ℕ) → ((rest : List ℕ) → word ≢ 47 ∷ rest) → typed_of here word ≡ fitting (folded here (parts_of word))
typed_not_top here [] none = refl
typed_not_top here (b ∷ bs) none =
    ap fitting (cond-false (eqb b 47) (folded top_path (parts_of bs)) (folded here (parts_of (b ∷ bs))) (ne_eqb b 47 (λ is. none bs (ap (λ (x : ℕ). x ∷ bs) is))))

pub typed_below : (here : PathParts) (word : List ℕ) (path : PathParts) → ((rest : List ℕ) → word ≢ 47 ∷ rest) → path ≡ folded here (parts_of word) → typed_of here word ≡ fitting path
typed_below here word path none same = typed_not_top here word none ∙ ap fitting (sym same)

-- a result that equals a refusal or a path, as a clause says it
pub fitting_told : (r expected : Result PathParts PathFault) (path : PathParts) → r ≡ fitting path → expected ≡ fitting path
    → MatchResult r (λ p. expected ≡ Ok p) (λ f. f ≢ Memory → expected ≡ Err f)
fitting_told (Ok p) expected path is same = same ∙ sym is
fitting_told (Err f) expected path is same = λ _. same ∙ sym is

-- ---- lengths of escaped texts

pub escaped_byte_kept : (set : AsciiSet) (b : ℕ) → should_percent_encode set b ≡ false → 1 ≡ length (encode_byte set b)
escaped_byte_kept set b is = sym (ap length (cond-false (should_percent_encode set b) (percent_encode_byte b) (b ∷ []) is))

three_long : (b : ℕ) → 3 ≡ length (percent_encode_byte b)
unfolding percent_encode_byte
three_long b = refl

pub escaped_byte_long : (set : AsciiSet) (b : ℕ) → should_percent_encode set b ≡ true → 3 ≡ length (encode_byte set b)
escaped_byte_long set b is = three_long b ∙ sym (ap length (cond-true (should_percent_encode set b) (percent_encode_byte b) (b ∷ []) is))

encoded_byte : (set : AsciiSet) (b : ℕ) (test : Bool) → should_percent_encode set b ≡ test → percent_encode set (b ∷ []) ≡ encode_byte set b
encoded_byte set b true is =
    percent_encode_escaped set b [] is ∙ ap (λ (x : List ℕ). percent_encode_byte b ++ x) (percent_encode-nil set) ∙ append-nil (percent_encode_byte b) ∙ sym (cond-true _ (percent_encode_byte b) (b ∷ []) is)
encoded_byte set b false is = percent_encode_kept set b [] is ∙ ap (λ (x : List ℕ). b ∷ x) (percent_encode-nil set) ∙ sym (cond-false _ (percent_encode_byte b) (b ∷ []) is)

-- one more byte
pub longer : (set : AsciiSet) (bs : List ℕ) (i : ℕ) → i < length bs
    → length (percent_encode set (take (i + 1) bs)) ≡ length (percent_encode set (take i bs)) + length (encode_byte set (get_or bs i 0))
longer set bs i within =
    ap (λ (x : List ℕ). length (percent_encode set x)) (take_more bs i 0 within) ∙ ap length (percent_encode-append set (take i bs) (get_or bs i 0 ∷ []))
    ∙ length-append (percent_encode set (take i bs)) (percent_encode set (get_or bs i 0 ∷ [])) ∙ ap (λ (x : List ℕ). length (percent_encode set (take i bs)) + length x) (encoded_byte set (get_or bs i 0) _ refl)

pub nothing_long : (set : AsciiSet) → length (percent_encode set []) ≡ 0
nothing_long set = ap length (percent_encode-nil set)

-- one more segment
pub longer_by_segment : (segments : List (List ℕ)) (i : ℕ) (d : List ℕ) → i < length segments
    → length (escaped_segments (take (i + 1) segments)) ≡ length (escaped_segments (take i segments)) + (length (percent_encode ESCAPED (get_or segments i d)) + 1)
longer_by_segment segments i d within =
    let e = ap length (escaped_segments_more segments i d within) ∙ length-append (escaped_segments (take i segments)) (47 ∷ percent_encode ESCAPED (get_or segments i d)) in
    e ∙ omega arith

-- ---- how two paths stand to each other

front_cut : (xs ys : List (List ℕ)) → take (length ys) xs ≡ ys → xs ≡ ys ++ drop (length ys) xs
front_cut xs ys front = sym (take-append-drop (length ys) xs) ∙ ap (λ (f : List (List ℕ)). f ++ drop (length ys) xs) front

pub longer_from_front : (xs ys : List (List ℕ)) → length ys < length xs → take (length ys) xs ≡ ys → IsLonger xs ys
longer_from_front xs ys deeper front = record {
  rest = drop (length ys) xs;
  split = front_cut xs ys front;
  some = λ none. let e : length (drop (length ys) xs) ≡ 0 = ap length none in absurd (omega (arith, length-drop (length ys) xs));
}

pub front_from_longer : (xs ys : List (List ℕ)) → IsLonger xs ys → take (length ys) xs ≡ ys
front_from_longer xs ys longer = ap (take (length ys)) longer.split ∙ take-append_seam ys longer.rest

nonempty_length : (xs : List (List ℕ)) → xs ≢ [] → 0 < length xs
nonempty_length [] some = absurd (some refl)
nonempty_length (x ∷ xs) some = omega arith

pub deeper_from_longer : (xs ys : List (List ℕ)) → IsLonger xs ys → length ys < length xs
deeper_from_longer xs ys longer =
    let e : length xs ≡ length ys + length longer.rest = ap length longer.split ∙ length-append ys longer.rest in
    let more = nonempty_length longer.rest longer.some in
    omega arith

pub by_one_from_front : (xs front ys : List (List ℕ)) (last : List ℕ) → xs ≡ front ++ last ∷ [] → front ≡ ys → IsLongerByOne xs ys
by_one_from_front xs front ys last split same = record { name = last; split = split ∙ ap (λ (f : List (List ℕ)). f ++ last ∷ []) same }

pub front_from_by_one : (xs front ys : List (List ℕ)) (last : List ℕ) → xs ≡ front ++ last ∷ [] → IsLongerByOne xs ys → front ≡ ys
front_from_by_one xs front ys last split longer = (same_from_push front ys last longer.name (sym split ∙ longer.split)).0

pub nothing_by_one : (xs ys : List (List ℕ)) → xs ≡ [] → IsLongerByOne xs ys → ⊥
nothing_by_one xs ys none longer = let e : 0 ≡ length ys + 1 = ap length (sym none ∙ longer.split) ∙ length-append ys (longer.name ∷ []) in omega arith
