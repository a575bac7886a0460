-- What is written of a path is read back, and what is read is a path.
use Rattle.std.proofs.Common.{◌≡◌, ◌≢◌, ℕ, zero, suc, ◌+◌, ◌*◌, ◌/◌, ◌%◌, ◌<◌, ◌≤◌, Bool, true, false, not, ◌&&◌, ◌||◌, ◌⊎◌, if◌then◌else◌, eqb, Option, Some, None, Result, Ok, Err, List, [], ◌∷◌, ◌++◌, length, take, map, leb, min, ◌-◌, inl, inr, refl, sym, ap, subst, ◌∙◌, arith, append_assoc}
use Rattle.std.specs.List.{All, AllByRecursion as Every, fold, slice_split}
use Rattle.std.specs.Char.{digit_value, is_digit}
use Rattle.std.specs.Fmt.{digit_glyph}
use Rattle.std.specs.Str.{IsUtf8, is_utf8}
use Rattle.std.proofs.lemmas.Bool.{ne_eqb, cond-true, cond-false, cases_Bool, and_from, and_parts, lt-ltb, le-leb, cond_both, leb-true, false_from_ne_true}
use Rattle.std.proofs.lemmas.Slice.Eq.{bytes_eq-Decides}
use Rattle.std.specs.Str.{bytes_eq}
use Rattle.std.proofs.lemmas.Bool.Decides.{nat_tests}
use Rattle.std.proofs.lemmas.List.{append-nil}
use Rattle.std.proofs.lemmas.List.Elements.{All-nil, All-cons, All-append}
use Rattle.std.proofs.lemmas.List.Splits.{slice_split_none, slice_split_at}
use Rattle.std.proofs.lemmas.Str.{is_utf8-from_IsUtf8, IsUtf8-from_is_utf8, IsUtf8-nil}
use Rattle.percent_encoding.specs.AsciiSet.{should_percent_encode, contains}
use Rattle.percent_encoding.specs.Percent.{percent_encode, percent_decode, percent_encode_byte}
use Rattle.percent_encoding.proofs.PercentLemmas.{IsByte, IsEscapeByte, percent_encode-nil, percent_encode_escaped, percent_encode_kept, All-percent_encode, percent_decode-nil, round_trip}
use lib.Utf8.{scalar, scalars, encode, encodes, scalar_cases}
use Rattle.dav_text.specs.declared.sets.TheConstants.{ESCAPED}
use Rattle.dav_text.specs.Path.{PathParts, IsSegment, IsPath, IsLonger, escaped, escaped_parts, escaped_segments, is_here, is_up}
use Rattle.dav_text.specs.Reading.{top_path, parts_of, with_part, folded, has_two_digits, is_bad_escape, bad_escape_from, not_text_from, unless_bad, fitting, path_of}
use Rattle.dav_text.specs.declared.fault.PathFault.TheVariants.{NotRooted, TooLong}
use Rattle.dav_text.proofs.ReadLemmas.{read_whole, deeper_from_longer}

abbrev text_of : List ℕ → List ℕ
text_of segment = percent_encode ESCAPED segment

abbrev ending : Bool → List ℕ
ending slash = if slash then 47 ∷ [] else []

-- the text of some segments behind the first slash
abbrev behind : List ℕ → List (List ℕ) → Bool → List ℕ
behind segment [] slash = text_of segment ++ ending slash
behind segment (next ∷ segments) slash = text_of segment ++ 47 ∷ behind next segments slash

behind_slash : (segment : List ℕ) (segments : List (List ℕ)) (slash : Bool) → escaped_parts (segment ∷ segments) slash ≡ 47 ∷ behind segment segments slash
behind_slash segment [] slash = ap (λ (t : List ℕ). 47 ∷ (t ++ ending slash)) (append-nil (text_of segment))
behind_slash segment (next ∷ segments) slash =
    ap (λ (t : List ℕ). 47 ∷ t) (append_assoc (text_of segment) (escaped_segments (next ∷ segments)) (ending slash) ∙ ap (λ (t : List ℕ). text_of segment ++ t) (behind_slash next segments slash))

-- ---- no slash and no bad escape is in an escaped segment

abbrev IsOther : ℕ → Type 0
IsOther b = eqb b 47 ≡ false

slash_escapes : should_percent_encode ESCAPED 47 ≡ true
unfolding should_percent_encode
slash_escapes = refl

percent_escapes : should_percent_encode ESCAPED 37 ≡ true
unfolding should_percent_encode
percent_escapes = refl

kept_other : (b : ℕ) → should_percent_encode ESCAPED b ≡ false → IsOther b
kept_other b kept = ne_eqb b 47 (λ is. let h : true ≡ false = sym slash_escapes ∙ ap (should_percent_encode ESCAPED) (sym is) ∙ kept in cc)

escape_other : (b : ℕ) → IsEscapeByte b → IsOther b
escape_other b (inl is) = ne_eqb b 47 (λ slash. omega arith)
escape_other b (inr (inl digit)) = ne_eqb b 47 (λ slash. omega arith)
escape_other b (inr (inr letter)) = ne_eqb b 47 (λ slash. omega arith)

no_slash : (segment : List ℕ) → All IsOther (text_of segment)
no_slash segment = All-percent_encode IsOther ESCAPED segment kept_other escape_other

-- nothing in these bytes is a bad escape, wherever they stand
abbrev IsFine : List ℕ → Type 0
IsFine bytes = (at : ℕ) → bad_escape_from at bytes ≡ None

fine-nil : IsFine []
unfolding bad_escape_from
fine-nil at = refl

fine_then : (b : ℕ) (bytes : List ℕ) → is_bad_escape b bytes ≡ false → IsFine bytes → IsFine (b ∷ bytes)
unfolding bad_escape_from
fine_then b bytes good fine at = cond-false _ _ _ good ∙ fine (at + 1)

other_good : (b : ℕ) (bytes : List ℕ) → b ≢ 37 → is_bad_escape b bytes ≡ false
other_good b bytes other = ap (λ (t : Bool). t && not (has_two_digits bytes)) (ne_eqb b 37 other)

glyph_digit : (d : ℕ) → d < 16 → is_digit (digit_glyph true d) 16 ≡ true
glyph_digit d small = grind (arith, nat_tests)

glyph_other : (d : ℕ) → d < 16 → digit_glyph true d ≢ 37
glyph_other d small is = grind (arith, nat_tests)

escape_good : (high low : ℕ) (rest : List ℕ) → high < 16 → low < 16 → is_bad_escape 37 (digit_glyph true high ∷ digit_glyph true low ∷ rest) ≡ false
escape_good high low rest h l =
    ap (λ (t : Bool). not t) (and_from (is_digit (digit_glyph true high) 16) (is_digit (digit_glyph true low) 16) (glyph_digit high h) (glyph_digit low l))

fine_byte : (b : ℕ) (rest : List ℕ) → IsFine rest → IsFine (percent_encode_byte b ++ rest)
unfolding percent_encode_byte
fine_byte b rest fine =
    let high : b / 16 % 16 < 16 = omega arith in
    let low : b % 16 < 16 = omega arith in
    let first = digit_glyph true (b / 16 % 16) in
    let second = digit_glyph true (b % 16) in
    fine_then 37 (first ∷ second ∷ rest) (escape_good (b / 16 % 16) (b % 16) rest high low)
    (fine_then first (second ∷ rest) (other_good first (second ∷ rest) (glyph_other (b / 16 % 16) high))
    (fine_then second rest (other_good second rest (glyph_other (b % 16) low)) fine))

kept_not_percent : (b : ℕ) → should_percent_encode ESCAPED b ≡ false → b ≢ 37
kept_not_percent b kept is = let h : true ≡ false = sym percent_escapes ∙ ap (should_percent_encode ESCAPED) (sym is) ∙ kept in cc

fine_text : (segment rest : List ℕ) → IsFine rest → IsFine (text_of segment ++ rest)
fine_text [] rest fine = subst IsFine (ap (λ (t : List ℕ). t ++ rest) (sym (percent_encode-nil ESCAPED))) fine
fine_text (b ∷ segment) rest fine =
    elim (cases_Bool (should_percent_encode ESCAPED b)) [
      | inl escapes ↦
          let whole : percent_encode_byte b ++ (text_of segment ++ rest) ≡ text_of (b ∷ segment) ++ rest =
          sym (append_assoc (percent_encode_byte b) (text_of segment) rest) ∙ ap (λ (t : List ℕ). t ++ rest) (sym (percent_encode_escaped ESCAPED b segment escapes)) in
          subst IsFine whole (fine_byte b (text_of segment ++ rest) (fine_text segment rest fine))
      | inr kept ↦
          let whole : b ∷ (text_of segment ++ rest) ≡ text_of (b ∷ segment) ++ rest = ap (λ (t : List ℕ). t ++ rest) (sym (percent_encode_kept ESCAPED b segment kept)) in
          subst IsFine whole (fine_then b (text_of segment ++ rest) (other_good b (text_of segment ++ rest) (kept_not_percent b kept)) (fine_text segment rest fine))
    ]

fine_slash : (rest : List ℕ) → IsFine rest → IsFine (47 ∷ rest)
fine_slash rest fine = fine_then 47 rest refl fine

fine_ending : (slash : Bool) → IsFine (ending slash)
fine_ending true = fine_slash [] fine-nil
fine_ending false = fine-nil

fine_behind : (segment : List ℕ) (segments : List (List ℕ)) (slash : Bool) → IsFine (behind segment segments slash)
fine_behind segment [] slash = fine_text segment (ending slash) (fine_ending slash)
fine_behind segment (next ∷ segments) slash = fine_text segment (47 ∷ behind next segments slash) (fine_slash (behind next segments slash) (fine_behind next segments slash))

-- ---- the parts of the text are the escaped segments

abbrev last_part : Bool → List (List ℕ)
last_part slash = if slash then [] ∷ [] else []

parts_behind : (segment : List ℕ) (segments : List (List ℕ)) (slash : Bool) → parts_of (behind segment segments slash) ≡ text_of segment ∷ (map text_of segments ++ last_part slash)
parts_behind segment [] true = slice_split_at (λ b. eqb b 47) (text_of segment) 47 [] (no_slash segment) refl
parts_behind segment [] false = ap parts_of (append-nil (text_of segment)) ∙ slice_split_none (λ b. eqb b 47) (text_of segment) (no_slash segment)
parts_behind segment (next ∷ segments) slash =
    slice_split_at (λ b. eqb b 47) (text_of segment) 47 (behind next segments slash) (no_slash segment) refl ∙ ap (λ (ps : List (List ℕ)). text_of segment ∷ ps) (parts_behind next segments slash)

-- ---- and they are decoded to the segments

small_next : (n : ℕ) → 128 + n % 64 < 256
small_next n = omega arith

small_encode : (c : ℕ) → scalar c ≡ true → All IsByte (encode c)
unfolding encode
small_encode c is =
    elim (scalar_cases c is) [
      | inl low ↦ grind (arith, nat_tests)
      | inr high ↦ grind (arith, nat_tests)
    ]

small_encodes : (cs : List ℕ) → scalars cs ≡ true → All IsByte (encodes cs)
small_encodes [] are = All-nil IsByte
small_encodes (c ∷ cs) are =
    let parts = and_parts (scalar c) (scalars cs) are in
    All-append IsByte (encode c) (encodes cs) (small_encode c parts.0) (small_encodes cs parts.1)

bytes_of_utf8 : (bytes : List ℕ) → IsUtf8 bytes → All IsByte bytes
bytes_of_utf8 bytes valid = subst (All IsByte) valid.1.1 (small_encodes valid.0 valid.1.0)

decoded : (segment : List ℕ) → IsUtf8 segment → percent_decode (text_of segment) ≡ segment
decoded segment valid = round_trip ESCAPED segment refl (bytes_of_utf8 segment valid)

decodes-nil : percent_decode [] ≡ []
decodes-nil = percent_decode-nil

abbrev IsTextPart : List ℕ → Type 0
IsTextPart part = is_utf8 (percent_decode part) ≡ true

texts_fine : (parts : List (List ℕ)) → Every IsTextPart parts → (at : ℕ) → not_text_from at parts ≡ None
unfolding not_text_from
texts_fine [] are at = refl
texts_fine (part ∷ parts) are at = cond-true _ _ _ are.0 ∙ texts_fine parts are.1 (at + (length part + 1))

last_is_text : (slash : Bool) → Every IsTextPart (last_part slash)
last_is_text true = (ap is_utf8 decodes-nil ∙ is_utf8-from_IsUtf8 [] IsUtf8-nil, tt)
last_is_text false = tt

segments_are_text : (segments : List (List ℕ)) (slash : Bool) → Every IsSegment segments → Every IsTextPart (map text_of segments ++ last_part slash)
segments_are_text [] slash are = last_is_text slash
segments_are_text (segment ∷ segments) slash are =
    (ap is_utf8 (decoded segment are.0.utf8) ∙ is_utf8-from_IsUtf8 segment are.0.utf8, segments_are_text segments slash are.1)

last_decoded : (slash : Bool) → map percent_decode (last_part slash) ≡ last_part slash
last_decoded true = ap (λ (part : List ℕ). part ∷ []) decodes-nil
last_decoded false = refl

segments_decoded : (segments : List (List ℕ)) (slash : Bool) → Every IsSegment segments → map percent_decode (map text_of segments ++ last_part slash) ≡ segments ++ last_part slash
segments_decoded [] slash are = last_decoded slash
segments_decoded (segment ∷ segments) slash are =
    ap (λ (part : List ℕ). part ∷ map percent_decode (map text_of segments ++ last_part slash)) (decoded segment are.0.utf8)
    ∙ ap (λ (parts : List (List ℕ)). segment ∷ parts) (segments_decoded segments slash are.1)

-- ---- and folded to the path

abbrev pushed : PathParts → List ℕ → PathParts
pushed path segment = record { segments = path.segments ++ segment ∷ []; slash = false }

differs : (a b : List ℕ) → a ≢ b → bytes_eq a b ≡ false
differs a b other = false_from_ne_true (bytes_eq a b) (λ is. other ((bytes_eq-Decides a b).0 is))

or_false : {x y : Bool} → x ≡ false → y ≡ false → (x || y) ≡ false
or_false {x} {y} one two = ap (λ (t : Bool). t || y) one ∙ two

segment_pushed : (path : PathParts) (segment : List ℕ) → IsSegment segment → with_part path segment ≡ pushed path segment
segment_pushed path segment is =
    let here : is_here segment ≡ false = or_false (differs segment [] is.not_here) (differs segment (46 ∷ []) is.not_dot) in
    cond-false _ _ _ here ∙ cond-false _ _ _ (differs segment (46 ∷ 46 ∷ []) is.not_up)

all_folded : (path : PathParts) (segment : List ℕ) (segments : List (List ℕ)) (slash : Bool) → Every IsSegment (segment ∷ segments)
    → folded path (segment ∷ (segments ++ last_part slash)) ≡ record { segments = path.segments ++ (segment ∷ segments); slash = slash }
all_folded path segment [] true are = ap (λ (p : PathParts). with_part p []) (segment_pushed path segment are.0)
all_folded path segment [] false are = segment_pushed path segment are.0
all_folded path segment (next ∷ segments) slash are =
    ap (λ (p : PathParts). folded p (next ∷ (segments ++ last_part slash))) (segment_pushed path segment are.0)
    ∙ all_folded (pushed path segment) next segments slash are.1
    ∙ ap (λ (all : List (List ℕ)). record { segments = all; slash = slash }) (append_assoc path.segments (segment ∷ []) (next ∷ segments))

-- ---- what is written is read back

decoded_parts : (path : PathParts) (segment : List ℕ) (segments : List (List ℕ)) → path.segments ≡ segment ∷ segments → Every IsSegment (segment ∷ segments)
    → path_of (escaped_parts (segment ∷ segments) path.slash) ≡ fitting path
decoded_parts path segment segments is are =
    let rest = behind segment segments path.slash in
    let parts = text_of segment ∷ (map text_of segments ++ last_part path.slash) in
    let split : parts_of rest ≡ parts = parts_behind segment segments path.slash in
    let bad : bad_escape_from 0 (47 ∷ rest) ≡ None = fine_slash rest (fine_behind segment segments path.slash) 0 in
    let texts : not_text_from 1 (parts_of rest) ≡ None = ap (not_text_from 1) split ∙ texts_fine parts (segments_are_text (segment ∷ segments) path.slash are) 1 in
    let whole : path ≡ folded top_path (map percent_decode (parts_of rest)) = sym (
    ap (λ (ps : List (List ℕ)). folded top_path (map percent_decode ps)) split
    ∙ ap (folded top_path) (segments_decoded (segment ∷ segments) path.slash are)
    ∙ all_folded top_path segment segments path.slash are
    ∙ ap (λ (all : List (List ℕ)). record { segments = all; slash = path.slash }) (sym is)) in
    ap path_of (behind_slash segment segments path.slash) ∙ read_whole (47 ∷ rest) rest path refl (sym bad) texts whole

top_text : path_of (47 ∷ []) ≡ Ok top_path
top_text = read_whole (47 ∷ []) [] top_path refl (sym (fine_slash [] fine-nil 0)) (texts_fine ([] ∷ []) (last_is_text true) 1) (ap (λ (part : List ℕ). folded top_path (part ∷ [])) (sym decodes-nil))

fitting_path : (path : PathParts) → length (escaped path) ≤ 1024 → fitting path ≡ Ok path
fitting_path path short = cond-true _ _ _ (le-leb (length (escaped path)) 1024 short)

reads_parts : (segments : List (List ℕ)) (path : PathParts) → path.segments ≡ segments → IsPath path → path_of (escaped_parts segments path.slash) ≡ Ok path
reads_parts [] path is valid =
    top_text ∙ ap (λ (flag : Bool). Ok (record { segments = []; slash = flag })) (sym (valid.top is)) ∙ ap (λ (all : List (List ℕ)). Ok (record { segments = all; slash = path.slash })) (sym is)
reads_parts (segment ∷ segments) path is valid =
    decoded_parts path segment segments is (subst (Every IsSegment) is valid.segments) ∙ fitting_path path valid.short

pub read_back : (path : PathParts) → IsPath path → path_of (escaped path) ≡ Ok path
read_back path valid = reads_parts path.segments path refl valid

-- ---- what is read is a path

pub record IsBegun (path : PathParts) : Type 0 where
  pub segments : Every IsSegment path.segments
  pub top : path.segments ≡ [] → path.slash ≡ true

every_take : {X : Type 0} (P : X → Type 0) (n : ℕ) (xs : List X) → Every P xs → Every P (take n xs)
every_take P zero xs are = tt
every_take P (suc n) [] are = tt
every_take P (suc n) (x ∷ xs) are = (are.0, every_take P n xs are.1)

every_push : {X : Type 0} (P : X → Type 0) (xs : List X) (y : X) → Every P xs → P y → Every P (xs ++ y ∷ [])
every_push P [] y are is = (is, tt)
every_push P (x ∷ xs) y are is = (are.0, every_push P xs y are.1 is)

pushed_some : (xs : List (List ℕ)) (y : List ℕ) → xs ++ y ∷ [] ≡ [] → ⊥
pushed_some [] y none = cc
pushed_some (x ∷ xs) y none = cc

or_parts : (x y : Bool) → (x || y) ≡ false → (x ≡ false) × (y ≡ false)
or_parts true y e = cc
or_parts false y e = (refl, e)

other_than : (a b : List ℕ) → bytes_eq a b ≡ false → a ≢ b
other_than a b test is = let h : false ≡ true = sym test ∙ (bytes_eq-Decides a b).1 is in cc

begun_part : (path : PathParts) (part : List ℕ) → IsUtf8 part → IsBegun path → IsBegun (with_part path part)
begun_part path part valid begun =
    cond_both (is_here part) (record { segments = path.segments; slash = true })
    (if is_up part then record { segments = take (length path.segments - 1) path.segments; slash = true } else record { segments = path.segments ++ part ∷ []; slash = false })
    IsBegun
    (λ here. record { segments = begun.segments; top = λ none. refl })
    (λ elsewhere. cond_both (is_up part) (record { segments = take (length path.segments - 1) path.segments; slash = true }) (record { segments = path.segments ++ part ∷ []; slash = false }) IsBegun
    (λ up. record { segments = every_take IsSegment (length path.segments - 1) path.segments begun.segments; top = λ none. refl })
    (λ below.
    let here = or_parts (bytes_eq part []) (bytes_eq part (46 ∷ [])) elsewhere in
    record {
      segments = every_push IsSegment path.segments part begun.segments (record { utf8 = valid; not_here = other_than part [] here.0; not_dot = other_than part (46 ∷ []) here.1; not_up = other_than part (46 ∷ 46 ∷ []) below });
      top = λ none. absurd (pushed_some path.segments part none);
    }))

begun_parts : (path : PathParts) (parts : List (List ℕ)) (at : ℕ) → not_text_from at parts ≡ None → IsBegun path → IsBegun (folded path (map percent_decode parts))
unfolding not_text_from
begun_parts path [] at fine begun = begun
begun_parts path (part ∷ parts) at fine begun =
    elim (cases_Bool (is_utf8 (percent_decode part))) [
      | inl text ↦
          begun_parts (with_part path (percent_decode part)) parts (at + (length part + 1)) (sym (cond-true _ _ _ text) ∙ fine)
          (begun_part path (percent_decode part) (IsUtf8-from_is_utf8 _ text) begun)
      | inr other ↦ let h : Some at ≡ None = sym (cond-false _ _ _ other) ∙ fine in cc
    ]

begun_top : IsBegun top_path
begun_top = record { segments = tt; top = λ none. refl }

fitting_is : (path found : PathParts) → IsBegun path → fitting path ≡ Ok found → IsPath found
fitting_is path found begun is =
    elim (cases_Bool (leb (length (escaped path)) 1024)) [
      | inl short ↦
          let h : Ok path ≡ Ok found = sym (cond-true _ _ _ short) ∙ is in
          let same : path ≡ found = cc in
          subst IsPath same (record { segments = begun.segments; top = begun.top; short = leb-true (length (escaped path)) 1024 short })
      | inr long ↦ let h : Err (TooLong (min (length (escaped path)) 18446744073709551615)) ≡ Ok found = sym (cond-false _ _ _ long) ∙ is in cc
    ]

texts_are : (not_text : Option ℕ) (at : ℕ) (parts : List (List ℕ)) (found : PathParts) → not_text_from at parts ≡ not_text
    → unless_bad None not_text (folded top_path (map percent_decode parts)) ≡ Ok found → IsPath found
texts_are (Some place) at parts found is read = cc
texts_are None at parts found is read = fitting_is _ found (begun_parts top_path parts at is begun_top) read

unless_bad_is : (bad : Option ℕ) (at : ℕ) (parts : List (List ℕ)) (found : PathParts) → unless_bad bad (not_text_from at parts) (folded top_path (map percent_decode parts)) ≡ Ok found → IsPath found
unless_bad_is (Some place) at parts found is = cc
unless_bad_is None at parts found is = texts_are (not_text_from at parts) at parts found refl is

pub read_path : (text : List ℕ) (found : PathParts) → path_of text ≡ Ok found → IsPath found
read_path [] found is = cc
read_path (first ∷ rest) found is =
    elim (cases_Bool (eqb first 47)) [
      | inl slash ↦ unless_bad_is (bad_escape_from 0 (first ∷ rest)) 1 (parts_of rest) found (sym (cond-true _ _ _ slash) ∙ is)
      | inr other ↦ let h : Err NotRooted ≡ Ok found = sym (cond-false _ _ _ other) ∙ is in cc
    ]

-- ---- what stands below a path

front_none : (xs ys : List (List ℕ)) → xs ++ ys ≡ [] → xs ≡ []
front_none [] ys none = refl
front_none (x ∷ xs) ys none = cc

pub longer_longer : (xs ys zs : List (List ℕ)) → IsLonger xs ys → IsLonger ys zs → IsLonger xs zs
longer_longer xs ys zs one two = record {
  rest = two.rest ++ one.rest;
  split = one.split ∙ ap (λ (l : List (List ℕ)). l ++ one.rest) two.split ∙ append_assoc zs two.rest one.rest;
  some = λ none. two.some (front_none two.rest one.rest none);
}

pub longer_differs : (xs ys : List (List ℕ)) → IsLonger xs ys → xs ≢ ys
longer_differs xs ys longer same = let h = deeper_from_longer xs ys longer in let e : length xs ≡ length ys = ap length same in omega arith
