-- One text has one record, and is refused for no reason.
use Rattle.std.proofs.Common.{◌≡◌, ℕ, suc, ◌+◌, ◌^◌, ◌<◌, ◌≤◌, Bool, true, false, List, [], ◌∷◌, ◌++◌, length, take, drop, refl, sym, ap, subst, ◌∙◌, inl, inr, arith, length-append, append_assoc}
use Rattle.std.specs.Int.{w16, w64, from_be_bytes}
use Rattle.std.proofs.lemmas.Nat.{from_be_bytes-to_be_bytes_2, from_be_bytes-to_be_bytes_8}
use Rattle.std.proofs.lemmas.List.{take_at, drop_at}
use Rattle.dav_text.specs.Path.{PathParts, IsPath, escaped}
use Rattle.dav_text.specs.declared.tag.Seen.{Seen}
use Rattle.dav_text.specs.declared.tag.Seen.TheVariants.{Unknown, Absent, Untagged, Tagged}
use Rattle.dav_store.specs.declared.body_id.BodyId.{BodyId}
use Rattle.dav_index.specs.Records.{two_bytes, four_bytes, eight_bytes, path_text, body_text, seen_text, flags_of, bit_of, text_of, IsBody, IsNoted, IsRecord}
use Rattle.dav_index.specs.Faults.{Shape, named_path, entry_path, a_body, a_seen, a_number, a_byte, Spans, IsRight, IsCutOff, IsWrong, IsRefusedFrom, IsRefused, IsSized, IsMarked}
use Rattle.dav_index.specs.declared.fault.RecordFault.{RecordFault}
use Rattle.dav_index.specs.declared.record.Record.{Record}
use Rattle.dav_index.specs.declared.record.Record.TheVariants.{Forgot, Closed, Sent, Lost, Dropped}
use Rattle.dav_index.proofs.FieldLemmas.{length-two_bytes, length-four_bytes, length-eight_bytes}
use Rattle.dav_index.proofs.PathTexts.{same_text}
use Rattle.dav_index.proofs.WrongLemmas.{same_first, four_injective, length-body_text}

-- ---- fronts

-- fronts of one length are one
pub cut_same : (a b x y : List ℕ) → length a ≡ length b → a ++ x ≡ b ++ y → (a ≡ b) × (x ≡ y)
cut_same a b x y size e = (
  sym (take_at a x (length b) size) ∙ ap (take (length b)) e ∙ take_at b y (length b) refl,
  sym (drop_at a x (length b) size) ∙ ap (drop (length b)) e ∙ drop_at b y (length b) refl,
)

two_injective : (a b : ℕ) → a < 2 ^ 16 → b < 2 ^ 16 → two_bytes a ≡ two_bytes b → a ≡ b
unfolding two_bytes
two_injective a b fits same e =
    sym (from_be_bytes-to_be_bytes_2 a fits) ∙ ap (from_be_bytes w16) e ∙ from_be_bytes-to_be_bytes_2 b same

eight_injective : (a b : ℕ) → a < 2 ^ 64 → b < 2 ^ 64 → eight_bytes a ≡ eight_bytes b → a ≡ b
unfolding eight_bytes
eight_injective a b fits same e =
    sym (from_be_bytes-to_be_bytes_8 a fits) ∙ ap (from_be_bytes w64) e ∙ from_be_bytes-to_be_bytes_8 b same

pub two_front : (a b : ℕ) (x y : List ℕ) → a < 65536 → b < 65536 → two_bytes a ++ x ≡ two_bytes b ++ y → (a ≡ b) × (x ≡ y)
two_front a b x y fits same e =
    let cut = cut_same (two_bytes a) (two_bytes b) x y (length-two_bytes a ∙ sym (length-two_bytes b)) e in
    (two_injective a b fits same cut.0, cut.1)

pub four_front : (a b : ℕ) (x y : List ℕ) → a < 2 ^ 32 → b < 2 ^ 32 → four_bytes a ++ x ≡ four_bytes b ++ y → (a ≡ b) × (x ≡ y)
four_front a b x y fits same e =
    let cut = cut_same (four_bytes a) (four_bytes b) x y (length-four_bytes a ∙ sym (length-four_bytes b)) e in
    (four_injective a b fits same cut.0, cut.1)

pub eight_front : (a b : ℕ) (x y : List ℕ) → a < 2 ^ 64 → b < 2 ^ 64 → eight_bytes a ++ x ≡ eight_bytes b ++ y → (a ≡ b) × (x ≡ y)
eight_front a b x y fits same e =
    let cut = cut_same (eight_bytes a) (eight_bytes b) x y (length-eight_bytes a ∙ sym (length-eight_bytes b)) e in
    (eight_injective a b fits same cut.0, cut.1)

sized_front : (a b x y : List ℕ) → length a < 65536 → length b < 65536 → (two_bytes (length a) ++ a) ++ x ≡ (two_bytes (length b) ++ b) ++ y → (a ≡ b) × (x ≡ y)
sized_front a b x y fits same e =
    let cut = two_front (length a) (length b) (a ++ x) (b ++ y) fits same (sym (append_assoc (two_bytes (length a)) a x) ∙ e ∙ append_assoc (two_bytes (length b)) b y) in
    cut_same a b x y cut.0 cut.1

short_path : (path : PathParts) → IsPath path → length (escaped path) < 65536
short_path path is = let short : length (escaped path) ≤ 1024 = is.short in omega arith

pub path_front : (p q : PathParts) (x y : List ℕ) → IsPath p → IsPath q → path_text p ++ x ≡ path_text q ++ y → (p ≡ q) × (x ≡ y)
path_front p q x y left right e =
    let cut = sized_front (escaped p) (escaped q) x y (short_path p left) (short_path q right) e in
    (same_text p q left right cut.0, cut.1)

-- ---- records of one text

same_body : (a b : BodyId) → a.file ≡ b.file → a.len ≡ b.len → a.sum ≡ b.sum → a ≡ b
same_body a b file len sum = λ i. record { file = file i; len = len i; sum = sum i }

body_same : (a b : BodyId) → IsBody a → IsBody b → body_text a ≡ body_text b → a ≡ b
body_same a b left right e =
    let first = four_front a.file b.file (eight_bytes a.len ++ a.sum) (eight_bytes b.len ++ b.sum) left.file_fits right.file_fits
    (sym (append_assoc (four_bytes a.file) (eight_bytes a.len) a.sum) ∙ e ∙ append_assoc (four_bytes b.file) (eight_bytes b.len) b.sum) in
    let second = eight_front a.len b.len a.sum b.sum left.len_fits right.len_fits first.1 in
    same_body a b first.0 second.0 second.1

seen_same : (a b : Seen) → IsNoted a → IsNoted b → seen_text a ≡ seen_text b → a ≡ b
seen_same Unknown b left right e = absurd left
seen_same Absent Unknown left right e = absurd right
seen_same Absent Absent left right e = refl
seen_same Absent Untagged left right e = absurd (omega (arith, same_first 1 2 [] [] e))
seen_same Absent (Tagged t) left right e = absurd (omega (arith, same_first 1 3 [] (length t ∷ t) e))
seen_same Untagged Unknown left right e = absurd right
seen_same Untagged Absent left right e = absurd (omega (arith, same_first 2 1 [] [] e))
seen_same Untagged Untagged left right e = refl
seen_same Untagged (Tagged t) left right e = absurd (omega (arith, same_first 2 3 [] (length t ∷ t) e))
seen_same (Tagged s) Unknown left right e = absurd right
seen_same (Tagged s) Absent left right e = absurd (omega (arith, same_first 3 1 (length s ∷ s) [] e))
seen_same (Tagged s) Untagged left right e = absurd (omega (arith, same_first 3 2 (length s ∷ s) [] e))
seen_same (Tagged s) (Tagged t) left right e = ap (λ (x : List ℕ). Tagged x) (ap (drop 2) e)

flags_same : (a b c d : Bool) → flags_of a b ≡ flags_of c d → (a ≡ c) × (b ≡ d)
flags_same true true true true e = (refl, refl)
flags_same true true true false e = absurd (omega (arith, e))
flags_same true true false true e = absurd (omega (arith, e))
flags_same true true false false e = absurd (omega (arith, e))
flags_same true false true true e = absurd (omega (arith, e))
flags_same true false true false e = (refl, refl)
flags_same true false false true e = absurd (omega (arith, e))
flags_same true false false false e = absurd (omega (arith, e))
flags_same false true true true e = absurd (omega (arith, e))
flags_same false true true false e = absurd (omega (arith, e))
flags_same false true false true e = (refl, refl)
flags_same false true false false e = absurd (omega (arith, e))
flags_same false false true true e = absurd (omega (arith, e))
flags_same false false true false e = absurd (omega (arith, e))
flags_same false false false true e = absurd (omega (arith, e))
flags_same false false false false e = (refl, refl)

bits_same : (a b : Bool) → bit_of a ≡ bit_of b → a ≡ b
bits_same true true e = refl
bits_same true false e = absurd (omega (arith, e))
bits_same false true e = absurd (omega (arith, e))
bits_same false false e = refl

same_kind : (a b : ℕ) (x y : List ℕ) → a ∷ x ≡ b ∷ y → (a ≡ b → ⊥) → ⊥
same_kind a b x y e differ = differ (same_first a b x y e)

forgot_same : (p q : PathParts) (l b m c : Bool) → IsPath p → IsPath q → path_text p ++ flags_of l b ∷ [] ≡ path_text q ++ flags_of m c ∷ [] → Forgot p l b ≡ Forgot q m c
forgot_same p q l b m c left right e =
    let cut = path_front p q (flags_of l b ∷ []) (flags_of m c ∷ []) left right e in
    let flags = flags_same l b m c (same_first (flags_of l b) (flags_of m c) [] [] cut.1) in
    λ i. Forgot (cut.0 i) (flags.0 i) (flags.1 i)

closed_same : (p q : PathParts) (k j : BodyId) → IsPath p → IsPath q → IsBody k → IsBody j → path_text p ++ body_text k ≡ path_text q ++ body_text j → Closed p k ≡ Closed q j
closed_same p q k j left right mine other e =
    let cut = path_front p q (body_text k) (body_text j) left right e in
    let body = body_same k j mine other cut.1 in
    λ i. Closed (cut.0 i) (body i)

sent_same : (p q : PathParts) (f g : ℕ) (s t : Seen) → IsPath p → IsPath q → f < 2 ^ 32 → g < 2 ^ 32 → IsNoted s → IsNoted t
    → (path_text p ++ four_bytes f) ++ seen_text s ≡ (path_text q ++ four_bytes g) ++ seen_text t → Sent p f s ≡ Sent q g t
sent_same p q f g s t left right mine other noted known e =
    let cut = path_front p q (four_bytes f ++ seen_text s) (four_bytes g ++ seen_text t) left right
    (sym (append_assoc (path_text p) (four_bytes f) (seen_text s)) ∙ e ∙ append_assoc (path_text q) (four_bytes g) (seen_text t)) in
    let file = four_front f g (seen_text s) (seen_text t) mine other cut.1 in
    let seen = seen_same s t noted known file.1 in
    λ i. Sent (cut.0 i) (file.0 i) (seen i)

lost_same : (n m : ℕ) (p q : PathParts) (t u : Bool) → n < 2 ^ 32 → m < 2 ^ 32 → IsPath p → IsPath q
    → (four_bytes n ++ path_text p) ++ bit_of t ∷ [] ≡ (four_bytes m ++ path_text q) ++ bit_of u ∷ [] → Lost n p t ≡ Lost m q u
lost_same n m p q t u mine other left right e =
    let number = four_front n m (path_text p ++ bit_of t ∷ []) (path_text q ++ bit_of u ∷ []) mine other
    (sym (append_assoc (four_bytes n) (path_text p) (bit_of t ∷ [])) ∙ e ∙ append_assoc (four_bytes m) (path_text q) (bit_of u ∷ [])) in
    let cut = path_front p q (bit_of t ∷ []) (bit_of u ∷ []) left right number.1 in
    let bit = bits_same t u (same_first (bit_of t) (bit_of u) [] [] cut.1) in
    λ i. Lost (number.0 i) (cut.0 i) (bit i)

pub record_same : (a b : Record) → IsRecord a → IsRecord b → text_of a ≡ text_of b → a ≡ b
record_same (Forgot p l b) (Forgot p2 l2 b2) left right e = forgot_same p p2 l b l2 b2 left right (ap (drop 1) e)
record_same (Forgot p l b) (Closed p2 k2) left right e = absurd (same_kind 2 3 (path_text p ++ flags_of l b ∷ []) (path_text p2 ++ body_text k2) e (λ q. absurd (omega (arith, q))))
record_same (Forgot p l b) (Sent p2 f2 s2) left right e = absurd (same_kind 2 4 (path_text p ++ flags_of l b ∷ []) ((path_text p2 ++ four_bytes f2) ++ seen_text s2) e (λ q. absurd (omega (arith, q))))
record_same (Forgot p l b) (Lost n2 p2 t2) left right e = absurd (same_kind 2 5 (path_text p ++ flags_of l b ∷ []) ((four_bytes n2 ++ path_text p2) ++ bit_of t2 ∷ []) e (λ q. absurd (omega (arith, q))))
record_same (Forgot p l b) (Dropped n2) left right e = absurd (same_kind 2 6 (path_text p ++ flags_of l b ∷ []) (four_bytes n2) e (λ q. absurd (omega (arith, q))))
record_same (Closed p k) (Forgot p2 l2 b2) left right e = absurd (same_kind 3 2 (path_text p ++ body_text k) (path_text p2 ++ flags_of l2 b2 ∷ []) e (λ q. absurd (omega (arith, q))))
record_same (Closed p k) (Closed p2 k2) left right e = closed_same p p2 k k2 left.0.is_path right.0.is_path left.1 right.1 (ap (drop 1) e)
record_same (Closed p k) (Sent p2 f2 s2) left right e = absurd (same_kind 3 4 (path_text p ++ body_text k) ((path_text p2 ++ four_bytes f2) ++ seen_text s2) e (λ q. absurd (omega (arith, q))))
record_same (Closed p k) (Lost n2 p2 t2) left right e = absurd (same_kind 3 5 (path_text p ++ body_text k) ((four_bytes n2 ++ path_text p2) ++ bit_of t2 ∷ []) e (λ q. absurd (omega (arith, q))))
record_same (Closed p k) (Dropped n2) left right e = absurd (same_kind 3 6 (path_text p ++ body_text k) (four_bytes n2) e (λ q. absurd (omega (arith, q))))
record_same (Sent p f s) (Forgot p2 l2 b2) left right e = absurd (same_kind 4 2 ((path_text p ++ four_bytes f) ++ seen_text s) (path_text p2 ++ flags_of l2 b2 ∷ []) e (λ q. absurd (omega (arith, q))))
record_same (Sent p f s) (Closed p2 k2) left right e = absurd (same_kind 4 3 ((path_text p ++ four_bytes f) ++ seen_text s) (path_text p2 ++ body_text k2) e (λ q. absurd (omega (arith, q))))
record_same (Sent p f s) (Sent p2 f2 s2) left right e = sent_same p p2 f f2 s s2 left.0.is_path right.0.is_path left.1 right.1 left.2 right.2 (ap (drop 1) e)
record_same (Sent p f s) (Lost n2 p2 t2) left right e = absurd (same_kind 4 5 ((path_text p ++ four_bytes f) ++ seen_text s) ((four_bytes n2 ++ path_text p2) ++ bit_of t2 ∷ []) e (λ q. absurd (omega (arith, q))))
record_same (Sent p f s) (Dropped n2) left right e = absurd (same_kind 4 6 ((path_text p ++ four_bytes f) ++ seen_text s) (four_bytes n2) e (λ q. absurd (omega (arith, q))))
record_same (Lost n p t) (Forgot p2 l2 b2) left right e = absurd (same_kind 5 2 ((four_bytes n ++ path_text p) ++ bit_of t ∷ []) (path_text p2 ++ flags_of l2 b2 ∷ []) e (λ q. absurd (omega (arith, q))))
record_same (Lost n p t) (Closed p2 k2) left right e = absurd (same_kind 5 3 ((four_bytes n ++ path_text p) ++ bit_of t ∷ []) (path_text p2 ++ body_text k2) e (λ q. absurd (omega (arith, q))))
record_same (Lost n p t) (Sent p2 f2 s2) left right e = absurd (same_kind 5 4 ((four_bytes n ++ path_text p) ++ bit_of t ∷ []) ((path_text p2 ++ four_bytes f2) ++ seen_text s2) e (λ q. absurd (omega (arith, q))))
record_same (Lost n p t) (Lost n2 p2 t2) left right e = lost_same n n2 p p2 t t2 left.1 right.1 left.0.is_path right.0.is_path (ap (drop 1) e)
record_same (Lost n p t) (Dropped n2) left right e = absurd (same_kind 5 6 ((four_bytes n ++ path_text p) ++ bit_of t ∷ []) (four_bytes n2) e (λ q. absurd (omega (arith, q))))
record_same (Dropped n) (Forgot p2 l2 b2) left right e = absurd (same_kind 6 2 (four_bytes n) (path_text p2 ++ flags_of l2 b2 ∷ []) e (λ q. absurd (omega (arith, q))))
record_same (Dropped n) (Closed p2 k2) left right e = absurd (same_kind 6 3 (four_bytes n) (path_text p2 ++ body_text k2) e (λ q. absurd (omega (arith, q))))
record_same (Dropped n) (Sent p2 f2 s2) left right e = absurd (same_kind 6 4 (four_bytes n) ((path_text p2 ++ four_bytes f2) ++ seen_text s2) e (λ q. absurd (omega (arith, q))))
record_same (Dropped n) (Lost n2 p2 t2) left right e = absurd (same_kind 6 5 (four_bytes n) ((four_bytes n2 ++ path_text p2) ++ bit_of t2 ∷ []) e (λ q. absurd (omega (arith, q))))
record_same (Dropped n) (Dropped n2) left right e = ap (λ m. Dropped m) (four_injective n n2 left right (ap (drop 1) e))

-- ---- extents

sized_unique : (a b x y : List ℕ) → IsSized a → IsSized b → a ++ x ≡ b ++ y → (a ≡ b) × (x ≡ y)
sized_unique a b x y left right e =
    let cut = sized_front left.0 right.0 x y left.1 right.1 (ap (λ t. t ++ x) (sym left.2) ∙ e ∙ ap (λ t. t ++ y) right.2) in
    (left.2 ∙ ap (λ t. two_bytes (length t) ++ t) cut.0 ∙ sym right.2, cut.1)

marked_unique : (a b x y : List ℕ) → IsMarked a → IsMarked b → a ++ x ≡ b ++ y → (a ≡ b) × (x ≡ y)
marked_unique a b x y (inl left) (inl right) e = cut_same a b x y (ap length left.2 ∙ sym (ap length right.2)) e
marked_unique a b x y (inl left) (inr right) e =
    absurd (left.1 (same_first left.0 3 x ((length right.0 ∷ right.0) ++ y) (ap (λ t. t ++ x) (sym left.2) ∙ e ∙ ap (λ t. t ++ y) right.1)))
marked_unique a b x y (inr left) (inl right) e =
    absurd (right.1 (same_first right.0 3 y ((length left.0 ∷ left.0) ++ x) (ap (λ t. t ++ y) (sym right.2) ∙ sym e ∙ ap (λ t. t ++ x) left.1)))
marked_unique a b x y (inr left) (inr right) e =
    let whole : 3 ∷ length left.0 ∷ (left.0 ++ x) ≡ 3 ∷ length right.0 ∷ (right.0 ++ y) = ap (λ t. t ++ x) (sym left.1) ∙ e ∙ ap (λ t. t ++ y) right.1 in
    let size = same_first (length left.0) (length right.0) (left.0 ++ x) (right.0 ++ y) (ap (drop 1) whole) in
    cut_same a b x y (ap length left.1 ∙ ap (λ n. suc (suc n)) size ∙ sym (ap length right.1)) e

spans_unique : (shape : Shape) (a b x y : List ℕ) → Spans shape a → Spans shape b → a ++ x ≡ b ++ y → (a ≡ b) × (x ≡ y)
spans_unique named_path a b x y left right e = sized_unique a b x y left right e
spans_unique entry_path a b x y left right e = sized_unique a b x y left right e
spans_unique a_body a b x y left right e = cut_same a b x y (left ∙ sym right) e
spans_unique a_seen a b x y left right e = marked_unique a b x y left right e
spans_unique a_number a b x y left right e = cut_same a b x y (left ∙ sym right) e
spans_unique (a_byte most) a b x y left right e = cut_same a b x y (left ∙ sym right) e

seen_spans : (seen : Seen) → IsNoted seen → IsMarked (seen_text seen)
seen_spans Unknown is = absurd is
seen_spans Absent is = inl (1, (λ e. absurd (omega (arith, e))), refl)
seen_spans Untagged is = inl (2, (λ e. absurd (omega (arith, e))), refl)
seen_spans (Tagged tag) is = inr (tag, refl)

right_spans : (shape : Shape) (text : List ℕ) → IsRight shape text → Spans shape text
right_spans named_path text right = (escaped right.0, short_path right.0 right.1, right.2)
right_spans entry_path text right = (escaped right.0, short_path right.0 right.1.is_path, right.2)
right_spans a_body text right = ap length right.2 ∙ length-body_text right.0 right.1.sum_size
right_spans a_seen text right = subst IsMarked (sym right.2) (seen_spans right.0 right.1)
right_spans a_number text right = ap length right.2 ∙ length-four_bytes right.0
right_spans (a_byte most) text right = ap length right.2

-- ---- the text of a record

-- these fields, each with a value that it can have, and nothing more
abbrev pub AreRight : List Shape → List ℕ → Type 0
AreRight [] rest = rest ≡ []
AreRight (shape ∷ shapes) rest = (text : List ℕ) × (more : List ℕ) × (rest ≡ text ++ more) × IsRight shape text × AreRight shapes more

none_behind : (xs ys : List ℕ) → xs ++ ys ≡ [] → ys ≡ []
none_behind [] ys e = e
none_behind (x ∷ xs) ys e = absurd (let no : x ∷ (xs ++ ys) ≡ [] = e in cc)

with_nothing : (xs : List ℕ) → xs ≡ xs ++ []
with_nothing [] = refl
with_nothing (x ∷ xs) = ap (λ t. x ∷ t) (with_nothing xs)

not_cut : (shape : Shape) (rest text more : List ℕ) → rest ≡ text ++ more → IsRight shape text → IsCutOff shape rest → ⊥
not_cut shape rest text more split right cut =
    let parts = spans_unique shape text (rest ++ cut.lacking) (more ++ cut.lacking) [] (right_spans shape text right) cut.whole
    (sym (append_assoc text more cut.lacking) ∙ ap (λ t. t ++ cut.lacking) (sym split) ∙ with_nothing (rest ++ cut.lacking)) in
    cut.some (none_behind more cut.lacking parts.1)

not_wrong : (shape : Shape) (rest text more : List ℕ) → rest ≡ text ++ more → IsRight shape text → IsWrong shape rest → ⊥
not_wrong shape rest text more split right wrong =
    let parts = spans_unique shape text wrong.text more wrong.more (right_spans shape text right) wrong.whole (sym split ∙ wrong.split) in
    wrong.not_right (subst (IsRight shape) parts.0 right)

pub not_refused : (shapes : List Shape) (at : ℕ) (rest : List ℕ) (fault : RecordFault) → AreRight shapes rest → IsRefusedFrom shapes at rest fault → ⊥
not_refused [] at rest fault right refused = refused.0 right
not_refused (shape ∷ shapes) at rest fault right (inl cut) = not_cut shape rest right.0 right.1 right.2 right.3 cut.0
not_refused (shape ∷ shapes) at rest fault right (inr (inl wrong)) = not_wrong shape rest right.0 right.1 right.2 right.3 wrong.0
not_refused (shape ∷ shapes) at rest fault right (inr (inr later)) =
    let parts = spans_unique shape right.0 later.0 right.1 later.1 (right_spans shape right.0 right.3) (right_spans shape later.0 later.3) (sym right.2 ∙ later.2) in
    not_refused shapes (at + length later.0) later.1 fault (subst (AreRight shapes) parts.1 right.4) later.4

bit_small : (b : Bool) → bit_of b ≤ 1
bit_small true = omega arith
bit_small false = omega arith

flags_small : (l b : Bool) → flags_of l b ≤ 3
flags_small true true = omega arith
flags_small true false = omega arith
flags_small false true = omega arith
flags_small false false = omega arith

pub text_not_refused : (r : Record) (fault : RecordFault) → IsRecord r → IsRefused (text_of r) fault → ⊥
text_not_refused (Forgot p l b) fault is refused =
    not_refused (named_path ∷ a_byte 3 ∷ []) 1 (path_text p ++ flags_of l b ∷ []) fault
    (path_text p, flags_of l b ∷ [], refl, (p, is, refl), (flags_of l b ∷ [], [], refl, (flags_of l b, flags_small l b, refl), refl)) refused
text_not_refused (Closed p k) fault is refused =
    not_refused (entry_path ∷ a_body ∷ []) 1 (path_text p ++ body_text k) fault
    (path_text p, body_text k, refl, (p, is.0, refl), (body_text k, [], with_nothing (body_text k), (k, is.1, refl), refl)) refused
text_not_refused (Sent p f s) fault is refused =
    not_refused (entry_path ∷ a_number ∷ a_seen ∷ []) 1 ((path_text p ++ four_bytes f) ++ seen_text s) fault (
      path_text p,
      four_bytes f ++ seen_text s,
      append_assoc (path_text p) (four_bytes f) (seen_text s),
      (p, is.0, refl),
      (four_bytes f, seen_text s, refl, (f, is.1, refl), (seen_text s, [], with_nothing (seen_text s), (s, is.2, refl), refl)),
    ) refused
text_not_refused (Lost n p t) fault is refused =
    not_refused (a_number ∷ entry_path ∷ a_byte 1 ∷ []) 1 ((four_bytes n ++ path_text p) ++ bit_of t ∷ []) fault (
      four_bytes n,
      path_text p ++ bit_of t ∷ [],
      append_assoc (four_bytes n) (path_text p) (bit_of t ∷ []),
      (n, is.1, refl),
      (path_text p, bit_of t ∷ [], refl, (p, is.0, refl), (bit_of t ∷ [], [], refl, (bit_of t, bit_small t, refl), refl)),
    ) refused
text_not_refused (Dropped n) fault is refused =
    not_refused (a_number ∷ []) 1 (four_bytes n) fault (four_bytes n, [], with_nothing (four_bytes n), (n, is, refl), refl) refused

-- ---- lengths

length-path_text : (path : PathParts) → IsPath path → length (path_text path) ≤ 1026
length-path_text path is = let short : length (escaped path) ≤ 1024 = is.short in omega (arith, length-append (two_bytes (length (escaped path))) (escaped path), length-two_bytes (length (escaped path)))

length-seen_text : (seen : Seen) → IsNoted seen → length (seen_text seen) ≤ 130
length-seen_text Unknown is = absurd is
length-seen_text Absent is = omega arith
length-seen_text Untagged is = omega arith
length-seen_text (Tagged tag) is = let short : length tag ≤ 128 = is.short in omega arith

pub text_fits : (r : Record) → IsRecord r → length (text_of r) < 65536
text_fits (Forgot p l b) is = omega (arith, length-path_text p is, length-append (path_text p) (flags_of l b ∷ []))
text_fits (Closed p k) is = omega (arith, length-path_text p is.0.is_path, length-body_text k is.1.sum_size, length-append (path_text p) (body_text k))
text_fits (Sent p f s) is =
    omega (arith, length-path_text p is.0.is_path, length-four_bytes f, length-seen_text s is.2, length-append (path_text p ++ four_bytes f) (seen_text s), length-append (path_text p) (four_bytes f))
text_fits (Lost n p t) is =
    omega (arith, length-path_text p is.0.is_path, length-four_bytes n, length-append (four_bytes n ++ path_text p) (bit_of t ∷ []), length-append (four_bytes n) (path_text p))
text_fits (Dropped n) is = omega (arith, length-four_bytes n)
