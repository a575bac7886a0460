-- Each move of the machine keeps its names whole, up to what is owed.
use Rattle.std.proofs.Common.{◌≡◌, ℕ, Bool, true, false, ◌&&◌, ◌||◌, List, [], ◌∷◌, ◌++◌, refl, ap, sym, ◌∙◌, arith, subst, append_assoc, Option, Some, None}
use Rattle.std.specs.Prelude.{◌==◌, nat_le, cond, codes}
use Rattle.std.specs.List.{list_all}
use Rattle.std.proofs.lemmas.Bool.{eqb-true}
use Rattle.std.proofs.lemmas.Bool.Decides.{nat_tests}
use Rattle.dav_doc.specs.Bytes.{Kind, Less, Ampersand, Blank, Greater, DoubleQuote, SingleQuote, Equals, Slash, Colon, Exclamation, Letter, Digit, Other, kind, is_blank, is_digit, letter_kind, blank, Quote, Double, Single, Sort, Stays, Ends, Refers, Wrong, sort}
use Rattle.dav_doc.specs.Characters.{Owed, Whole, Owes, Special, is_ascii, owed_after, on_owed, owed_by}
use Rattle.dav_doc.specs.Names.{Name, written, is_name, Attribute, resolved, is_fine}
use Rattle.dav_doc.specs.Document.{Event, Tag, Target, X, Xm, Xml, is_target}
use Rattle.dav_doc.specs.References.{stands_for, may_stand}
use Rattle.dav_doc.specs.Words.{Want, Done, One_of, Space, Spaces, Either, want}
use Rattle.dav_doc.specs.Machine.{Open, Brackets, Zero, One, Two, Place, First, Before, Below, State, Begin, MarkSecond, MarkThird, Return, Opening, DeclareX, DeclareXm, DeclareXml, Declaring, Question, InTarget, TargetEnd, InInstruction, InstructionEnd, SectionWord, InSection, SectionReturn, Outside, Text, Markup, Mark, OpenComment, InComment, CommentDash, CommentClose, InReference, InName, InTag, EmptyTag, AtName, BeforeEquals, AfterEquals, InValue, ValueReference, InEnd, EndBlanks, Move, Bad, To, on, at, scope_of, begin_step, outside_step, epilog_step, ends_section, text_by, text_step, end_next, slash_step, letter_step, markup_step, section_next, section_begins, section_plain, section_step, question_first, question_step, target_step, declare_state, declare_step, name_next, opened, slashed, attribute_begins, tag_step, empty_step, name_step, equals_step, attribute_step, quote_step, value_step, reference_step, value_reference_step, end_step, step, Ran, gives, move_on, run}
use Rattle.dav_doc.proofs.Meaning.{is_front, IsSound}
use Rattle.dav_doc.proofs.KindFacts.{IsKind, is_kind, and_both}
use Rattle.dav_doc.proofs.Sounding.{LeadsBy, grows}
use Rattle.dav_doc.proofs.TagSounding.{leads}
use Rattle.dav_doc.proofs.Tokens.{is_blank_kind, steps_stand}
use Rattle.dav_doc.proofs.Reading.{owed-append, Fair, fair_after, is_wide}
use Rattle.dav_doc.proofs.Whole.{IsWhole, all_later, rest_whole, quiet, AreWhole, PlaceWhole, TagWhole, ascii_words, Kept}
use Rattle.dav_doc.proofs.ReferenceBytes.{reference_ascii}
use Rattle.dav_doc.proofs.Living.{tag_more, stand_completes}

-- Bytes past ASCII are letters.
skip : (x : Bool) (k m r : Kind) → x ≡ false → m ≡ r → cond x k m ≡ r
skip x k m r h g = ap (λ z. cond z k m) h ∙ g

neither : (x y : Bool) → x ≡ false → y ≡ false → (x || y) ≡ false
neither x y h g = ap (λ z. z || y) h ∙ g

last_holds : (x y : Bool) → y ≡ true → (x || y) ≡ true
last_holds true y h = refl
last_holds false y h = h

pub wide_not : (b c : ℕ) → is_wide b ≡ true → is_wide c ≡ false → (b == c) ≡ false
wide_not b c h g = grind (arith, nat_tests)

pub wide_letter : (b : ℕ) → is_wide b ≡ true → kind b ≡ Letter
wide_letter b h =
    skip (b == 60) Less _ Letter (wide_not b 60 h refl) (skip (b == 38) Ampersand _ Letter (wide_not b 38 h refl) (
    skip (is_blank b) Blank _ Letter
    (neither _ (b == 13) (neither _ (b == 10) (neither (b == 32) (b == 9) (wide_not b 32 h refl) (wide_not b 9 h refl)) (wide_not b 10 h refl)) (wide_not b 13 h refl)) (
    skip (b == 62) Greater _ Letter (wide_not b 62 h refl) (skip (b == 34) DoubleQuote _ Letter (wide_not b 34 h refl) (
    skip (b == 39) SingleQuote _ Letter (wide_not b 39 h refl) (skip (b == 61) Equals _ Letter (wide_not b 61 h refl) (
    skip (b == 47) Slash _ Letter (wide_not b 47 h refl) (skip (b == 58) Colon _ Letter (wide_not b 58 h refl) (
    skip (b == 33) Exclamation _ Letter (wide_not b 33 h refl)
    (ap (λ z. cond z Letter (cond (is_digit b) Digit Other)) (last_holds _ (nat_le 128 b) h)))))))))))

narrow_by : (b : ℕ) (x : Bool) → is_wide b ≡ x → letter_kind (kind b) ≡ false → is_wide b ≡ false
narrow_by b true e h = let f : true ≡ false = sym (ap letter_kind (wide_letter b e)) ∙ h in cc
narrow_by b false e h = e

pub ascii_narrow : (b : ℕ) → is_ascii b ≡ true → is_wide b ≡ false
ascii_narrow b h = grind (arith, nat_tests)

-- a byte comes to what is owed, and leaves what is owed after it
pub record Comes (o : Owed) (b : ℕ) (n : Owed) : Type 0 where
  pub fair : Fair o
  pub after : owed_after o b ≡ Some n

-- a byte of this kind comes where nothing is owed, and leaves nothing, unless it is a letter
abbrev pub Calm : Owed → Owed → Kind → Type 0
Calm o n k = letter_kind k ≡ false → (o ≡ Whole) × (n ≡ Whole)

calm : (o n : Owed) (b : ℕ) → Comes o b n → Calm o n (kind b)
calm o n b c h = quiet o n b c.fair (narrow_by b (is_wide b) refl h) c.after

calm_at : (o n : Owed) (b x : ℕ) → Comes o b n → is_wide x ≡ false → (b == x) ≡ true → n ≡ Whole
calm_at o n b x c h e = (quiet o n b c.fair (ap is_wide (eqb-true b x e) ∙ h) c.after).1

calm_blank : (o n : Owed) (b : ℕ) → Comes o b n → blank b ≡ true → n ≡ Whole
calm_blank o n b c h = (calm o n b c (ap letter_kind (is_blank_kind (kind b) h))).1

more_byte : (s : List ℕ) (o n : Owed) (b : ℕ) → owed_by s Whole ≡ Some o → owed_after o b ≡ Some n → owed_by (s ++ (b ∷ [])) Whole ≡ Some n
more_byte s o n b h g = owed-append s (b ∷ []) Whole ∙ ap (λ x. on_owed x (owed_by (b ∷ []))) h ∙ ap (λ x. on_owed x (owed_by [])) g

first_byte : (o n : Owed) (b : ℕ) → o ≡ Whole → owed_after o b ≡ Some n → owed_by (b ∷ []) Whole ≡ Some n
first_byte o n b h g = more_byte [] Whole n b refl (ap (λ z. owed_after z b) (sym h) ∙ g)

-- a move keeps what a state keeps
abbrev pub KeptBy : Owed → Move → Type 0
KeptBy n Bad = Unit {0}
KeptBy n (To st e) = Kept st n

on_kept : (n : Owed) (x : Bool) (m k : Move) → (x ≡ true → KeptBy n m) → (x ≡ false → KeptBy n k) → KeptBy n (on x m k)
on_kept n true m k f g = f refl
on_kept n false m k f g = g refl

on_or_bad : (n : Owed) (x : Bool) (m : Move) → (x ≡ true → KeptBy n m) → KeptBy n (on x m Bad)
on_or_bad n true m f = f refl
on_or_bad n false m f = tt

text_kept : (os : List Open) (m : Brackets) (n : Owed) → AreWhole os → n ≡ Whole → Kept (Text os m) n
text_kept [] m n w e = e
text_kept (x ∷ os) m n w e = w

at_kept : (p : Place) (n : Owed) → PlaceWhole p → n ≡ Whole → Kept (at p) n
at_kept First n w e = e
at_kept Before n w e = e
at_kept (Below os) n w e = text_kept os Zero n w e

-- The first bytes.
owed_at : (o a n : Owed) (b x : ℕ) → owed_after o b ≡ Some n → o ≡ a → (b == x) ≡ true → owed_after a x ≡ Some n
owed_at o a n b x h e f = sym (ap (owed_after a) (eqb-true b x f)) ∙ ap (λ z. owed_after z b) (sym e) ∙ h

owed_is : (a n : Owed) → Some a ≡ Some n → n ≡ a
owed_is a n h = let e : a ≡ n = cc in sym e

begin_kept : (o n : Owed) (b : ℕ) (k : Kind) → Calm o n k → KeptBy n (begin_step b k)
begin_kept o n b Less c = (tt, (c refl).1)
begin_kept o n b Blank c = (c refl).1
begin_kept o n b k c = tt

outside_kept : (o n : Owed) (b : ℕ) (k : Kind) → Calm o n k → KeptBy n (outside_step b k)
outside_kept o n b Less c = (tt, (c refl).1)
outside_kept o n b Blank c = (c refl).1
outside_kept o n b k c = tt

epilog_kept : (o n : Owed) (b : ℕ) (k : Kind) → Calm o n k → KeptBy n (epilog_step b k)
epilog_kept o n b Less c = (tt, (c refl).1)
epilog_kept o n b Blank c = (c refl).1
epilog_kept o n b k c = tt

-- Text.
text_by_kept : (n : Owed) (x : Open) (os : List Open) (m : Brackets) (b : ℕ) (y : Bool) → AreWhole (x ∷ os) → KeptBy n (text_by x os m b y)
text_by_kept n x os m b true w = tt
text_by_kept n x os m b false w = w

text_step_kept : (o n : Owed) (x : Open) (os : List Open) (m : Brackets) (b : ℕ) (k : Kind) → AreWhole (x ∷ os) → Calm o n k → KeptBy n (text_step x os m b k)
text_step_kept o n x os m b Less w c = (w, (c refl).1)
text_step_kept o n x os m b Ampersand w c = (w, (c refl).1)
text_step_kept o n x os m b Blank w c =
    on_kept n (b == 13) _ _ (λ e. (w, (c refl).1)) (λ e. text_by_kept n x os m b (ends_section m Blank) w)
text_step_kept o n x os m b k w c = text_by_kept n x os m b (ends_section m k) w

-- Markup.
end_kept : (n : Owed) (x : Open) (os : List Open) (came left : List ℕ) → AreWhole (x ∷ os) → written x.name ≡ came ++ left → owed_by came Whole ≡ Some n
    → Kept (end_next x os came left) n
end_kept n x os came [] w e h = (w.1, sym (owed_is n Whole (rest_whole x.name came [] n e w.0 h)))
end_kept n x os came (c ∷ left) w e h = (w, h)

slash_kept : (n : Owed) (p : Place) → PlaceWhole p → n ≡ Whole → KeptBy n (slash_step p)
slash_kept n First w e = tt
slash_kept n Before w e = tt
slash_kept n (Below []) w e = tt
slash_kept n (Below (x ∷ os)) w e = end_kept n x os [] (written x.name) w refl (ap (λ (z : Owed). Some z) (sym e))

letter_kept : (n : Owed) (p : Place) (b : ℕ) → PlaceWhole p → owed_by (b ∷ []) Whole ≡ Some n → KeptBy n (letter_step p b)
letter_kept n First b w h = (tt, h)
letter_kept n Before b w h = (tt, h)
letter_kept n (Below []) b w h = tt
letter_kept n (Below (x ∷ os)) b w h = (w, h)

markup_kept : (o n : Owed) (p : Place) (b : ℕ) (k : Kind) → PlaceWhole p → o ≡ Whole → Comes o b n → Calm o n k → KeptBy n (markup_step p b k)
markup_kept o n p b Letter w e c q = letter_kept n p b w (first_byte o n b e c.after)
markup_kept o n p b Slash w e c q = slash_kept n p w (q refl).1
markup_kept o n p b Exclamation w e c q = (w, (q refl).1)
markup_kept o n p b k w e c q = on_or_bad n (b == 63) _ (λ f. (w, (q refl).1))

section_next_kept : (n : Owed) (x : Open) (os : List Open) (came left : List ℕ) → AreWhole (x ∷ os) → n ≡ Whole → Kept (section_next x os came left) n
section_next_kept n x os came [] w e = w
section_next_kept n x os came (c ∷ left) w e = (w, e)

section_begins_kept : (o n : Owed) (p : Place) (b : ℕ) → PlaceWhole p → Comes o b n → KeptBy n (section_begins p b)
section_begins_kept o n First b w c = tt
section_begins_kept o n Before b w c = tt
section_begins_kept o n (Below []) b w c = tt
section_begins_kept o n (Below (x ∷ os)) b w c =
    on_or_bad n (b == 91) _ (λ e. section_next_kept n x os [] (codes "CDATA[") w (calm_at o n b 91 c refl e))

section_plain_kept : (n : Owed) (x : Open) (os : List Open) (m : Brackets) (b : ℕ) (y : Bool) → AreWhole (x ∷ os) → KeptBy n (section_plain x os m b y)
section_plain_kept n x os m b true w = w
section_plain_kept n x os m b false w = w

section_kept : (n : Owed) (x : Open) (os : List Open) (m : Brackets) (b : ℕ) (y z : Bool) → AreWhole (x ∷ os) → KeptBy n (section_step x os m b y z)
section_kept n x os Zero b true z w = w
section_kept n x os One b true z w = w
section_kept n x os Two b true z w = w
section_kept n x os Two b false true w = w
section_kept n x os Zero b false z w = section_plain_kept n x os Zero b (b == 13) w
section_kept n x os One b false z w = section_plain_kept n x os One b (b == 13) w
section_kept n x os Two b false false w = section_plain_kept n x os Two b (b == 13) w

-- a byte of the word CDATA
word_narrow : (came : List ℕ) (c : ℕ) (left : List ℕ) → codes "CDATA[" ≡ came ++ (c ∷ left) → is_wide c ≡ false
word_narrow came c left h =
    ascii_narrow c (and_both (is_ascii c) (list_all is_ascii left) (all_later is_ascii came (c ∷ left) (ap (list_all is_ascii) (sym h)))).0

-- Processing instructions and declarations.
target_kept : (o n : Owed) (p : Place) (t : Target) (b : ℕ) (k : Kind) → PlaceWhole p → Calm o n k → KeptBy n (target_step p t b k)
target_kept o n p t b Letter w q = w
target_kept o n p t b Digit w q = w
target_kept o n p t b Blank w q = on_or_bad n (is_target t) _ (λ e. w)
target_kept o n p t b k w q = on_or_bad n (b == 63) _ (λ e. on_or_bad n (is_target t) _ (λ f. (w, (q refl).1)))

question_first_kept : (n : Owed) (p : Place) (b : ℕ) (x : Bool) → PlaceWhole p → (x ≡ true → n ≡ Whole) → KeptBy n (question_first p b x)
question_first_kept n First b true w f = f refl
question_first_kept n First b false w f = tt
question_first_kept n Before b x w f = tt
question_first_kept n (Below os) b x w f = w

question_kept : (o n : Owed) (p : Place) (b : ℕ) (k : Kind) → PlaceWhole p → Comes o b n → KeptBy n (question_step p b k)
question_kept o n p b Letter w c = question_first_kept n p b (b == 120) w (λ e. calm_at o n b 120 c refl e)
question_kept o n p b k w c = tt

-- a byte that these words take is of ASCII, and so are the words behind it
pub record Wanted (b : ℕ) (v : Want) : Type 0 where
  pub narrow : is_wide b ≡ false
  pub words : ascii_words v ≡ true

one_of_two : (b x y : ℕ) (i j : Bool) → (b == x) ≡ i → (b == y) ≡ j → is_ascii x ≡ true → is_ascii y ≡ true → (i || j) ≡ true → is_wide b ≡ false
one_of_two b x y true j e f g h is = ap is_wide (eqb-true b x e) ∙ ascii_narrow x g
one_of_two b x y false true e f g h is = ap is_wide (eqb-true b y f) ∙ ascii_narrow y h
one_of_two b x y false false e f g h is = cc

wanted_by : (b : ℕ) (w v : Want) (x : Bool) (other : Option Want) → (x ≡ true → is_wide b ≡ false) → ascii_words w ≡ true → (other ≡ Some v → Wanted b v)
    → cond x (Some w) other ≡ Some v → Wanted b v
wanted_by b w v true other f h g e = let i : w ≡ v = cc in record { narrow = f refl; words = ap ascii_words (sym i) ∙ h }
wanted_by b w v false other f h g e = g e

wanted_none : (b : ℕ) (v : Want) → None ≡ Some v → Wanted b v
wanted_none b v h = cc

blank_narrow : (b : ℕ) → blank b ≡ true → is_wide b ≡ false
blank_narrow b h = narrow_by b (is_wide b) refl (ap letter_kind (is_blank_kind (kind b) h))

wanted : (w : Want) (b : ℕ) (v : Want) → ascii_words w ≡ true → want w b ≡ Some v → Wanted b v
wanted Done b v h e = cc
wanted (One_of x y w) b v h e =
    let p = and_both (is_ascii x && is_ascii y) (ascii_words w) h in
    let q = and_both (is_ascii x) (is_ascii y) p.0 in
    wanted_by b w v ((b == x) || (b == y)) None (one_of_two b x y (b == x) (b == y) refl refl q.0 q.1) p.1 (wanted_none b v) e
wanted (Space w) b v h e = wanted_by b w v (blank b) None (blank_narrow b) h (wanted_none b v) e
wanted (Spaces w) b v h e = wanted_by b (Spaces w) v (blank b) (want w b) (blank_narrow b) h (λ f. wanted w b v h f) e
wanted (Either x w u) b v h e =
    let p = and_both (is_ascii x) (ascii_words w && ascii_words u) h in
    let q = and_both (ascii_words w) (ascii_words u) p.1 in
    wanted_by b w v (b == x) (want u b) (λ f. ap is_wide (eqb-true b x f) ∙ ascii_narrow x p.0) q.0 (λ f. wanted u b v q.1 f) e

declare_state_kept : (n : Owed) (v : Want) → ascii_words v ≡ true → n ≡ Whole → Kept (declare_state v) n
declare_state_kept n Done h e = e
declare_state_kept n (One_of x y w) h e = (h, e)
declare_state_kept n (Space w) h e = (h, e)
declare_state_kept n (Spaces w) h e = (h, e)
declare_state_kept n (Either x w v) h e = (h, e)

declare_kept : (o n : Owed) (w : Want) (b : ℕ) (x : Option Want) → want w b ≡ x → ascii_words w ≡ true → Comes o b n → KeptBy n (declare_step x)
declare_kept o n w b None e h c = tt
declare_kept o n w b (Some v) e h c = let k = wanted w b v h e in declare_state_kept n v k.words (quiet o n b c.fair k.narrow c.after).1

-- References.
may_narrow : (r : List ℕ) (b : ℕ) → may_stand (r ++ (b ∷ [])) ≡ true → is_wide b ≡ false
may_narrow r b h =
    let k = stand_completes (r ++ (b ∷ [])) h in
    let t = k.first ∷ k.rest in
    let e : list_all is_ascii ((r ++ (b ∷ [])) ++ t) ≡ true = reference_ascii ((r ++ (b ∷ [])) ++ t) k.value (steps_stand k.value (r ++ (b ∷ [])) k.first k.rest k.steps) in
    let f : list_all is_ascii (r ++ (b ∷ t)) ≡ true = ap (list_all is_ascii) (sym (append_assoc r (b ∷ []) t)) ∙ e in
    ascii_narrow b (and_both (is_ascii b) (list_all is_ascii t) (all_later is_ascii r (b ∷ t) f)).0

reference_kept : (o n : Owed) (x : Open) (os : List Open) (r : List ℕ) (b : ℕ) (y : Option (List ℕ)) → AreWhole (x ∷ os) → Comes o b n
    → KeptBy n (reference_step x os (r ++ (b ∷ [])) y)
reference_kept o n x os r b (Some m) w c = w
reference_kept o n x os r b None w c = on_or_bad n (may_stand (r ++ (b ∷ []))) _ (λ e. (w, (quiet o n b c.fair (may_narrow r b e) c.after).1))

value_reference_kept : (o n : Owed) (os : List Open) (t : Tag) (a : Attribute) (r : List ℕ) (b : ℕ) (y : Option (List ℕ)) → TagWhole os t → IsWhole (written a.name)
    → Comes o b n → KeptBy n (value_reference_step os t a (r ++ (b ∷ [])) y)
value_reference_kept o n os t a r b (Some m) w i c = (w, i)
value_reference_kept o n os t a r b None w i c =
    on_or_bad n (may_stand (r ++ (b ∷ []))) _ (λ e. (w, i, (quiet o n b c.fair (may_narrow r b e) c.after).1))

-- Start tags.
opened_kept : (n : Owed) (os : List Open) (t : Tag) (x : Option (List ℕ)) → TagWhole os t → KeptBy n (opened os t x)
opened_kept n os t None w = tt
opened_kept n os t (Some ns) w = (w.name, w.above)

slashed_kept : (n : Owed) (os : List Open) (t : Tag) (v : List ℕ) (x : Option (List ℕ)) → AreWhole os → n ≡ Whole → KeptBy n (slashed os t v x)
slashed_kept n os t v None w e = tt
slashed_kept n os t v (Some ns) w e = (w, e)

begins_kept : (n : Owed) (os : List Open) (t : Tag) (v : List ℕ) (b : ℕ) → TagWhole os t → owed_by (b ∷ []) Whole ≡ Some n → KeptBy n (attribute_begins os t v b)
begins_kept n os t [] b w h = tt
begins_kept n os t (c ∷ v) b w h = (w, h)

tag_kept : (o n : Owed) (os : List Open) (t : Tag) (v : List ℕ) (b : ℕ) (k : Kind) → TagWhole os t → o ≡ Whole → Comes o b n → Calm o n k
    → KeptBy n (tag_step os t v b k)
tag_kept o n os t v b Blank w e c q = (w, (q refl).1)
tag_kept o n os t v b Greater w e c q = opened_kept n os t (resolved (scope_of os) t.name t.attributes) w
tag_kept o n os t v b Slash w e c q = slashed_kept n os t v (resolved (scope_of os) t.name t.attributes) w.above (q refl).1
tag_kept o n os t v b Letter w e c q = begins_kept n os t v b w (first_byte o n b e c.after)
tag_kept o n os t v b k w e c q = tt

empty_kept : (o n : Owed) (os : List Open) (t : Tag) (v ns : List ℕ) (b : ℕ) (k : Kind) → AreWhole os → Calm o n k → KeptBy n (empty_step os t v ns b k)
empty_kept o n os t v ns b Greater w q = text_kept os Zero n w (q refl).1
empty_kept o n os t v ns b k w q = tt

-- what no name goes on with is no letter
no_letter : (m : Name) (b : ℕ) (k : Kind) → name_next m b k ≡ None → letter_kind k ≡ false
no_letter m b Letter h = cc
no_letter m b k h = refl

longer_kept : (o n : Owed) (m p : Name) (b : ℕ) (k : Kind) → IsKind b k → is_front m ≡ true → name_next m b k ≡ Some p → owed_by (written m) Whole ≡ Some o
    → owed_after o b ≡ Some n → owed_by (written p) Whole ≡ Some n
longer_kept o n m p b k is f e h g = ap (λ t. owed_by t Whole) (grows m b k p is f e).text ∙ more_byte (written m) o n b h g

now_whole : (o : Owed) (s : List ℕ) → o ≡ Whole → owed_by s Whole ≡ Some o → IsWhole s
now_whole o s e h = h ∙ ap (λ (z : Owed). Some z) e

name_kept : (o n : Owed) (os : List Open) (m : Name) (b : ℕ) (k : Kind) (y : Option Name) → IsKind b k → is_front m ≡ true → name_next m b k ≡ y
    → AreWhole os → owed_by (written m) Whole ≡ Some o → Comes o b n → Calm o n k → KeptBy n (name_step os m b k y)
name_kept o n os m b k (Some p) is f e w h c q = (w, longer_kept o n m p b k is f e h c.after)
name_kept o n os m b k None is f e w h c q =
    let z = q (no_letter m b k e) in
    on_or_bad n (is_name m) _ (λ g. tag_kept o n os (record { name = m; attributes = [] }) [] b k
    (record { above = w; name = now_whole o (written m) z.0 h; attributes = tt }) z.0 c q)

equals_kept : (o n : Owed) (os : List Open) (t : Tag) (v : List ℕ) (m : Name) (x : List ℕ) (b : ℕ) (k : Kind) → TagWhole os t → IsWhole (written m) → Calm o n k
    → KeptBy n (equals_step os t v m x b k)
equals_kept o n os t v m x b Blank w i q = (w, i, (q refl).1)
equals_kept o n os t v m x b Equals w i q = (w, i, (q refl).1)
equals_kept o n os t v m x b k w i q = tt

attribute_kept : (o n : Owed) (os : List Open) (t : Tag) (v : List ℕ) (m : Name) (b : ℕ) (k : Kind) (y : Option Name) → IsKind b k → is_front m ≡ true
    → name_next m b k ≡ y → TagWhole os t → owed_by (written m) Whole ≡ Some o → Comes o b n → Calm o n k → KeptBy n (attribute_step os t v m b k y)
attribute_kept o n os t v m b k (Some p) is f e w h c q = (w, longer_kept o n m p b k is f e h c.after)
attribute_kept o n os t v m b k None is f e w h c q =
    on_or_bad n (is_name m) _ (λ g. equals_kept o n os t v m [] b k w (now_whole o (written m) (q (no_letter m b k e)).0 h) q)

quote_kept : (o n : Owed) (os : List Open) (t : Tag) (v : List ℕ) (m : Name) (x y : List ℕ) (b : ℕ) (k : Kind) → TagWhole os t → IsWhole (written m) → Calm o n k
    → KeptBy n (quote_step os t v m x y b k)
quote_kept o n os t v m x y b Blank w i q = (w, i, (q refl).1)
quote_kept o n os t v m x y b DoubleQuote w i q = (w, i)
quote_kept o n os t v m x y b SingleQuote w i q = (w, i)
quote_kept o n os t v m x y b k w i q = tt

pub letter_stays : (q : Quote) → sort q Letter ≡ Stays
letter_stays Double = refl
letter_stays Single = refl

ends_calm : (q : Quote) (k : Kind) → sort q k ≡ Ends → letter_kind k ≡ false
ends_calm q Letter h = let e : Stays ≡ Ends = sym (letter_stays q) ∙ h in cc
ends_calm q k h = refl

refers_calm : (q : Quote) (k : Kind) → sort q k ≡ Refers → letter_kind k ≡ false
refers_calm q Letter h = let e : Stays ≡ Refers = sym (letter_stays q) ∙ h in cc
refers_calm q k h = refl

value_kept : (o n : Owed) (os : List Open) (t : Tag) (a : Attribute) (b : ℕ) (k : Kind) (z : Sort) → sort a.quote k ≡ z → TagWhole os t → IsWhole (written a.name)
    → Calm o n k → KeptBy n (value_step os t a b z)
value_kept o n os t a b k Stays e w i q = (w, i)
value_kept o n os t a b k Ends e w i q = on_or_bad n (is_fine a) _ (λ f. (tag_more os t a w i, (q (ends_calm a.quote k e)).1))
value_kept o n os t a b k Refers e w i q = (w, i, (q (refers_calm a.quote k e)).1)
value_kept o n os t a b k Wrong e w i q = tt

-- End tags.
in_end_kept : (o n : Owed) (x : Open) (os : List Open) (came : List ℕ) (c : ℕ) (left : List ℕ) (b : ℕ) → written x.name ≡ came ++ (c ∷ left) → AreWhole (x ∷ os)
    → owed_by came Whole ≡ Some o → Comes o b n → KeptBy n (step (InEnd x os came c left) b)
in_end_kept o n x os came c left b h w g i =
    on_or_bad n (b == c) _ (λ e. end_kept n x os (came ++ (c ∷ [])) left w (h ∙ sym (append_assoc came (c ∷ []) left))
    (more_byte came o n c g (owed_at o o n b c i.after refl e)))

end_step_kept : (o n : Owed) (x : Open) (os : List Open) (v : List ℕ) (b : ℕ) (k : Kind) → AreWhole os → Calm o n k → KeptBy n (end_step x os v b k)
end_step_kept o n x os v b Blank w q = (w, (q refl).1)
end_step_kept o n x os v b Greater w q = text_kept os Zero n w (q refl).1
end_step_kept o n x os v b k w q = tt

pub keeps : (st : State) (b : ℕ) (o n : Owed) → IsSound st → Kept st o → Comes o b n → KeptBy n (step st b)
keeps Begin b o n h w c =
    on_kept n (b == 239) _ _ (λ e. owed_is Special n (owed_at o Whole n b 239 c.after w e)) (λ e. begin_kept o n b (kind b) (calm o n b c))
keeps MarkSecond b o n h w c = on_or_bad n (b == 187) _ (λ e. owed_is (Owes 128 191 0) n (owed_at o Special n b 187 c.after w e))
keeps MarkThird b o n h w c = on_or_bad n (b == 191) _ (λ e. owed_is Whole n (owed_at o (Owes 128 191 0) n b 191 c.after w e))
keeps Opening b o n h w c = begin_kept o n b (kind b) (calm o n b c)
keeps DeclareX b o n h w c = on_kept n (b == 109) _ _ (λ e. calm_at o n b 109 c refl e) (λ e. target_kept o n First X b (kind b) tt (calm o n b c))
keeps DeclareXm b o n h w c = on_kept n (b == 108) _ _ (λ e. calm_at o n b 108 c refl e) (λ e. target_kept o n First Xm b (kind b) tt (calm o n b c))
keeps DeclareXml b o n h w c = on_kept n (blank b) _ _ (λ e. (refl, calm_blank o n b c e)) (λ e. target_kept o n First Xml b (kind b) tt (calm o n b c))
keeps (Declaring v) b o n h w c = declare_kept o n v b (want v b) refl w.0 c
keeps Outside b o n h w c = outside_kept o n b (kind b) (calm o n b c)
keeps (Text [] m) b o n h w c = epilog_kept o n b (kind b) (calm o n b c)
keeps (Text (x ∷ os) m) b o n h w c = text_step_kept o n x os m b (kind b) w (calm o n b c)
keeps (Return x os) b o n h w c = on_kept n (b == 10) _ _ (λ e. w.0) (λ e. text_step_kept o n x os Zero b (kind b) w.0 (calm o n b c))
keeps (Markup p) b o n h w c = markup_kept o n p b (kind b) w.0 w.1 c (calm o n b c)
keeps (Mark p) b o n h w c = on_kept n (b == 45) _ _ (λ e. (w.0, calm_at o n b 45 c refl e)) (λ e. section_begins_kept o n p b w.0 c)
keeps (OpenComment p) b o n h w c = on_or_bad n (b == 45) _ (λ e. w.0)
keeps (InComment p) b o n h w c = on_kept n (b == 45) _ _ (λ e. (w, calm_at o n b 45 c refl e)) (λ e. w)
keeps (CommentDash p) b o n h w c = on_kept n (b == 45) _ _ (λ e. (w.0, calm_at o n b 45 c refl e)) (λ e. w.0)
keeps (CommentClose p) b o n h w c = on_or_bad n (b == 62) _ (λ e. at_kept p n w.0 (calm_at o n b 62 c refl e))
keeps (Question p) b o n h w c = question_kept o n p b (kind b) w.0 c
keeps (InTarget p t) b o n h w c = target_kept o n p t b (kind b) w (calm o n b c)
keeps (TargetEnd p) b o n h w c = on_or_bad n (b == 62) _ (λ e. at_kept p n w.0 (calm_at o n b 62 c refl e))
keeps (InInstruction p) b o n h w c = on_kept n (b == 63) _ _ (λ e. (w, calm_at o n b 63 c refl e)) (λ e. w)
keeps (InstructionEnd p) b o n h w c =
    on_kept n (b == 62) _ _ (λ e. at_kept p n w.0 (calm_at o n b 62 c refl e)) (λ e. on_kept n (b == 63) _ _ (λ f. (w.0, calm_at o n b 63 c refl f)) (λ f. w.0))
keeps (SectionWord x os came d left) b o n h w c =
    on_or_bad n (b == d) _ (λ e. section_next_kept n x os (came ++ (d ∷ [])) left w.0 (calm_at o n b d c (word_narrow came d left h) e))
keeps (InSection x os m) b o n h w c = section_kept n x os m b (b == 93) (b == 62) w
keeps (SectionReturn x os) b o n h w c = on_kept n (b == 10) _ _ (λ e. w) (λ e. section_kept n x os Zero b (b == 93) (b == 62) w)
keeps (InReference x os r) b o n h w c = reference_kept o n x os r b (stands_for (r ++ (b ∷ []))) w.0 c
keeps (InName os m) b o n h w c = name_kept o n os m b (kind b) (name_next m b (kind b)) (is_kind b) h refl w.0 w.1 c (calm o n b c)
keeps (InTag os t v) b o n h w c = tag_kept o n os t v b (kind b) w.0 w.1 c (calm o n b c)
keeps (EmptyTag os t v ns) b o n h w c = empty_kept o n os t v ns b (kind b) w.0 (calm o n b c)
keeps (AtName os t v m) b o n h w c = attribute_kept o n os t v m b (kind b) (name_next m b (kind b)) (is_kind b) h.name refl w.0 w.1 c (calm o n b c)
keeps (BeforeEquals os t v m x) b o n h w c = equals_kept o n os t v m x b (kind b) w.0 w.1 (calm o n b c)
keeps (AfterEquals os t v m x y) b o n h w c = quote_kept o n os t v m x y b (kind b) w.0 w.1 (calm o n b c)
keeps (InValue os t a) b o n h w c = value_kept o n os t a b (kind b) (sort a.quote (kind b)) refl w.0 w.1 (calm o n b c)
keeps (ValueReference os t a r) b o n h w c = value_reference_kept o n os t a r b (stands_for (r ++ (b ∷ []))) w.0 w.1 c
keeps (InEnd x os came d left) b o n h w c = in_end_kept o n x os came d left b h w.0 w.1 c
keeps (EndBlanks x os v) b o n h w c = end_step_kept o n x os v b (kind b) w.0 (calm o n b c)

-- Runs.
kept_given : (s : List ℕ) (e : List Event) (r : Ran) (n : Owed) (x : Option Ran) → gives e x ≡ Some r → ((q : Ran) → x ≡ Some q → Kept q.state n) → Kept r.state n
kept_given s e r n None h f = cc
kept_given s e r n (Some q) h f =
    let z : record { state = q.state; events = e ++ q.events } ≡ r = cc in
    let P : Ran → Type 0 = λ y. Kept y.state n in
    subst P z (f q refl)

abbrev pub RunKeeps : List ℕ → Type 0
RunKeeps s = (st : State) (o n : Owed) (r : Ran) → IsSound st → Fair o → Kept st o → owed_by s o ≡ Some n → run s st ≡ Some r → Kept r.state n

sound_move : (st : State) (b : ℕ) (new : State) (e : List Event) → IsSound st → step st b ≡ To new e → IsSound new
sound_move st b new e h m = (subst (λ (x : Move). LeadsBy st b x) m (leads st b h)).0

kept_byte : (b : ℕ) (s : List ℕ) (st : State) (o a n : Owed) (r : Ran) (m : Move) → step st b ≡ m → IsSound st → Comes o b a → Kept st o
    → owed_by s a ≡ Some n → move_on m (run s) ≡ Some r → RunKeeps s → Kept r.state n
kept_byte b s st o a n r Bad e h c w g i f = cc
kept_byte b s st o a n r (To new ev) e h c w g i f =
    let k : Kept new a = subst (λ (x : Move). KeptBy a x) e (keeps st b o a h w c) in
    kept_given s ev r n (run s new) i (λ q j. f new a n q (sound_move st b new ev h e) (fair_after o b a c.after) k g j)

kept_owed : (b : ℕ) (s : List ℕ) (st : State) (o n : Owed) (r : Ran) (x : Option Owed) → owed_after o b ≡ x → IsSound st → Fair o → Kept st o
    → on_owed x (owed_by s) ≡ Some n → run (b ∷ s) st ≡ Some r → RunKeeps s → Kept r.state n
kept_owed b s st o n r None e h fair w g i f = cc
kept_owed b s st o n r (Some a) e h fair w g i f = kept_byte b s st o a n r (step st b) refl h (record { fair = fair; after = e }) w g i f

pub run_keeps : (s : List ℕ) → RunKeeps s
run_keeps [] st o n r h fair w g i =
    let e : record { state = st; events = [] } ≡ r = cc in
    let f : o ≡ n = cc in
    let P : Ran → Type 0 = λ y. Kept y.state n in
    subst P e (subst (λ (z : Owed). Kept st z) f w)
run_keeps (b ∷ s) st o n r h fair w g i = kept_owed b s st o n r (owed_after o b) refl h fair w g i (run_keeps s)
