-- Names of whole characters, and the names that a state of the machine keeps.
use Rattle.std.proofs.Common.{◌≡◌, ℕ, ◌<◌, Bool, true, false, ◌&&◌, List, [], ◌∷◌, ◌++◌, refl, ap, sym, ◌∙◌, arith, Option, Some, None}
use Rattle.std.specs.Prelude.{◌==◌, nat_le, cond}
use Rattle.std.specs.List.{list_all}
use Rattle.std.proofs.lemmas.Bool.Decides.{nat_tests}
use Rattle.std.proofs.lemmas.Bool.{leb-false}
use Rattle.dav_doc.specs.Characters.{Owed, Whole, Owes, Special, within, is_ascii, lead, owed, owed_after, on_owed, owed_by}
use Rattle.dav_doc.specs.Names.{Name, written, Attribute}
use Rattle.dav_doc.specs.Document.{Tag}
use Rattle.dav_doc.specs.Words.{Want, Done, One_of, Space, Spaces, Either}
use Rattle.dav_doc.specs.Machine.{Open, Place, First, Before, Below, State, Begin, MarkSecond, MarkThird, Return, Opening, DeclareX, DeclareXm, DeclareXml, Declaring, Question, InTarget, TargetEnd, InInstruction, InstructionEnd, SectionWord, InSection, SectionReturn, Outside, Text, Markup, Mark, OpenComment, InComment, CommentDash, CommentClose, InReference, InName, InTag, EmptyTag, AtName, BeforeEquals, AfterEquals, InValue, ValueReference, InEnd, EndBlanks}
use Rattle.dav_doc.proofs.KindFacts.{and_both}
use Rattle.dav_doc.proofs.Reading.{owed-append, Fair, fair_run, is_wide}

-- the text is of characters, none of them cut
abbrev pub IsWhole : List ℕ → Type 0
IsWhole s = owed_by s Whole ≡ Some Whole

pub whole_more : (s t : List ℕ) → IsWhole s → IsWhole t → IsWhole (s ++ t)
whole_more s t h g = owed-append s t Whole ∙ ap (λ x. on_owed x (owed_by t)) h ∙ g

pub ascii_first : (b : ℕ) (s : List ℕ) → is_ascii b ≡ true → IsWhole s → IsWhole (b ∷ s)
ascii_first b s h g = ap (λ x. on_owed (cond x (Some Whole) (lead b)) (owed_by s)) h ∙ g

pub ascii_whole : (s : List ℕ) → list_all is_ascii s ≡ true → IsWhole s
ascii_whole [] h = refl
ascii_whole (b ∷ s) h = let q = and_both (is_ascii b) (list_all is_ascii s) h in ascii_first b s q.0 (ascii_whole s q.1)

pub all_later : (p : ℕ → Bool) (xs ys : List ℕ) → list_all p (xs ++ ys) ≡ true → list_all p ys ≡ true
all_later p [] ys h = h
all_later p (x ∷ xs) ys h = all_later p xs ys (and_both (p x) (list_all p (xs ++ ys)) h).1

-- what is left of a whole name
pub rest_whole : (n : Name) (came left : List ℕ) (o : Owed) → written n ≡ came ++ left → IsWhole (written n) → owed_by came Whole ≡ Some o → owed_by left o ≡ Some Whole
rest_whole n came left o e h g =
    sym (ap (λ x. on_owed x (owed_by left)) g) ∙ sym (owed-append came left Whole) ∙ sym (ap (λ t. owed_by t Whole) e) ∙ h

-- A byte of ASCII comes only where nothing is owed, and leaves nothing owed.
below_within : (low high b : ℕ) → b < low → within low high b ≡ false
below_within low high b h = let e : nat_le low b ≡ false = grind (arith, nat_tests) in ap (λ x. x && nat_le b high) e

not_lead : (x : Bool) (o : Owed) (other : Option Owed) → x ≡ false → other ≡ None → cond x (Some o) other ≡ None
not_lead x o other h g = ap (λ z. cond z (Some o) other) h ∙ g

not_same : (b n : ℕ) → b < n → (b == n) ≡ false
not_same b n h = grind (arith, nat_tests)

no_lead : (b : ℕ) → b < 128 → lead b ≡ None
no_lead b h =
    not_lead (within 194 223 b) (Owes 128 191 0) _ (below_within 194 223 b (omega arith)) (
    not_lead (b == 224) (Owes 160 191 1) _ (not_same b 224 (omega arith)) (
    not_lead (b == 237) (Owes 128 159 1) _ (not_same b 237 (omega arith)) (
    not_lead (b == 239) Special _ (not_same b 239 (omega arith)) (
    not_lead (within 225 238 b) (Owes 128 191 1) _ (below_within 225 238 b (omega arith)) (
    not_lead (b == 240) (Owes 144 191 2) _ (not_same b 240 (omega arith)) (
    not_lead (within 241 243 b) (Owes 128 191 2) _ (below_within 241 243 b (omega arith)) (
    not_lead (b == 244) (Owes 128 143 2) None (not_same b 244 (omega arith)) refl)))))))

whole_by : (b : ℕ) (n : Owed) (x : Bool) → b < 128 → cond x (Some Whole) (lead b) ≡ Some n → n ≡ Whole
whole_by b n true l h = let e : Whole ≡ n = cc in sym e
whole_by b n false l h = let e : None ≡ Some n = sym (no_lead b l) ∙ h in cc

low_wide : (b : ℕ) → is_wide b ≡ false → b < 128
low_wide b h = leb-false 128 b h

pub quiet : (o n : Owed) (b : ℕ) → Fair o → is_wide b ≡ false → owed_after o b ≡ Some n → (o ≡ Whole) × (n ≡ Whole)
quiet Whole n b f w h = (refl, whole_by b n (is_ascii b) (low_wide b w) h)
quiet (Owes low high m) n b f w h =
    let l = low_wide b w in
    let e : None ≡ Some n = sym (ap (λ x. cond x (Some (owed m)) None) (below_within low high b (omega (arith, f.0)))) ∙ h in cc
quiet Special n b f w h =
    let l = low_wide b w in
    let e : None ≡ Some n =
    sym (not_lead (within 128 190 b) (Owes 128 191 0) _ (below_within 128 190 b l) (not_lead (b == 191) (Owes 128 189 0) None (not_same b 191 (omega arith)) refl)) ∙ h in cc

-- the front before a byte of ASCII is whole
before_ascii : (b : ℕ) (s : List ℕ) (o : Owed) (x : Option Owed) → Fair o → is_wide b ≡ false → owed_after o b ≡ x → on_owed x (owed_by s) ≡ Some Whole → o ≡ Whole
before_ascii b s o None f w e h = cc
before_ascii b s o (Some n) f w e h = (quiet o n b f w e).0

cut_whole : (b : ℕ) (p s : List ℕ) (x : Option Owed) → owed_by p Whole ≡ x → is_wide b ≡ false → on_owed x (owed_by (b ∷ s)) ≡ Some Whole → IsWhole p
cut_whole b p s None e w h = cc
cut_whole b p s (Some o) e w h = e ∙ ap (λ (z : Owed). Some z) (before_ascii b s o (owed_after o b) (fair_run p Whole o tt e) w refl h)

pub front_whole : (p : List ℕ) (b : ℕ) (s : List ℕ) → is_wide b ≡ false → IsWhole (p ++ (b ∷ s)) → IsWhole p
front_whole p b s w h = cut_whole b p s (owed_by p Whole) refl w (sym (owed-append p (b ∷ s) Whole) ∙ h)

-- What a state keeps.
abbrev pub AreWhole : List Open → Type 0
AreWhole [] = Unit {0}
AreWhole (o ∷ os) = IsWhole (written o.name) × AreWhole os

abbrev pub PlaceWhole : Place → Type 0
PlaceWhole First = Unit {0}
PlaceWhole Before = Unit {0}
PlaceWhole (Below os) = AreWhole os

abbrev pub NamesWhole : List Attribute → Type 0
NamesWhole [] = Unit {0}
NamesWhole (a ∷ xs) = IsWhole (written a.name) × NamesWhole xs

-- the names of a start tag below these elements
pub record TagWhole (os : List Open) (t : Tag) : Type 0 where
  pub above : AreWhole os
  pub name : IsWhole (written t.name)
  pub attributes : NamesWhole t.attributes

-- the words are of bytes of ASCII
abbrev pub ascii_words : Want → Bool
ascii_words Done = true
ascii_words (One_of x y w) = (is_ascii x && is_ascii y) && ascii_words w
ascii_words (Space w) = ascii_words w
ascii_words (Spaces w) = ascii_words w
ascii_words (Either x w v) = is_ascii x && (ascii_words w && ascii_words v)

-- the names in a state are whole, the one under way up to what is owed; most states owe nothing
abbrev pub Kept : State → Owed → Type 0
Kept Begin o = o ≡ Whole
Kept MarkSecond o = o ≡ Special
Kept MarkThird o = o ≡ Owes 128 191 0
Kept Opening o = o ≡ Whole
Kept DeclareX o = o ≡ Whole
Kept DeclareXm o = o ≡ Whole
Kept DeclareXml o = o ≡ Whole
Kept (Declaring w) o = (ascii_words w ≡ true) × (o ≡ Whole)
Kept Outside o = o ≡ Whole
Kept (Text [] n) o = o ≡ Whole
Kept (Text (x ∷ os) n) o = AreWhole (x ∷ os)
Kept (Return x os) o = AreWhole (x ∷ os) × (o ≡ Whole)
Kept (Markup p) o = PlaceWhole p × (o ≡ Whole)
Kept (Mark p) o = PlaceWhole p × (o ≡ Whole)
Kept (OpenComment p) o = PlaceWhole p × (o ≡ Whole)
Kept (InComment p) o = PlaceWhole p
Kept (CommentDash p) o = PlaceWhole p × (o ≡ Whole)
Kept (CommentClose p) o = PlaceWhole p × (o ≡ Whole)
Kept (Question p) o = PlaceWhole p × (o ≡ Whole)
Kept (InTarget p t) o = PlaceWhole p
Kept (TargetEnd p) o = PlaceWhole p × (o ≡ Whole)
Kept (InInstruction p) o = PlaceWhole p
Kept (InstructionEnd p) o = PlaceWhole p × (o ≡ Whole)
Kept (SectionWord x os came c left) o = AreWhole (x ∷ os) × (o ≡ Whole)
Kept (InSection x os n) o = AreWhole (x ∷ os)
Kept (SectionReturn x os) o = AreWhole (x ∷ os)
Kept (InReference x os r) o = AreWhole (x ∷ os) × (o ≡ Whole)
Kept (InName os n) o = AreWhole os × (owed_by (written n) Whole ≡ Some o)
Kept (InTag os t w) o = TagWhole os t × (o ≡ Whole)
Kept (EmptyTag os t w ns) o = AreWhole os × (o ≡ Whole)
Kept (AtName os t w n) o = TagWhole os t × (owed_by (written n) Whole ≡ Some o)
Kept (BeforeEquals os t w n x) o = TagWhole os t × IsWhole (written n) × (o ≡ Whole)
Kept (AfterEquals os t w n x y) o = TagWhole os t × IsWhole (written n) × (o ≡ Whole)
Kept (InValue os t a) o = TagWhole os t × IsWhole (written a.name)
Kept (ValueReference os t a r) o = TagWhole os t × IsWhole (written a.name) × (o ≡ Whole)
Kept (InEnd x os came c left) o = AreWhole (x ∷ os) × (owed_by came Whole ≡ Some o)
Kept (EndBlanks x os w) o = AreWhole os × (o ≡ Whole)
