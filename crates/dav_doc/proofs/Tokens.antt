-- What the machine does on whole tokens.
use Rattle.std.proofs.Common.{◌≡◌, ℕ, Bool, true, false, List, [], ◌∷◌, ◌++◌, refl, ap, sym, ◌∙◌, subst, append_assoc, append-nil, Option, Some, None}
use Rattle.std.specs.Prelude.{◌==◌}
use Rattle.std.specs.List.{list_all}
use Rattle.std.proofs.lemmas.Bool.{eqb-true}
use Rattle.dav_doc.specs.Bytes.{Kind, Less, Ampersand, Blank, Greater, DoubleQuote, SingleQuote, Equals, Slash, Colon, Exclamation, Letter, Digit, Other, kind, letter_kind, name_kind, blank_kind, starts_name, in_name, blank, blanks}
use Rattle.dav_doc.specs.Names.{Name, Plain, Qualified, written, is_plain, is_name}
use Rattle.dav_doc.specs.Document.{Event, Tag}
use Rattle.dav_doc.specs.References.{stands_for, may_stand, named_reference, number_reference}
use Rattle.dav_doc.specs.Machine.{Open, State, InName, InTag, AtName, BeforeEquals, AfterEquals, EndBlanks, Move, Bad, To, on, name_next, tag_step, name_step, equals_step, attribute_step, quote_step, end_step, step, run}
use Rattle.std.specs.Prelude.{bytes_eq, codes, cond}
use Rattle.dav_doc.proofs.KindFacts.{and_both, same}
use Rattle.dav_doc.proofs.Runs.{Goes, goes_cons, goes_by}
use Rattle.dav_doc.proofs.Numbers.{number_prefix}

pub goes_from : (a b c : State) (s : List ℕ) (e : List Event) → a ≡ b → Goes b s c e → Goes a s c e
goes_from a b c s e h g = ap (run s) h ∙ g

-- Names, at a state for each front of one.
abbrev pub Names : (Name → State) → Type 0
Names state = (n : Name) (b : ℕ) (m : Name) → name_next n b (kind b) ≡ Some m → step (state n) b ≡ To (state m) []

plain_next : (l : List ℕ) (b : ℕ) (k : Kind) → name_kind k ≡ true → name_next (Plain l) b k ≡ Some (Plain (l ++ (b ∷ [])))
plain_next l b Letter h = refl
plain_next l b Digit h = refl
plain_next l b Less h = cc
plain_next l b Ampersand h = cc
plain_next l b Blank h = cc
plain_next l b Greater h = cc
plain_next l b DoubleQuote h = cc
plain_next l b SingleQuote h = cc
plain_next l b Equals h = cc
plain_next l b Slash h = cc
plain_next l b Colon h = cc
plain_next l b Exclamation h = cc
plain_next l b Other h = cc

local_next : (p : List ℕ) (c : ℕ) (l : List ℕ) (b : ℕ) (k : Kind) → name_kind k ≡ true → name_next (Qualified p (c ∷ l)) b k ≡ Some (Qualified p ((c ∷ l) ++ (b ∷ [])))
local_next p c l b Letter h = refl
local_next p c l b Digit h = refl
local_next p c l b Less h = cc
local_next p c l b Ampersand h = cc
local_next p c l b Blank h = cc
local_next p c l b Greater h = cc
local_next p c l b DoubleQuote h = cc
local_next p c l b SingleQuote h = cc
local_next p c l b Equals h = cc
local_next p c l b Slash h = cc
local_next p c l b Colon h = cc
local_next p c l b Exclamation h = cc
local_next p c l b Other h = cc

pub is_letter_kind : (k : Kind) → letter_kind k ≡ true → k ≡ Letter
is_letter_kind Letter h = refl
is_letter_kind k h = cc

pub is_blank_kind : (k : Kind) → blank_kind k ≡ true → k ≡ Blank
is_blank_kind Blank h = refl
is_blank_kind k h = cc

plain_goes : (state : Name → State) → Names state → (l m s : List ℕ) (c : State) (e : List Event) → list_all in_name m ≡ true
    → Goes (state (Plain (l ++ m))) s c e → Goes (state (Plain l)) (m ++ s) c e
plain_goes state steps l [] s c e h g = goes_from (state (Plain l)) (state (Plain (l ++ []))) c s e (ap (λ x. state (Plain x)) (sym (append-nil l))) g
plain_goes state steps l (b ∷ m) s c e h g =
    let p = and_both (in_name b) (list_all in_name m) h in
    goes_cons (state (Plain l)) (state (Plain (l ++ (b ∷ [])))) c b (m ++ s) [] e (steps (Plain l) b (Plain (l ++ (b ∷ []))) (plain_next l b (kind b) p.0))
    (plain_goes state steps (l ++ (b ∷ [])) m s c e p.1
    (goes_from (state (Plain ((l ++ (b ∷ [])) ++ m))) (state (Plain (l ++ (b ∷ m)))) c s e (ap (λ x. state (Plain x)) (append_assoc l (b ∷ []) m)) g))

local_goes : (state : Name → State) → Names state → (p : List ℕ) (d : ℕ) (l m s : List ℕ) (c : State) (e : List Event) → list_all in_name m ≡ true
    → Goes (state (Qualified p (d ∷ (l ++ m)))) s c e → Goes (state (Qualified p (d ∷ l))) (m ++ s) c e
local_goes state steps p d l [] s c e h g = goes_from (state (Qualified p (d ∷ l))) (state (Qualified p (d ∷ (l ++ [])))) c s e (ap (λ x. state (Qualified p (d ∷ x))) (sym (append-nil l))) g
local_goes state steps p d l (b ∷ m) s c e h g =
    let q = and_both (in_name b) (list_all in_name m) h in
    goes_cons (state (Qualified p (d ∷ l))) (state (Qualified p (d ∷ (l ++ (b ∷ []))))) c b (m ++ s) [] e
    (steps (Qualified p (d ∷ l)) b (Qualified p (d ∷ (l ++ (b ∷ [])))) (local_next p d l b (kind b) q.0))
    (local_goes state steps p d (l ++ (b ∷ [])) m s c e q.1
    (goes_from (state (Qualified p (d ∷ ((l ++ (b ∷ [])) ++ m)))) (state (Qualified p (d ∷ (l ++ (b ∷ m))))) c s e (ap (λ x. state (Qualified p (d ∷ x))) (append_assoc l (b ∷ []) m)) g))

-- a name goes on from its first byte
pub record NameGoes (state : Name → State) (n : Name) : Type 0 where
  pub first : ℕ
  pub rest : List ℕ
  pub text : written n ≡ first ∷ rest
  pub letter : kind first ≡ Letter
  pub goes : (s : List ℕ) (c : State) (e : List Event) → Goes (state n) s c e → Goes (state (Plain (first ∷ []))) (rest ++ s) c e

pub letter_next : (p : List ℕ) (l : List ℕ) (b : ℕ) → kind b ≡ Letter → name_next (Qualified p l) b (kind b) ≡ Some (Qualified p (l ++ (b ∷ [])))
letter_next p l b h = ap (name_next (Qualified p l) b) h

pub name_goes : (state : Name → State) → Names state → (n : Name) → is_name n ≡ true → NameGoes state n
name_goes state steps (Plain []) h = cc
name_goes state steps (Plain (b ∷ l)) h =
    let q = and_both (starts_name b) (list_all in_name l) h in
    record { first = b; rest = l; text = refl; letter = is_letter_kind (kind b) q.0; goes = λ s c e g. plain_goes state steps (b ∷ []) l s c e q.1 g }
name_goes state steps (Qualified [] l) h = cc
name_goes state steps (Qualified (b ∷ p) []) h = let q = and_both (is_plain (b ∷ p)) false h in let k : false ≡ true = q.1 in cc
name_goes state steps (Qualified (b ∷ p) (d ∷ l)) h =
    let q = and_both (is_plain (b ∷ p)) (is_plain (d ∷ l)) h in
    let q1 = and_both (starts_name b) (list_all in_name p) q.0 in
    let q2 = and_both (starts_name d) (list_all in_name l) q.1 in
    record {
      first = b;
      rest = p ++ (58 ∷ d ∷ l);
      text = refl;
      letter = is_letter_kind (kind b) q1.0;
      goes = λ s c e g. goes_by (state (Plain (b ∷ []))) c (p ++ (58 ∷ d ∷ (l ++ s))) ((p ++ (58 ∷ d ∷ l)) ++ s) e (sym (append_assoc p (58 ∷ d ∷ l) s))
          (plain_goes state steps (b ∷ []) p (58 ∷ d ∷ (l ++ s)) c e q1.1
          (goes_cons (state (Plain (b ∷ p))) (state (Qualified (b ∷ p) [])) c 58 (d ∷ (l ++ s)) [] e (steps (Plain (b ∷ p)) 58 (Qualified (b ∷ p) []) refl)
          (goes_cons (state (Qualified (b ∷ p) [])) (state (Qualified (b ∷ p) (d ∷ []))) c d (l ++ s) [] e
          (steps (Qualified (b ∷ p) []) d (Qualified (b ∷ p) (d ∷ [])) (letter_next (b ∷ p) [] d (is_letter_kind (kind d) q2.0)))
          (local_goes state steps (b ∷ p) d [] l s c e q2.1 g))));
    }

pub element_names : (os : List Open) → Names (InName os)
element_names os n b m h = ap (name_step os n b (kind b)) h

pub attribute_names : (os : List Open) (t : Tag) (w : List ℕ) → Names (AtName os t w)
attribute_names os t w n b m h = ap (attribute_step os t w n b (kind b)) h

-- Blanks, at a state for each run of them.
abbrev pub AddsBlanks : (List ℕ → State) → Type 0
AddsBlanks state = (w : List ℕ) (b : ℕ) → kind b ≡ Blank → step (state w) b ≡ To (state (w ++ (b ∷ []))) []

pub blanks_go : (state : List ℕ → State) → AddsBlanks state → (w v s : List ℕ) (c : State) (e : List Event) → blanks v ≡ true
    → Goes (state (w ++ v)) s c e → Goes (state w) (v ++ s) c e
blanks_go state steps w [] s c e h g = goes_from (state w) (state (w ++ [])) c s e (ap state (sym (append-nil w))) g
blanks_go state steps w (b ∷ v) s c e h g =
    let q = and_both (blank b) (blanks v) h in
    goes_cons (state w) (state (w ++ (b ∷ []))) c b (v ++ s) [] e (steps w b (is_blank_kind (kind b) q.0))
    (blanks_go state steps (w ++ (b ∷ [])) v s c e q.1 (goes_from (state ((w ++ (b ∷ [])) ++ v)) (state (w ++ (b ∷ v))) c s e (ap state (append_assoc w (b ∷ []) v)) g))

pub tag_spaces : (os : List Open) (t : Tag) → AddsBlanks (InTag os t)
tag_spaces os t w b h = ap (tag_step os t w b) h

pub before_spaces : (os : List Open) (t : Tag) (w : List ℕ) (n : Name) → AddsBlanks (BeforeEquals os t w n)
before_spaces os t w n x b h = ap (equals_step os t w n x b) h

pub after_spaces : (os : List Open) (t : Tag) (w : List ℕ) (n : Name) (x : List ℕ) → AddsBlanks (AfterEquals os t w n x)
after_spaces os t w n x y b h = ap (quote_step os t w n x y b) h

pub end_spaces : (o : Open) (os : List Open) → AddsBlanks (EndBlanks o os)
end_spaces o os w b h = ap (end_step o os w b) h

-- Attributes.
attribute_over : (os : List Open) (t : Tag) (w : List ℕ) (n : Name) (b : ℕ) (k : Kind) → kind b ≡ k → name_next n b k ≡ None → is_name n ≡ true
    → step (AtName os t w n) b ≡ equals_step os t w n [] b k
attribute_over os t w n b k e h is =
    ap (λ z. attribute_step os t w n b z (name_next n b z)) e ∙ ap (attribute_step os t w n b k) h ∙ ap (λ z. on z (equals_step os t w n [] b k) Bad) is

pub equals_go : (os : List Open) (t : Tag) (w : List ℕ) (n : Name) (x s : List ℕ) (c : State) (e : List Event) → is_name n ≡ true → blanks x ≡ true
    → Goes (AfterEquals os t w n x []) s c e → Goes (AtName os t w n) (x ++ (61 ∷ s)) c e
equals_go os t w n [] s c e is h g =
    goes_cons (AtName os t w n) (AfterEquals os t w n [] []) c 61 s [] e (attribute_over os t w n 61 Equals refl refl is) g
equals_go os t w n (b ∷ x) s c e is h g =
    let q = and_both (blank b) (blanks x) h in
    goes_cons (AtName os t w n) (BeforeEquals os t w n (b ∷ [])) c b (x ++ (61 ∷ s)) [] e (attribute_over os t w n b Blank (is_blank_kind (kind b) q.0) refl is)
    (blanks_go (BeforeEquals os t w n) (before_spaces os t w n) (b ∷ []) x (61 ∷ s) c e q.1
    (goes_cons (BeforeEquals os t w n (b ∷ x)) (AfterEquals os t w n (b ∷ x) []) c 61 s [] e refl g))

-- References.
-- what a front of a reference leads to, at a state for each
abbrev pub References : (List ℕ → State) → (List ℕ → List ℕ → Move) → Type 0
References state known = (r : List ℕ) (b : ℕ) → ((m : List ℕ) → stands_for (r ++ (b ∷ [])) ≡ Some m → step (state r) b ≡ known (r ++ (b ∷ [])) m)
    × (stands_for (r ++ (b ∷ [])) ≡ None → may_stand (r ++ (b ∷ [])) ≡ true → step (state r) b ≡ To (state (r ++ (b ∷ []))) [])

front_by : (state : List ℕ → State) (known : List ℕ → List ℕ → Move) → References state known → (r : List ℕ) (b : ℕ) (s : List ℕ) (c : State) (e : List Event)
    → stands_for (r ++ (b ∷ [])) ≡ None → may_stand (r ++ (b ∷ [])) ≡ true → Goes (state (r ++ (b ∷ []))) s c e → Goes (state r) (b ∷ s) c e
front_by state known f r b s c e h i g = goes_cons (state r) (state (r ++ (b ∷ []))) c b s [] e ((f r b).1 h i) g

last_by : (state : List ℕ → State) (known : List ℕ → List ℕ → Move) → References state known → (r : List ℕ) (b : ℕ) (m s : List ℕ) (new c : State) (d e : List Event)
    → stands_for (r ++ (b ∷ [])) ≡ Some m → known (r ++ (b ∷ [])) m ≡ To new d → Goes new s c e → Goes (state r) (b ∷ s) c (d ++ e)
last_by state known f r b m s new c d e h i g = goes_cons (state r) new c b s d e ((f r b).0 m h ∙ i) g

-- a whole reference, from the state before it
abbrev pub Known : (List ℕ → State) → (List ℕ → List ℕ → Move) → List ℕ → List ℕ → Type 0
Known state known r m = (s : List ℕ) (new c : State) (d e : List Event) → known r m ≡ To new d → Goes new s c e → Goes (state []) (r ++ s) c (d ++ e)

known_by : (state : List ℕ → State) (known : List ℕ → List ℕ → Move) (r l : List ℕ) (m n : List ℕ) (other : Option (List ℕ)) (x : Bool) → bytes_eq r l ≡ x
    → Known state known l n
    → (other ≡ Some m → Known state known r m)
    → cond x (Some n) other ≡ Some m → Known state known r m
known_by state known r l m n other true e g f h =
    let i : n ≡ m = cc in
    let j : r ≡ l = same r l e in
    subst (λ (t : List ℕ). Known state known t m) (sym j) (subst (λ (t : List ℕ). Known state known l t) i g)
known_by state known r l m n other false e g f h = f h

named_goes : (state : List ℕ → State) (known : List ℕ → List ℕ → Move) → References state known → (r m : List ℕ) → named_reference r ≡ Some m → Known state known r m
named_goes state known f r m h =
    known_by state known r (codes "lt;") m (60 ∷ []) _ _ refl
    (λ s new c d e i g. front_by state known f [] 108 (116 ∷ 59 ∷ s) c (d ++ e) refl refl (front_by state known f (108 ∷ []) 116 (59 ∷ s) c (d ++ e) refl refl
    (last_by state known f (108 ∷ 116 ∷ []) 59 (60 ∷ []) s new c d e refl i g))) (
    known_by state known r (codes "gt;") m (62 ∷ []) _ _ refl
    (λ s new c d e i g. front_by state known f [] 103 (116 ∷ 59 ∷ s) c (d ++ e) refl refl (front_by state known f (103 ∷ []) 116 (59 ∷ s) c (d ++ e) refl refl
    (last_by state known f (103 ∷ 116 ∷ []) 59 (62 ∷ []) s new c d e refl i g))) (
    known_by state known r (codes "amp;") m (38 ∷ []) _ _ refl
    (λ s new c d e i g. front_by state known f [] 97 (109 ∷ 112 ∷ 59 ∷ s) c (d ++ e) refl refl (front_by state known f (97 ∷ []) 109 (112 ∷ 59 ∷ s) c (d ++ e) refl refl
    (front_by state known f (97 ∷ 109 ∷ []) 112 (59 ∷ s) c (d ++ e) refl refl
    (last_by state known f (97 ∷ 109 ∷ 112 ∷ []) 59 (38 ∷ []) s new c d e refl i g)))) (
    known_by state known r (codes "apos;") m (39 ∷ []) _ _ refl
    (λ s new c d e i g. front_by state known f [] 97 (112 ∷ 111 ∷ 115 ∷ 59 ∷ s) c (d ++ e) refl refl (front_by state known f (97 ∷ []) 112 (111 ∷ 115 ∷ 59 ∷ s) c (d ++ e) refl refl
    (front_by state known f (97 ∷ 112 ∷ []) 111 (115 ∷ 59 ∷ s) c (d ++ e) refl refl
    (front_by state known f (97 ∷ 112 ∷ 111 ∷ []) 115 (59 ∷ s) c (d ++ e) refl refl
    (last_by state known f (97 ∷ 112 ∷ 111 ∷ 115 ∷ []) 59 (39 ∷ []) s new c d e refl i g))))) (
    known_by state known r (codes "quot;") m (34 ∷ []) None _ refl
    (λ s new c d e i g. front_by state known f [] 113 (117 ∷ 111 ∷ 116 ∷ 59 ∷ s) c (d ++ e) refl refl (front_by state known f (113 ∷ []) 117 (111 ∷ 116 ∷ 59 ∷ s) c (d ++ e) refl refl
    (front_by state known f (113 ∷ 117 ∷ []) 111 (116 ∷ 59 ∷ s) c (d ++ e) refl refl
    (front_by state known f (113 ∷ 117 ∷ 111 ∷ []) 116 (59 ∷ s) c (d ++ e) refl refl
    (last_by state known f (113 ∷ 117 ∷ 111 ∷ 116 ∷ []) 59 (34 ∷ []) s new c d e refl i g)))))
    (λ e. cc))))) h

abbrev pub Steps : List ℕ → List ℕ → ℕ → List ℕ → Type 0
Steps m r b [] = stands_for (r ++ (b ∷ [])) ≡ Some m
Steps m r b (d ∷ u) = (stands_for (r ++ (b ∷ [])) ≡ None) × (may_stand (r ++ (b ∷ [])) ≡ true) × Steps m (r ++ (b ∷ [])) d u

pub steps_stand : (m r : List ℕ) (b : ℕ) (u : List ℕ) → Steps m r b u → stands_for (r ++ (b ∷ u)) ≡ Some m
steps_stand m r b [] h = h
steps_stand m r b (d ∷ u) h = ap stands_for (sym (append_assoc r (b ∷ []) (d ∷ u))) ∙ steps_stand m (r ++ (b ∷ [])) d u h.2

pub steps_go : (state : List ℕ → State) (known : List ℕ → List ℕ → Move) → References state known → (m r : List ℕ) (b : ℕ) (u s : List ℕ) (new c : State) (d e : List Event)
    → Steps m r b u → known (r ++ (b ∷ u)) m ≡ To new d → Goes new s c e → Goes (state r) (b ∷ (u ++ s)) c (d ++ e)
steps_go state known f m r b [] s new c d e h i g = goes_cons (state r) new c b s d e ((f r b).0 m h ∙ i) g
steps_go state known f m r b (x ∷ u) s new c d e h i g =
    goes_cons (state r) (state (r ++ (b ∷ []))) c b (x ∷ (u ++ s)) [] (d ++ e) ((f r b).1 h.0 h.1)
    (steps_go state known f m (r ++ (b ∷ [])) x u s new c d e h.2 (ap (λ z. known z m) (append_assoc r (b ∷ []) (x ∷ u)) ∙ i) g)

-- the steps of a reference by number
pub number_steps : (r : List ℕ) (b : ℕ) (u m : List ℕ) → number_reference (r ++ (b ∷ u)) ≡ Some m → Steps m (35 ∷ r) b u
number_steps r b [] m h = h
number_steps r b (d ∷ u) m h =
    let g : number_reference ((r ++ (b ∷ [])) ++ (d ∷ u)) ≡ Some m = ap number_reference (append_assoc r (b ∷ []) (d ∷ u)) ∙ h in
    let k = number_prefix (r ++ (b ∷ [])) u d m g in
    (k.0, k.1, number_steps (r ++ (b ∷ [])) d u m g)

number_goes : (state : List ℕ → State) (known : List ℕ → List ℕ → Move) → References state known → (r m : List ℕ) → number_reference r ≡ Some m → Known state known (35 ∷ r) m
number_goes state known f [] m h = cc
number_goes state known f (b ∷ u) m h =
    λ s new c d e i g. front_by state known f [] 35 ((b ∷ u) ++ s) c (d ++ e) refl refl
    (steps_go state known f m (35 ∷ []) b u s new c d e (number_steps [] b u m h) i g)

stands_goes : (state : List ℕ → State) (known : List ℕ → List ℕ → Move) → References state known → (b : ℕ) (r m : List ℕ) (x : Bool) → (b == 35) ≡ x
    → cond x (number_reference r) (named_reference (b ∷ r)) ≡ Some m → Known state known (b ∷ r) m
stands_goes state known f b r m false e h = named_goes state known f (b ∷ r) m h
stands_goes state known f b r m true e h =
    subst (λ (z : ℕ). Known state known (z ∷ r) m) (sym (eqb-true b 35 e)) (number_goes state known f r m h)

pub reference_goes : (state : List ℕ → State) (known : List ℕ → List ℕ → Move) → References state known → (r m : List ℕ) → stands_for r ≡ Some m → Known state known r m
reference_goes state known f [] m h = cc
reference_goes state known f (b ∷ r) m h = stands_goes state known f b r m (b == 35) refl h
