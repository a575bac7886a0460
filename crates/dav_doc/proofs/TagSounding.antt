-- Moves within tags lead where the rest of the text does; so does a run, and what is taken whole is a document.
use Rattle.std.proofs.Common.{◌≡◌, ℕ, ◌+◌, Bool, true, false, List, [], ◌∷◌, ◌++◌, length, refl, ap, sym, ◌∙◌, arith, subst, append_assoc, append-nil, Option, Some, None, inl, inr}
use Rattle.std.specs.Prelude.{◌==◌}
use Rattle.std.proofs.lemmas.Bool.{eqb-true}
use Rattle.dav_doc.specs.Bytes.{Kind, Blank, Greater, DoubleQuote, SingleQuote, Equals, Slash, Exclamation, Letter, letter_kind, blank_kind, starts_name, blank, blanks, Quote, quote_byte, Sort, Stays, Ends, Refers, Wrong, sort, stays}
use Rattle.dav_doc.specs.Names.{Name, written, local_of, is_name, Attribute, Part, Byte, Reference, part_text, parts_text, declared, resolved, base, is_fine, IsPart, AreParts, IsAttribute, AreAttributes}
use Rattle.dav_doc.specs.Document.{Forest, Nil, Element, Event, Start, End, events, Tag, attribute_text, attributes_text, tag_text, start_tag, empty_tag, end_tag, nothing, empty, element, ended, alone, full, Spells}
use Rattle.dav_doc.specs.References.{stands_for, may_stand}
use Rattle.dav_doc.specs.Words.{want}
use Rattle.dav_doc.specs.Machine.{Open, Brackets, Zero, One, Two, Place, First, Before, Below, State, Begin, MarkSecond, MarkThird, Return, Opening, DeclareX, DeclareXm, DeclareXml, Declaring, Question, InTarget, TargetEnd, InInstruction, InstructionEnd, SectionWord, InSection, SectionReturn, Outside, Text, Markup, Mark, OpenComment, InComment, CommentDash, CommentClose, InReference, InName, InTag, EmptyTag, AtName, BeforeEquals, AfterEquals, InValue, ValueReference, InEnd, EndBlanks, Move, Bad, To, scope_of, end_next, slash_step, letter_step, markup_step, on, name_next, opened, slashed, attribute_begins, tag_step, empty_step, name_step, equals_step, attribute_step, quote_step, with_attribute, with_part, value_step, value_reference_step, end_step, step, Ran, gives, move_on, run}
use Rattle.dav_doc.proofs.Meaning.{Inside, FromOpen, FromRoot, FromMark, FromPlace, Here, Free, to_name, to_value, FromState, is_front, IsTagFront, IsNameFront, IsEqualsFront, IsValueFront, IsEmptyFront, IsSound}
use Rattle.dav_doc.proofs.KindFacts.{IsKind, is_kind, ends_by, refers_by, all_more, put}
use Rattle.dav_doc.proofs.Sounding.{LeadsBy, outside_leads, text_leads, epilog_leads, reference_leads, mark_leads, open_comment_leads, comment_leads, dash_leads, close_leads, undeclared, begin_leads, first_leads, second_leads, third_leads, return_leads, declare_x_leads, declare_xm_leads, declare_xml_leads, declare_leads, question_leads, target_leads, target_end_leads, instruction_leads, instruction_end_leads, section_word_leads, section_leads, section_return_leads, plain_one, grows}

-- Start tags.
regroup : (t a e b f c : List ℕ) → t ++ (a ++ (e ++ (b ++ (f ++ c)))) ≡ (t ++ (a ++ (e ++ b))) ++ (f ++ c)
regroup t a e b f c = simp append_assoc

regroup_root : (t a e r : List ℕ) → t ++ (a ++ (e ++ r)) ≡ (t ++ (a ++ e)) ++ r
regroup_root t a e r = simp append_assoc

pub join : (k m : ℕ) → k ≡ m → (ns l : List ℕ) (f g : Forest) (d later x : List Event)
    → d ≡ events (k + 1 + 1) f ++ (End (k + 1) ∷ later) → later ≡ events (m + 1) g ++ (End m ∷ x)
    → Start (k + 1) ns l ∷ d ≡ events (m + 1) (Element ns l f g) ++ (End m ∷ x)
join k m e ns l f g d later x p q = rw (p, q, e) (simp append_assoc)

pub join_empty : (k m : ℕ) → k ≡ m → (ns l : List ℕ) (g : Forest) (d x : List Event)
    → d ≡ events (m + 1) g ++ (End m ∷ x)
    → Start (k + 1) ns l ∷ End (k + 1) ∷ d ≡ events (m + 1) (Element ns l Nil g) ++ (End m ∷ x)
join_empty k m e ns l g d x p = rw (p, e) refl

open_root : (t : Tag) (w ns : List ℕ) → IsTagFront t w → resolved base t.name t.attributes ≡ Some ns
    → (s : List ℕ) (d : List Event) → Inside (record { name = t.name; scope = declared t.attributes base }) 1 (FromOpen []) s d
    → FromRoot (start_tag t w ++ s) (Start 1 ns (local_of t.name) ∷ d)
open_root t w ns front is s d i = record {
  tree = Element ns (local_of t.name) i.trees Nil;
  spells = record {
    front = [];
    middle = start_tag t w ++ (i.front ++ end_tag t.name i.trail);
    back = i.rest;
    before = ended;
    root = full t w i.trail ns front.tag front.blanks i.blanks is i.content;
    after = i.after.0;
    split = ap (λ r. start_tag t w ++ r) i.split ∙ regroup_root (start_tag t w) i.front (end_tag t.name i.trail) i.rest;
  };
  gives = rw (i.gives, i.after.1) (simp append-nil);
}

open_inside : (o : Open) (os : List Open) (t : Tag) (w ns : List ℕ) → IsTagFront t w
    → resolved o.scope t.name t.attributes ≡ Some ns → (s : List ℕ) (d : List Event)
    → Inside (record { name = t.name; scope = declared t.attributes o.scope }) (length (o ∷ os) + 1) (FromOpen (o ∷ os)) s d
    → FromOpen (o ∷ os) (start_tag t w ++ s) (Start (length (o ∷ os) + 1) ns (local_of t.name) ∷ d)
open_inside o os t w ns front is s d i =
    let j = i.after in
    let k : length (o ∷ os) ≡ length os + 1 = omega arith in
    let e : s ≡ i.front ++ (end_tag t.name i.trail ++ (j.front ++ (end_tag o.name j.trail ++ j.rest))) = i.split ∙ ap (λ r. i.front ++ (end_tag t.name i.trail ++ r)) j.split in
    record {
      trees = Element ns (local_of t.name) i.trees j.trees;
      front = start_tag t w ++ (i.front ++ (end_tag t.name i.trail ++ j.front));
      trail = j.trail;
      rest = j.rest;
      later = j.later;
      content = element t w i.trail ns front.tag front.blanks i.blanks is i.content j.content;
      blanks = j.blanks;
      split = ap (λ x. start_tag t w ++ x) e ∙ regroup (start_tag t w) i.front (end_tag t.name i.trail) j.front (end_tag o.name j.trail) j.rest;
      after = j.after;
      gives = join (length (o ∷ os)) (length os + 1) k ns (local_of t.name) i.trees j.trees d i.later j.later i.gives j.gives;
    }

-- a move after a whole start tag
abbrev pub OpensBy : List Open → List ℕ → Move → Type 0
OpensBy os tag Bad = Unit {0}
OpensBy os tag (To new e) = IsSound new × ((s : List ℕ) (d : List Event) → FromState new s d → Here os (tag ++ s) (e ++ d))

opens_by : (os : List Open) (t : Tag) (w : List ℕ) → IsTagFront t w
    → (r : Option (List ℕ)) → resolved (scope_of os) t.name t.attributes ≡ r → OpensBy os (start_tag t w) (opened os t r)
opens_by os t w front None is = tt
opens_by [] t w front (Some ns) is = (tt, λ s d from. open_root t w ns front is s d from.0)
opens_by (o ∷ os) t w front (Some ns) is = (tt, λ s d from. open_inside o os t w ns front is s d from.0)

-- the last byte of a start tag
closes_tag : (st : State) (os : List Open) (tag : List ℕ) (b : ℕ)
    → ((s : List ℕ) (d : List Event) → Here os (tag ++ s) d → FromState st (b ∷ s) d)
    → (m : Move) → OpensBy os tag m → LeadsBy st b m
closes_tag st os tag b f Bad h = tt
closes_tag st os tag b f (To new e) h = (h.0, λ s d from. f s (e ++ d) (h.1 s d from))

slash_by : (os : List Open) (t : Tag) (w : List ℕ) (b : ℕ) → b ≡ 47 → IsTagFront t w
    → (r : Option (List ℕ)) → resolved (scope_of os) t.name t.attributes ≡ r → LeadsBy (InTag os t w) b (slashed os t w r)
slash_by os t w b e front None is = tt
slash_by os t w b e front (Some ns) is = (
  record { tag = front.tag; blanks = front.blanks; resolved = is },
  λ s d from. let P : ℕ → Type 0 = λ x. Here os (60 ∷ (tag_text t ++ (w ++ (x ∷ s)))) d in subst P (sym e) from,
)

begins_by : (os : List Open) (t : Tag) (w : List ℕ) (b : ℕ) → starts_name b ≡ true → IsTagFront t w → LeadsBy (InTag os t w) b (attribute_begins os t w b)
begins_by os t [] b is front = tt
begins_by os t (c ∷ w) b is front = (
  record { tag = front.tag; lead = record { some = omega arith; each = front.blanks }; name = plain_one b is },
  λ s d from. from,
)

tag_leads : (os : List Open) (t : Tag) (w : List ℕ) (b : ℕ) (k : Kind) → IsKind b k → IsTagFront t w → LeadsBy (InTag os t w) b (tag_step os t w b k)
tag_leads os t w b Blank is front = (
  record { tag = front.tag; blanks = all_more blank w b front.blanks (ap blank_kind is.is) },
  λ s d from. let P : List ℕ → Type 0 = λ x. Here os (60 ∷ (tag_text t ++ x)) d in put P w b s from,
)
tag_leads os t w b Greater is front =
    closes_tag (InTag os t w) os (start_tag t w) b
    (λ s d here. let P : List ℕ → Type 0 = λ x. Here os (60 ∷ x) d in
    subst P (append_assoc (tag_text t) (w ++ (62 ∷ [])) s ∙ ap (λ x. tag_text t ++ x) (append_assoc w (62 ∷ []) s ∙ ap (λ x. w ++ (x ∷ s)) (sym is.shows))) here)
    (opened os t (resolved (scope_of os) t.name t.attributes)) (opens_by os t w front (resolved (scope_of os) t.name t.attributes) refl)
tag_leads os t w b Slash is front = slash_by os t w b is.shows front (resolved (scope_of os) t.name t.attributes) refl
tag_leads os t w b Letter is front = begins_by os t w b (ap letter_kind is.is) front
tag_leads os t w b k is front = tt

empty_root : (t : Tag) (w ns : List ℕ) → IsEmptyFront [] t w ns → (s : List ℕ) (d : List Event) → FromOpen [] s d
    → FromRoot (empty_tag t w ++ s) (Start 1 ns (local_of t.name) ∷ End 1 ∷ d)
empty_root t w ns front s d from = record {
  tree = Element ns (local_of t.name) Nil Nil;
  spells = record {
    front = [];
    middle = empty_tag t w;
    back = s;
    before = ended;
    root = alone t w ns front.tag front.blanks front.resolved;
    after = from.0;
    split = refl;
  };
  gives = ap (λ x. Start 1 ns (local_of t.name) ∷ End 1 ∷ x) from.1;
}

empty_inside : (o : Open) (os : List Open) (t : Tag) (w ns : List ℕ) → IsEmptyFront (o ∷ os) t w ns → (s : List ℕ) (d : List Event) → FromOpen (o ∷ os) s d
    → FromOpen (o ∷ os) (empty_tag t w ++ s) (Start (length (o ∷ os) + 1) ns (local_of t.name) ∷ End (length (o ∷ os) + 1) ∷ d)
empty_inside o os t w ns front s d j =
    let k : length (o ∷ os) ≡ length os + 1 = omega arith in
    record {
      trees = Element ns (local_of t.name) Nil j.trees;
      front = empty_tag t w ++ j.front;
      trail = j.trail;
      rest = j.rest;
      later = j.later;
      content = empty t w ns front.tag front.blanks front.resolved j.content;
      blanks = j.blanks;
      split = ap (λ x. empty_tag t w ++ x) j.split ∙ sym (append_assoc (empty_tag t w) j.front (end_tag o.name j.trail ++ j.rest));
      after = j.after;
      gives = join_empty (length (o ∷ os)) (length os + 1) k ns (local_of t.name) j.trees d j.later j.gives;
    }

emptied : (os : List Open) (t : Tag) (w ns : List ℕ) → IsEmptyFront os t w ns → (s : List ℕ) (d : List Event) → FromOpen os s d
    → Here os (empty_tag t w ++ s) (Start (length os + 1) ns (local_of t.name) ∷ End (length os + 1) ∷ d)
emptied [] t w ns front s d from = empty_root t w ns front s d from
emptied (o ∷ os) t w ns front s d from = empty_inside o os t w ns front s d from

empty_leads : (os : List Open) (t : Tag) (w ns : List ℕ) (b : ℕ) (k : Kind) → IsKind b k → IsEmptyFront os t w ns
    → LeadsBy (EmptyTag os t w ns) b (empty_step os t w ns b k)
empty_leads os t w ns b Greater is front = (
  tt,
  λ s d from. let P : List ℕ → Type 0 = λ x. Here os (60 ∷ x) (Start (length os + 1) ns (local_of t.name) ∷ End (length os + 1) ∷ d) in
      subst P (append_assoc (tag_text t) (w ++ (47 ∷ 62 ∷ [])) s ∙ ap (λ x. tag_text t ++ x) (append_assoc w (47 ∷ 62 ∷ []) s ∙ ap (λ x. w ++ (47 ∷ x ∷ s)) (sym is.shows)))
      (emptied os t w ns front s d from.0),
)
empty_leads os t w ns b k is front = tt

letter_leads : (p : Place) (b : ℕ) → starts_name b ≡ true → LeadsBy (Markup p) b (letter_step p b)
letter_leads First b is = (plain_one b is, λ s d from. undeclared (60 ∷ b ∷ s) d from)
letter_leads Before b is = (plain_one b is, λ s d from. from)
letter_leads (Below []) b is = tt
letter_leads (Below (o ∷ os)) b is = (plain_one b is, λ s d from. from)

-- a step of the tag after its after_name name is a step of the name
after_name : (os : List Open) (n : Name) (b : ℕ) (m : Move) → LeadsBy (InTag os (record { name = n; attributes = [] }) []) b m → LeadsBy (InName os n) b m
after_name os n b Bad h = tt
after_name os n b (To new e) h = (
  h.0,
  λ s d from. let P : List ℕ → Type 0 = λ x. Here os (60 ∷ (x ++ (b ∷ s))) (e ++ d) in subst P (append-nil (written n)) (h.1 s d from),
)

name_ends : (os : List Open) (n : Name) (b : ℕ) (k : Kind) (x : Bool) → IsKind b k → is_name n ≡ x
    → LeadsBy (InName os n) b (on x (tag_step os (record { name = n; attributes = [] }) [] b k) Bad)
name_ends os n b k false is e = tt
name_ends os n b k true is e =
    after_name os n b (tag_step os (record { name = n; attributes = [] }) [] b k)
    (tag_leads os (record { name = n; attributes = [] }) [] b k is (record { tag = record { name = e; attributes = tt }; blanks = refl }))

name_leads : (os : List Open) (n : Name) (b : ℕ) (k : Kind) (x : Option Name) → IsKind b k → is_front n ≡ true → name_next n b k ≡ x
    → LeadsBy (InName os n) b (name_step os n b k x)
name_leads os n b k None is h e = name_ends os n b k (is_name n) is refl
name_leads os n b k (Some m) is h e =
    let g = grows n b k m is h e in (
      g.front,
      λ s d from. let P : List ℕ → Type 0 = λ x. Here os (60 ∷ x) d in
          subst P (ap (λ x. x ++ s) g.text ∙ append_assoc (written n) (b ∷ []) s) from,
    )

-- Attributes.
equals_leads : (os : List Open) (t : Tag) (w : List ℕ) (n : Name) (x : List ℕ) (b : ℕ) (k : Kind) → IsKind b k → IsEqualsFront t w n x []
    → LeadsBy (BeforeEquals os t w n x) b (equals_step os t w n x b k)
equals_leads os t w n x b Blank is front = (
  record { tag = front.tag; lead = front.lead; name = front.name; before = all_more blank x b front.before (ap blank_kind is.is); after = refl },
  λ s d from. let P : List ℕ → Type 0 = λ y. Here os (to_name t w n y) d in put P x b s from,
)
equals_leads os t w n x b Equals is front = (
  front,
  λ s d from. let P : ℕ → Type 0 = λ y. Here os (to_name t w n (x ++ (y ∷ s))) d in subst P (sym is.shows) from,
)
equals_leads os t w n x b k is front = tt

of_name : (os : List Open) (t : Tag) (w : List ℕ) (n : Name) (b : ℕ) (m : Move) → LeadsBy (BeforeEquals os t w n []) b m → LeadsBy (AtName os t w n) b m
of_name os t w n b Bad h = tt
of_name os t w n b (To new e) h = h

attribute_ends : (os : List Open) (t : Tag) (w : List ℕ) (n : Name) (b : ℕ) (k : Kind) (x : Bool) → IsKind b k → IsNameFront t w n → is_name n ≡ x
    → LeadsBy (AtName os t w n) b (on x (equals_step os t w n [] b k) Bad)
attribute_ends os t w n b k false is front e = tt
attribute_ends os t w n b k true is front e =
    of_name os t w n b (equals_step os t w n [] b k)
    (equals_leads os t w n [] b k is (record { tag = front.tag; lead = front.lead; name = e; before = refl; after = refl }))

attribute_leads : (os : List Open) (t : Tag) (w : List ℕ) (n : Name) (b : ℕ) (k : Kind) (x : Option Name) → IsKind b k → IsNameFront t w n → name_next n b k ≡ x
    → LeadsBy (AtName os t w n) b (attribute_step os t w n b k x)
attribute_leads os t w n b k None is front e = attribute_ends os t w n b k (is_name n) is front refl
attribute_leads os t w n b k (Some m) is front e =
    let g = grows n b k m is front.name e in (
      record { tag = front.tag; lead = front.lead; name = g.front },
      λ s d from. let P : List ℕ → Type 0 = λ x. Here os (60 ∷ (tag_text t ++ (w ++ x))) d in
          subst P (ap (λ x. x ++ s) g.text ∙ append_assoc (written n) (b ∷ []) s) from,
    )

quote_leads : (os : List Open) (t : Tag) (w : List ℕ) (n : Name) (x y : List ℕ) (b : ℕ) (k : Kind) → IsKind b k → IsEqualsFront t w n x y
    → LeadsBy (AfterEquals os t w n x y) b (quote_step os t w n x y b k)
quote_leads os t w n x y b Blank is front = (
  record { tag = front.tag; lead = front.lead; name = front.name; before = front.before; after = all_more blank y b front.after (ap blank_kind is.is) },
  λ s d from. let P : List ℕ → Type 0 = λ z. Here os (to_name t w n (x ++ (61 ∷ z))) d in put P y b s from,
)
quote_leads os t w n x y b DoubleQuote is front = (
  record { tag = front.tag; lead = front.lead; name = front.name; before = front.before; after = front.after; parts = tt },
  λ s d from. let P : ℕ → Type 0 = λ z. Here os (to_name t w n (x ++ (61 ∷ (y ++ (z ∷ s))))) d in subst P (sym is.shows) from,
)
quote_leads os t w n x y b SingleQuote is front = (
  record { tag = front.tag; lead = front.lead; name = front.name; before = front.before; after = front.after; parts = tt },
  λ s d from. let P : ℕ → Type 0 = λ z. Here os (to_name t w n (x ++ (61 ∷ (y ++ (z ∷ s))))) d in subst P (sym is.shows) from,
)
quote_leads os t w n x y b k is front = tt

pub attributes_text-append : (xs ys : List Attribute) → attributes_text (xs ++ ys) ≡ attributes_text xs ++ attributes_text ys
attributes_text-append [] ys = refl
attributes_text-append (a ∷ xs) ys = ap (λ t. attribute_text a ++ t) (attributes_text-append xs ys) ∙ sym (append_assoc (attribute_text a) (attributes_text xs) (attributes_text ys))

pub parts_text-append : (xs ys : List Part) → parts_text (xs ++ ys) ≡ parts_text xs ++ parts_text ys
parts_text-append [] ys = refl
parts_text-append (p ∷ xs) ys = ap (λ t. part_text p ++ t) (parts_text-append xs ys) ∙ sym (append_assoc (part_text p) (parts_text xs) (parts_text ys))

pub all_are : (xs ys : List Attribute) → AreAttributes xs → AreAttributes ys → AreAttributes (xs ++ ys)
all_are [] ys h i = i
all_are (a ∷ xs) ys h i = (h.0, all_are xs ys h.1 i)

pub parts_are : (q : Quote) (xs ys : List Part) → AreParts q xs → AreParts q ys → AreParts q (xs ++ ys)
parts_are q [] ys h i = i
parts_are q (p ∷ xs) ys h i = (h.0, parts_are q xs ys h.1 i)

pub is_attribute : (t : Tag) (a : Attribute) → IsValueFront t a → is_fine a ≡ true → IsAttribute a
is_attribute t a h fine = record { some = h.lead.some; lead = h.lead.each; name = h.name; before = h.before; after = h.after; parts = h.parts; fine = fine }

-- one more part of a value
part_more : (t : Tag) (a : Attribute) (p : Part) → IsValueFront t a → IsPart a.quote p → IsValueFront t (with_part a p)
part_more t a p h is = record { tag = h.tag; lead = h.lead; name = h.name; before = h.before; after = h.after; parts = parts_are a.quote a.parts (p ∷ []) h.parts (is, tt) }

part_put : (P : List ℕ → Type 0) (ps : List Part) (p : Part) (s : List ℕ) → P (parts_text (ps ++ (p ∷ [])) ++ s) → P (parts_text ps ++ (part_text p ++ s))
part_put P ps p s = subst P (ap (λ x. x ++ s) (parts_text-append ps (p ∷ []) ∙ ap (λ x. parts_text ps ++ x) (append-nil (part_text p))) ∙ append_assoc (parts_text ps) (part_text p) s)

around : (n t l m x y v s : List ℕ) (q : ℕ) → (n ++ (t ++ ((l ++ (m ++ (x ++ (61 ∷ (y ++ (q ∷ (v ++ (q ∷ [])))))))) ++ []))) ++ s
    ≡ (n ++ t) ++ (l ++ (m ++ (x ++ (61 ∷ (y ++ (q ∷ (v ++ (q ∷ s))))))))
around n t l m x y v s q = simp (append_assoc, append-nil)

value_ends : (os : List Open) (t : Tag) (a : Attribute) (b : ℕ) (x : Bool) → b ≡ quote_byte a.quote → IsValueFront t a → is_fine a ≡ x
    → LeadsBy (InValue os t a) b (on x (To (InTag os (with_attribute t a) []) []) Bad)
value_ends os t a b false is front fine = tt
value_ends os t a b true is front fine = (
  record { tag = record { name = front.tag.name; attributes = all_are t.attributes (a ∷ []) front.tag.attributes (is_attribute t a front fine, tt) }; blanks = refl },
  λ s d from.
      let P : List ℕ → Type 0 = λ x. Here os (60 ∷ x) d in
      let e = ap (λ x. (written t.name ++ x) ++ s) (attributes_text-append t.attributes (a ∷ [])) ∙ around (written t.name) (attributes_text t.attributes) a.lead (written a.name) a.before a.after (parts_text a.parts) s (quote_byte a.quote) in
      let f = ap (λ x. tag_text t ++ (a.lead ++ (written a.name ++ (a.before ++ (61 ∷ (a.after ++ (quote_byte a.quote ∷ (parts_text a.parts ++ (x ∷ s))))))))) (sym is) in
      subst P (e ∙ f) from,
)

value_leads : (os : List Open) (t : Tag) (a : Attribute) (b : ℕ) (k : Kind) (x : Sort) → IsKind b k → IsValueFront t a → sort a.quote k ≡ x
    → LeadsBy (InValue os t a) b (value_step os t a b x)
value_leads os t a b k Wrong is front e = tt
value_leads os t a b k Ends is front e = value_ends os t a b (is_fine a) (ends_by a.quote b k is.shows e) front refl
value_leads os t a b k Refers is front e = (
  (front, inl refl),
  λ s d from. let P : ℕ → Type 0 = λ x. Here os (to_value t a (x ∷ s)) d in subst P (sym (refers_by a.quote b k is.shows e)) from,
)
value_leads os t a b k Stays is front e = (
  part_more t a (Byte b) front (ap (λ z. stays (sort a.quote z)) is.is ∙ ap stays e),
  λ s d from.
      let P : List ℕ → Type 0 = λ x. Here os (to_name t a.lead a.name (a.before ++ (61 ∷ (a.after ++ (quote_byte a.quote ∷ x))))) d in
      part_put P a.parts (Byte b) s from,
)

value_reference_front : (os : List Open) (t : Tag) (a : Attribute) (r : List ℕ) (b : ℕ) (x : Bool) → IsValueFront t a → may_stand (r ++ (b ∷ [])) ≡ x
    → LeadsBy (ValueReference os t a r) b (on x (To (ValueReference os t a (r ++ (b ∷ []))) []) Bad)
value_reference_front os t a r b false front e = tt
value_reference_front os t a r b true front e = ((front, inr e), λ s d from. let P : List ℕ → Type 0 = λ x. Here os (to_value t a (38 ∷ x)) d in put P r b s from)

value_reference_leads : (os : List Open) (t : Tag) (a : Attribute) (r : List ℕ) (b : ℕ) (x : Option (List ℕ)) → IsValueFront t a → stands_for (r ++ (b ∷ [])) ≡ x
    → LeadsBy (ValueReference os t a r) b (value_reference_step os t a (r ++ (b ∷ [])) x)
value_reference_leads os t a r b None front is = value_reference_front os t a r b (may_stand (r ++ (b ∷ []))) front refl
value_reference_leads os t a r b (Some m) front is = (
  part_more t a (Reference (r ++ (b ∷ [])) m) front is,
  λ s d from.
      let P : List ℕ → Type 0 = λ x. Here os (to_name t a.lead a.name (a.before ++ (61 ∷ (a.after ++ (quote_byte a.quote ∷ x))))) d in
      let Q : List ℕ → Type 0 = λ x. Here os (to_value t a (38 ∷ x)) d in
      put Q r b s (part_put P a.parts (Reference (r ++ (b ∷ [])) m) s from),
)

-- End tags.
ended_by : (o : Open) (os : List Open) (w : List ℕ) → blanks w ≡ true → (s : List ℕ) (d : List Event) → FromOpen os s d
    → FromOpen (o ∷ os) (end_tag o.name w ++ s) (End (length os + 1) ∷ d)
ended_by o os w is s d from = record {
  trees = Nil;
  front = [];
  trail = w;
  rest = s;
  later = d;
  content = nothing;
  blanks = is;
  split = refl;
  after = from;
  gives = refl;
}

end_sound : (o : Open) (os : List Open) (came left : List ℕ) → written o.name ≡ came ++ left → IsSound (end_next o os came left)
end_sound o os came [] e = refl
end_sound o os came (c ∷ left) e = e

end_from : (o : Open) (os : List Open) (came left : List ℕ) → written o.name ≡ came ++ left → (s : List ℕ) (d : List Event)
    → FromState (end_next o os came left) s d → FromOpen (o ∷ os) (60 ∷ 47 ∷ (came ++ s)) d
end_from o os came [] e s d from = let P : List ℕ → Type 0 = λ x. FromOpen (o ∷ os) (60 ∷ 47 ∷ (x ++ s)) d in subst P (e ∙ append-nil came) from
end_from o os came (c ∷ left) e s d from = from

slash_leads : (p : Place) (b : ℕ) → b ≡ 47 → LeadsBy (Markup p) b (slash_step p)
slash_leads First b is = tt
slash_leads Before b is = tt
slash_leads (Below []) b is = tt
slash_leads (Below (o ∷ os)) b is = (
  end_sound o os [] (written o.name) refl,
  λ s d from. let P : ℕ → Type 0 = λ x. FromOpen (o ∷ os) (60 ∷ x ∷ s) d in subst P (sym is) (end_from o os [] (written o.name) refl s d from),
)

question_begins : (p : Place) (b : ℕ) (x : Bool) → (b == 63) ≡ x → LeadsBy (Markup p) b (on x (To (Question p) []) Bad)
question_begins p b false e = tt
question_begins p b true e = (tt, λ s d from. let P : ℕ → Type 0 = λ z. FromPlace p (60 ∷ z ∷ s) d in subst P (sym (eqb-true b 63 e)) from)

markup_leads : (p : Place) (b : ℕ) (k : Kind) → IsKind b k → LeadsBy (Markup p) b (markup_step p b k)
markup_leads p b Letter is = letter_leads p b (ap letter_kind is.is)
markup_leads p b Slash is = slash_leads p b is.shows
markup_leads p b Exclamation is = (tt, λ s d from. let P : ℕ → Type 0 = λ x. FromPlace p (60 ∷ x ∷ s) d in subst P (sym is.shows) from)
markup_leads p b k is = question_begins p b (b == 63) refl

in_end_leads : (o : Open) (os : List Open) (came : List ℕ) (c : ℕ) (left : List ℕ) (b : ℕ) (x : Bool) → (b == c) ≡ x → written o.name ≡ came ++ (c ∷ left)
    → LeadsBy (InEnd o os came c left) b (on x (To (end_next o os (came ++ (c ∷ [])) left) []) Bad)
in_end_leads o os came c left b false e h = tt
in_end_leads o os came c left b true e h =
    let g : written o.name ≡ (came ++ (c ∷ [])) ++ left = h ∙ sym (append_assoc came (c ∷ []) left) in (
      end_sound o os (came ++ (c ∷ [])) left g,
      λ s d from.
          let P : List ℕ → Type 0 = λ x. FromOpen (o ∷ os) (60 ∷ 47 ∷ x) d in
          subst P (append_assoc came (c ∷ []) s ∙ ap (λ x. came ++ (x ∷ s)) (sym (eqb-true b c e))) (end_from o os (came ++ (c ∷ [])) left g s d from),
    )

end_leads : (o : Open) (os : List Open) (w : List ℕ) (b : ℕ) (k : Kind) → IsKind b k → blanks w ≡ true → LeadsBy (EndBlanks o os w) b (end_step o os w b k)
end_leads o os w b Blank is h = (
  all_more blank w b h (ap blank_kind is.is),
  λ s d from. let P : List ℕ → Type 0 = λ x. FromOpen (o ∷ os) (60 ∷ 47 ∷ (written o.name ++ x)) d in put P w b s from,
)
end_leads o os w b Greater is h = (
  tt,
  λ s d from. let P : List ℕ → Type 0 = λ x. FromOpen (o ∷ os) (60 ∷ 47 ∷ x) (End (length os + 1) ∷ d) in
      subst P (append_assoc (written o.name) (w ++ (62 ∷ [])) s ∙ ap (λ x. written o.name ++ x) (append_assoc w (62 ∷ []) s ∙ ap (λ x. w ++ (x ∷ s)) (sym is.shows)))
      (ended_by o os w h s d from.0),
)
end_leads o os w b k is h = tt

pub leads : (st : State) (b : ℕ) → IsSound st → LeadsBy st b (step st b)
leads Begin b h = first_leads b (b == 239) refl
leads MarkSecond b h = second_leads b (b == 187) refl
leads MarkThird b h = third_leads b (b == 191) refl
leads Opening b h = begin_leads b _ (is_kind b)
leads DeclareX b h = declare_x_leads b (b == 109) refl
leads DeclareXm b h = declare_xm_leads b (b == 108) refl
leads DeclareXml b h = declare_xml_leads b (blank b) refl
leads (Declaring w) b h = declare_leads w b (want w b) refl h
leads Outside b h = outside_leads b _ (is_kind b)
leads (Text [] n) b h = epilog_leads n b _ (is_kind b)
leads (Text (o ∷ os) n) b h = text_leads o os n b _ (is_kind b)
leads (Return o os) b h = return_leads o os b (b == 10) refl
leads (Markup p) b h = markup_leads p b _ (is_kind b)
leads (Mark p) b h = mark_leads p b (b == 45) refl
leads (OpenComment p) b h = open_comment_leads p b (b == 45) refl
leads (InComment p) b h = comment_leads p b (b == 45) refl
leads (CommentDash p) b h = dash_leads p b (b == 45) refl
leads (CommentClose p) b h = close_leads p b (b == 62) refl
leads (Question p) b h = question_leads p b _ (is_kind b)
leads (InTarget p t) b h = target_leads p t b _ (is_kind b)
leads (TargetEnd p) b h = target_end_leads p b (b == 62) refl
leads (InInstruction p) b h = instruction_leads p b (b == 63) refl
leads (InstructionEnd p) b h = instruction_end_leads p b (b == 62) (b == 63) refl refl
leads (SectionWord o os came c left) b h = section_word_leads o os came c left b (b == c) refl h
leads (InSection o os n) b h = section_leads o os n b (b == 93) (b == 62) refl refl
leads (SectionReturn o os) b h = section_return_leads o os b (b == 10) refl
leads (InReference o os r) b h = reference_leads o os r b (stands_for (r ++ (b ∷ []))) refl
leads (InName os n) b h = name_leads os n b _ _ (is_kind b) h refl
leads (InTag os t w) b h = tag_leads os t w b _ (is_kind b) h
leads (EmptyTag os t w ns) b h = empty_leads os t w ns b _ (is_kind b) h
leads (AtName os t w n) b h = attribute_leads os t w n b _ _ (is_kind b) h refl
leads (BeforeEquals os t w n x) b h = equals_leads os t w n x b _ (is_kind b) h
leads (AfterEquals os t w n x y) b h = quote_leads os t w n x y b _ (is_kind b) h
leads (InValue os t a) b h = value_leads os t a b _ _ (is_kind b) h refl
leads (ValueReference os t a r) b h = value_reference_leads os t a r b (stands_for (r ++ (b ∷ []))) h.0 refl
leads (InEnd o os came c left) b h = in_end_leads o os came c left b (b == c) refl h
leads (EndBlanks o os w) b h = end_leads o os w b _ (is_kind b) h

-- text that the machine takes from a state to another, with what comes after it
pub record Follows (st : State) (s : List ℕ) (r : Ran) : Type 0 where
  pub sound : IsSound r.state
  pub from : (t : List ℕ) (d : List Event) → FromState r.state t d → FromState st (s ++ t) (r.events ++ d)

follows_given : (b : ℕ) (s : List ℕ) (st new : State) (e : List Event) (r : Ran) (x : Option Ran) → LeadsBy st b (To new e) → run s new ≡ x
    → gives e x ≡ Some r → ((q : Ran) → run s new ≡ Some q → Follows new s q) → Follows st (b ∷ s) r
follows_given b s st new e r None h is g f = cc
follows_given b s st new e r (Some q) h is g f =
    let w = f q is in
    let P : Ran → Type 0 = λ z. Follows st (b ∷ s) z in
    let z : record { state = q.state; events = e ++ q.events } ≡ r = cc in
    subst P z (record {
      sound = w.sound;
      from = λ t d given. let Q : List Event → Type 0 = λ y. FromState st (b ∷ (s ++ t)) y in
          subst Q (sym (append_assoc e q.events d)) (h.1 (s ++ t) (q.events ++ d) (w.from t d given));
    })

follows_move : (b : ℕ) (s : List ℕ) (st : State) (m : Move) (r : Ran) → LeadsBy st b m → move_on m (run s) ≡ Some r
    → ((new : State) (q : Ran) → IsSound new → run s new ≡ Some q → Follows new s q) → Follows st (b ∷ s) r
follows_move b s st Bad r h e f = cc
follows_move b s st (To new ev) r h e f = follows_given b s st new ev r (run s new) h refl e (λ q is. f new q h.0 is)

pub follows : (s : List ℕ) (st : State) (r : Ran) → IsSound st → run s st ≡ Some r → Follows st s r
follows [] st r h e =
    let z : record { state = st; events = [] } ≡ r = cc in
    let P : Ran → Type 0 = λ x. Follows st [] x in
    subst P z (record { sound = h; from = λ t d given. given })
follows (b ∷ s) st r h e = follows_move b s st (step st b) r (leads st b h) e (λ new q sound is. follows s new q sound is)

nothing_follows : (n : Brackets) → Free n []
nothing_follows Zero = tt
nothing_follows One = refl
nothing_follows Two = (refl, refl)

pub taken_whole : (s : List ℕ) (n : Brackets) (e : List Event) → run s Begin ≡ Some (record { state = Text [] n; events = e })
    → (tree : Forest) × Spells tree s × (e ≡ events 1 tree)
taken_whole s n e h =
    let f = follows s Begin (record { state = Text [] n; events = e }) tt h in
    let g = f.from [] [] ((ended, refl), nothing_follows n) in
    let t : FromMark s (e ++ []) = subst (λ (x : List ℕ). FromMark x (e ++ [])) (append-nil s) g in
    (t.tree, t.spells, sym (append-nil e) ∙ t.gives)
