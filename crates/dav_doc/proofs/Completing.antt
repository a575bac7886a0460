-- What spells a tree is taken whole.
use Rattle.std.proofs.Common.{◌≡◌, ℕ, ◌+◌, ◌<◌, Bool, true, false, ◌&&◌, List, [], ◌∷◌, ◌++◌, length, refl, ap, sym, ◌∙◌, arith, subst, append_assoc, append-nil, Option, Some, None, inl, inr}
use Rattle.std.specs.Prelude.{◌==◌}
use Rattle.std.proofs.lemmas.Bool.{eqb-true}
use Rattle.dav_doc.specs.Bytes.{Kind, Less, Ampersand, Blank, Greater, DoubleQuote, SingleQuote, Equals, Slash, Colon, Exclamation, Letter, Digit, Other, kind, text_kind, blank, blanks, Quote, Double, Single, quote_byte, Sort, Stays, Ends, Refers, sort, stays, begins_greater, begins_bracket, begins_end}
use Rattle.dav_doc.specs.Names.{Name, Plain, written, local_of, is_name, Attribute, Part, Byte, Reference, parts_text, Binding, declared, resolved, base, is_fine, AreParts, IsAttribute, AreAttributes}
use Rattle.dav_doc.specs.Document.{Forest, Event, Start, Char, End, said, events, Tag, IsTag, attribute_text, attributes_text, tag_text, start_tag, empty_tag, end_tag, section_open, Content, nothing, text, reference, comment, instruction, section, empty, element, Around, ended, space, remark, advice, Root, alone, full, begins_feed, line_end, lone_return, Declared, IsDeclaration, Spells}
use Rattle.dav_doc.specs.Machine.{Open, Brackets, Zero, One, Two, Place, First, Before, Below, State, Begin, MarkSecond, MarkThird, Return, Opening, begin_step, Outside, Text, Markup, InReference, InName, InTag, EmptyTag, AtName, AfterEquals, InValue, ValueReference, InEnd, EndBlanks, Move, Bad, To, at, scope_of, chars, outside_step, epilog_step, bracket_by, brackets, ends_section, text_by, text_step, end_next, letter_step, markup_step, on, name_next, opened, slashed, tag_step, name_step, with_attribute, with_part, value_step, reference_step, value_reference_step, step, Ran, move_on, run}
use Rattle.dav_doc.proofs.Meaning.{Free}
use Rattle.dav_doc.proofs.KindFacts.{IsKind, is_kind, and_both, eqb-same}
use Rattle.dav_doc.proofs.Runs.{Goes, goes_cons, goes_by}
use Rattle.dav_doc.proofs.Tokens.{goes_from, name_goes, element_names, attribute_names, blanks_go, tag_spaces, after_spaces, end_spaces, equals_go, References, reference_goes, is_blank_kind}
use Rattle.dav_doc.proofs.Sounding.{said_events}
use Rattle.dav_doc.proofs.Marking.{remark_goes, advice_goes, opening_goes, declaration_goes, IsEmpty}
use Rattle.std.specs.Prelude.{◌⊎◌}

-- Values.
abbrev pub with_parts : Attribute → List Part → Attribute
with_parts a ps = record { lead = a.lead; name = a.name; before = a.before; after = a.after; quote = a.quote; parts = a.parts ++ ps }

abbrev pub refers_in : List Open → Tag → Attribute → List ℕ → List ℕ → Move
refers_in os t a r m = To (InValue os t (with_part a (Reference r m))) []

pub value_references : (os : List Open) (t : Tag) (a : Attribute) → References (ValueReference os t a) (refers_in os t a)
value_references os t a r b = (
  λ m h. ap (value_reference_step os t a (r ++ (b ∷ []))) h,
  λ h i. ap (value_reference_step os t a (r ++ (b ∷ []))) h ∙ ap (λ z. on z (To (ValueReference os t a (r ++ (b ∷ []))) []) Bad) i,
)

is_stays : (x : Sort) → stays x ≡ true → x ≡ Stays
is_stays Stays h = refl
is_stays x h = cc

refers_kind : (q : Quote) → sort q (kind 38) ≡ Refers
refers_kind Double = refl
refers_kind Single = refl

ends_kind : (q : Quote) → sort q (kind (quote_byte q)) ≡ Ends
ends_kind Double = refl
ends_kind Single = refl

pub parts_go : (os : List Open) (t : Tag) (a : Attribute) (ps : List Part) (s : List ℕ) (c : State) (e : List Event) → AreParts a.quote ps
    → Goes (InValue os t (with_parts a ps)) s c e → Goes (InValue os t a) (parts_text ps ++ s) c e
parts_go os t a [] s c e h g = goes_from (InValue os t a) (InValue os t (with_parts a [])) c s e
    (ap (λ (x : List Part). InValue os t (record { lead = a.lead; name = a.name; before = a.before; after = a.after; quote = a.quote; parts = x })) (sym (append-nil a.parts))) g
parts_go os t a (Byte b ∷ ps) s c e h g =
    goes_cons (InValue os t a) (InValue os t (with_part a (Byte b))) c b (parts_text ps ++ s) [] e (ap (value_step os t a b) (is_stays (sort a.quote (kind b)) h.0))
    (parts_go os t (with_part a (Byte b)) ps s c e h.1
    (goes_from (InValue os t (with_parts (with_part a (Byte b)) ps)) (InValue os t (with_parts a (Byte b ∷ ps))) c s e
    (ap (λ (x : List Part). InValue os t (record { lead = a.lead; name = a.name; before = a.before; after = a.after; quote = a.quote; parts = x })) (append_assoc a.parts (Byte b ∷ []) ps)) g))
parts_go os t a (Reference r m ∷ ps) s c e h g =
    goes_cons (InValue os t a) (ValueReference os t a []) c 38 ((r ++ parts_text ps) ++ s) [] e (ap (value_step os t a 38) (refers_kind a.quote))
    (goes_by (ValueReference os t a []) c (r ++ (parts_text ps ++ s)) ((r ++ parts_text ps) ++ s) e (sym (append_assoc r (parts_text ps) s))
    (reference_goes (ValueReference os t a) (refers_in os t a) (value_references os t a) r m h.0 (parts_text ps ++ s) (InValue os t (with_part a (Reference r m))) c [] e refl
    (parts_go os t (with_part a (Reference r m)) ps s c e h.1
    (goes_from (InValue os t (with_parts (with_part a (Reference r m)) ps)) (InValue os t (with_parts a (Reference r m ∷ ps))) c s e
    (ap (λ (x : List Part). InValue os t (record { lead = a.lead; name = a.name; before = a.before; after = a.after; quote = a.quote; parts = x })) (append_assoc a.parts (Reference r m ∷ []) ps)) g))))

pub value_ends : (os : List Open) (t : Tag) (a : Attribute) (s : List ℕ) (c : State) (e : List Event) → is_fine a ≡ true
    → Goes (InTag os (with_attribute t a) []) s c e → Goes (InValue os t a) (quote_byte a.quote ∷ s) c e
value_ends os t a s c e h g =
    goes_cons (InValue os t a) (InTag os (with_attribute t a) []) c (quote_byte a.quote) s [] e
    (ap (value_step os t a (quote_byte a.quote)) (ends_kind a.quote) ∙ ap (λ z. on z (To (InTag os (with_attribute t a) []) []) Bad) h) g

pub quote_goes : (os : List Open) (t : Tag) (w : List ℕ) (n : Name) (x y : List ℕ) (q : Quote) (s : List ℕ) (c : State) (e : List Event)
    → Goes (InValue os t (record { lead = w; name = n; before = x; after = y; quote = q; parts = [] })) s c e → Goes (AfterEquals os t w n x y) (quote_byte q ∷ s) c e
quote_goes os t w n x y Double s c e g = goes_cons (AfterEquals os t w n x y) (InValue os t (record { lead = w; name = n; before = x; after = y; quote = Double; parts = [] })) c 34 s [] e refl g
quote_goes os t w n x y Single s c e g = goes_cons (AfterEquals os t w n x y) (InValue os t (record { lead = w; name = n; before = x; after = y; quote = Single; parts = [] })) c 39 s [] e refl g

-- from the equals sign on
pub value_goes : (os : List Open) (t : Tag) (a : Attribute) (s : List ℕ) (c : State) (e : List Event) → IsAttribute a
    → Goes (InTag os (with_attribute t a) []) s c e
    → Goes (AfterEquals os t a.lead a.name a.before []) (a.after ++ (quote_byte a.quote ∷ (parts_text a.parts ++ (quote_byte a.quote ∷ s)))) c e
value_goes os t a s c e h g =
    let b : Attribute = record { lead = a.lead; name = a.name; before = a.before; after = a.after; quote = a.quote; parts = [] } in
    blanks_go (AfterEquals os t a.lead a.name a.before) (after_spaces os t a.lead a.name a.before) [] a.after (quote_byte a.quote ∷ (parts_text a.parts ++ (quote_byte a.quote ∷ s))) c e h.after
    (quote_goes os t a.lead a.name a.before a.after a.quote (parts_text a.parts ++ (quote_byte a.quote ∷ s)) c e
    (parts_go os t b a.parts (quote_byte a.quote ∷ s) c e h.parts (value_ends os t a s c e h.fine g)))

-- the first byte of an attribute's name, after its blanks
pub lead_goes : (os : List Open) (t : Tag) (w : List ℕ) (b : ℕ) (s : List ℕ) (c : State) (e : List Event) → 0 < length w → kind b ≡ Letter
    → Goes (AtName os t w (Plain (b ∷ []))) s c e → Goes (InTag os t w) (b ∷ s) c e
lead_goes os t [] b s c e lt h g = absurd (omega arith)
lead_goes os t (d ∷ w) b s c e lt h g = goes_cons (InTag os t (d ∷ w)) (AtName os t (d ∷ w) (Plain (b ∷ []))) c b s [] e (ap (tag_step os t (d ∷ w) b) h) g

name_from : (os : List Open) (t : Tag) (w : List ℕ) (n : Name) (s : List ℕ) (c : State) (e : List Event) → 0 < length w → is_name n ≡ true
    → Goes (AtName os t w n) s c e → Goes (InTag os t w) (written n ++ s) c e
name_from os t w n s c e lt is g =
    let k = name_goes (AtName os t w) (attribute_names os t w) n is in
    goes_by (InTag os t w) c (k.first ∷ (k.rest ++ s)) (written n ++ s) e (ap (λ z. z ++ s) (sym k.text))
    (lead_goes os t w k.first (k.rest ++ s) c e lt k.letter (k.goes s c e g))

flat : (l n x y v s : List ℕ) (q : ℕ) → (l ++ (n ++ (x ++ (61 ∷ (y ++ (q ∷ (v ++ (q ∷ [])))))))) ++ s ≡ l ++ (n ++ (x ++ (61 ∷ (y ++ (q ∷ (v ++ (q ∷ s)))))))
flat l n x y v s q = simp append_assoc

attribute_goes : (os : List Open) (t : Tag) (a : Attribute) (s : List ℕ) (c : State) (e : List Event) → IsAttribute a
    → Goes (InTag os (with_attribute t a) []) s c e → Goes (InTag os t []) (attribute_text a ++ s) c e
attribute_goes os t a s c e h g =
    let after = a.after ++ (quote_byte a.quote ∷ (parts_text a.parts ++ (quote_byte a.quote ∷ s))) in
    goes_by (InTag os t []) c (a.lead ++ (written a.name ++ (a.before ++ (61 ∷ after)))) (attribute_text a ++ s) e
    (sym (flat a.lead (written a.name) a.before a.after (parts_text a.parts) s (quote_byte a.quote)))
    (blanks_go (InTag os t) (tag_spaces os t) [] a.lead (written a.name ++ (a.before ++ (61 ∷ after))) c e h.lead
    (name_from os t a.lead a.name (a.before ++ (61 ∷ after)) c e h.some h.name
    (equals_go os t a.lead a.name a.before after c e h.name h.before (value_goes os t a s c e h g))))

-- the tag with further attributes
abbrev pub further : Tag → List Attribute → Tag
further t more = record { name = t.name; attributes = t.attributes ++ more }

pub attributes_go : (os : List Open) (t : Tag) (more : List Attribute) (s : List ℕ) (c : State) (e : List Event) → AreAttributes more
    → Goes (InTag os (further t more) []) s c e → Goes (InTag os t []) (attributes_text more ++ s) c e
attributes_go os t [] s c e h g = goes_from (InTag os t []) (InTag os (further t []) []) c s e
    (ap (λ (x : List Attribute). InTag os (record { name = t.name; attributes = x }) []) (sym (append-nil t.attributes))) g
attributes_go os t (a ∷ more) s c e h g =
    goes_by (InTag os t []) c (attribute_text a ++ (attributes_text more ++ s)) (attributes_text (a ∷ more) ++ s) e (sym (append_assoc (attribute_text a) (attributes_text more) s))
    (attribute_goes os t a (attributes_text more ++ s) c e h.0
    (attributes_go os (with_attribute t a) more s c e h.1
    (goes_from (InTag os (further (with_attribute t a) more) []) (InTag os (further t (a ∷ more)) []) c s e
    (ap (λ (x : List Attribute). InTag os (record { name = t.name; attributes = x }) []) (append_assoc t.attributes (a ∷ []) more)) g)))

-- a byte that ends the name of a tag
abbrev pub leaving : Kind → Bool
leaving Blank = true
leaving Greater = true
leaving Slash = true
leaving k = false

abbrev pub leaves : List ℕ → Bool
leaves [] = false
leaves (b ∷ s) = leaving (kind b)

leave_step : (os : List Open) (n : Name) (b : ℕ) (k : Kind) → kind b ≡ k → leaving k ≡ true → name_next n b k ≡ None → is_name n ≡ true
    → step (InName os n) b ≡ tag_step os (record { name = n; attributes = [] }) [] b k
leave_step os n b k e l h is =
    ap (λ z. name_step os n b z (name_next n b z)) e ∙ ap (name_step os n b k) h ∙ ap (λ z. on z (tag_step os (record { name = n; attributes = [] }) [] b k) Bad) is

not_named : (n : Name) (b : ℕ) (k : Kind) → leaving k ≡ true → name_next n b k ≡ None
not_named n b Blank h = refl
not_named n b Greater h = refl
not_named n b Slash h = refl
not_named n b Less h = cc
not_named n b Ampersand h = cc
not_named n b DoubleQuote h = cc
not_named n b SingleQuote h = cc
not_named n b Equals h = cc
not_named n b Colon h = cc
not_named n b Exclamation h = cc
not_named n b Letter h = cc
not_named n b Digit h = cc
not_named n b Other h = cc

pub bare_goes : (os : List Open) (n : Name) (s : List ℕ) (c : State) (e : List Event) → is_name n ≡ true → leaves s ≡ true
    → Goes (InTag os (record { name = n; attributes = [] }) []) s c e → Goes (InName os n) s c e
bare_goes os n [] c e is h g = cc
bare_goes os n (b ∷ s) c e is h g =
    let st : step (InName os n) b ≡ step (InTag os (record { name = n; attributes = [] }) []) b = leave_step os n b (kind b) refl h (not_named n b (kind b) h) is in
    ap (λ m. move_on m (run s)) st ∙ g

lead_leaves : (w x y z : List ℕ) → 0 < length w → blanks w ≡ true → leaves (((w ++ x) ++ y) ++ z) ≡ true
lead_leaves [] x y z lt h = absurd (omega arith)
lead_leaves (b ∷ w) x y z lt h = ap leaving (is_blank_kind (kind b) (and_both (blank b) (blanks w) h).0)

leaves_by : (xs : List Attribute) (w s : List ℕ) → AreAttributes xs → blanks w ≡ true → leaves s ≡ true → leaves (attributes_text xs ++ (w ++ s)) ≡ true
leaves_by [] [] s h i l = l
leaves_by [] (b ∷ w) s h i l = ap leaving (is_blank_kind (kind b) (and_both (blank b) (blanks w) i).0)
leaves_by (a ∷ xs) w s h i l = lead_leaves a.lead _ _ _ h.0.some h.0.lead

pub tag_goes : (p : Place) (os : List Open) (t : Tag) (w s : List ℕ) (c : State) (e : List Event)
    → ((b : ℕ) → letter_step p b ≡ To (InName os (Plain (b ∷ []))) []) → IsTag t → blanks w ≡ true → leaves s ≡ true
    → Goes (InTag os t w) s c e → Goes (Markup p) (tag_text t ++ (w ++ s)) c e
tag_goes p os t w s c e begins is h l g =
    let k = name_goes (InName os) (element_names os) t.name is.name in
    let rest = attributes_text t.attributes ++ (w ++ s) in
    goes_by (Markup p) c (k.first ∷ (k.rest ++ rest)) (tag_text t ++ (w ++ s)) e
    (ap (λ z. z ++ rest) (sym k.text) ∙ sym (append_assoc (written t.name) (attributes_text t.attributes) (w ++ s)))
    (goes_cons (Markup p) (InName os (Plain (k.first ∷ []))) c k.first (k.rest ++ rest) [] e (ap (markup_step p k.first) k.letter ∙ begins k.first)
    (k.goes rest c e
    (bare_goes os t.name rest c e is.name (leaves_by t.attributes w s is.attributes h l)
    (attributes_go os (record { name = t.name; attributes = [] }) t.attributes (w ++ s) c e is.attributes
    (blanks_go (InTag os t) (tag_spaces os t) [] w s c e h g)))))

abbrev pub inner : List Open → Tag → State
inner os t = Text (record { name = t.name; scope = declared t.attributes (scope_of os) } ∷ os) Zero

pub opens_go : (os : List Open) (t : Tag) (w ns s : List ℕ) (c : State) (e : List Event) → resolved (scope_of os) t.name t.attributes ≡ Some ns
    → Goes (inner os t) s c e → Goes (InTag os t w) (62 ∷ s) c (Start (length os + 1) ns (local_of t.name) ∷ e)
opens_go os t w ns s c e h g = goes_cons (InTag os t w) (inner os t) c 62 s (Start (length os + 1) ns (local_of t.name) ∷ []) e (ap (opened os t) h) g

pub empties_go : (os : List Open) (t : Tag) (w ns s : List ℕ) (c : State) (e : List Event) → resolved (scope_of os) t.name t.attributes ≡ Some ns
    → Goes (Text os Zero) s c e → Goes (InTag os t w) (47 ∷ 62 ∷ s) c (Start (length os + 1) ns (local_of t.name) ∷ End (length os + 1) ∷ e)
empties_go os t w ns s c e h g =
    goes_cons (InTag os t w) (EmptyTag os t w ns) c 47 (62 ∷ s) [] (Start (length os + 1) ns (local_of t.name) ∷ End (length os + 1) ∷ e) (ap (slashed os t w) h)
    (goes_cons (EmptyTag os t w ns) (Text os Zero) c 62 s (Start (length os + 1) ns (local_of t.name) ∷ End (length os + 1) ∷ []) e refl g)

-- End tags.
pub left_goes : (o : Open) (os : List Open) (came left s : List ℕ) (c : State) (e : List Event)
    → Goes (EndBlanks o os []) s c e → Goes (end_next o os came left) (left ++ s) c e
left_goes o os came [] s c e g = g
left_goes o os came (b ∷ left) s c e g =
    goes_cons (InEnd o os came b left) (end_next o os (came ++ (b ∷ [])) left) c b (left ++ s) [] e
    (ap (λ z. on z (To (end_next o os (came ++ (b ∷ [])) left) []) Bad) (eqb-same b)) (left_goes o os (came ++ (b ∷ [])) left s c e g)

pub end_blanks_go : (o : Open) (os : List Open) (w v s : List ℕ) (c : State) (e : List Event) → blanks v ≡ true
    → Goes (Text os Zero) s c e → Goes (EndBlanks o os w) (v ++ (62 ∷ s)) c (End (length os + 1) ∷ e)
end_blanks_go o os w v s c e h g =
    blanks_go (EndBlanks o os) (end_spaces o os) w v (62 ∷ s) c (End (length os + 1) ∷ e) h
    (goes_cons (EndBlanks o os (w ++ v)) (Text os Zero) c 62 s (End (length os + 1) ∷ []) e refl g)

close_text : (n v r : List ℕ) → (n ++ (v ++ (62 ∷ []))) ++ r ≡ n ++ (v ++ (62 ∷ r))
close_text n v r = simp append_assoc

pub end_from : (st : State) (o : Open) (os : List Open) (v s : List ℕ) (c : State) (e : List Event) → step st 60 ≡ To (Markup (Below (o ∷ os))) [] → blanks v ≡ true
    → Goes (Text os Zero) s c e → Goes st (end_tag o.name v ++ s) c (End (length os + 1) ∷ e)
end_from st o os v s c e begins h g =
    let d = End (length os + 1) ∷ e in
    goes_cons st (Markup (Below (o ∷ os))) c 60 (47 ∷ ((written o.name ++ (v ++ (62 ∷ []))) ++ s)) [] d begins
    (goes_cons (Markup (Below (o ∷ os))) (end_next o os [] (written o.name)) c 47 ((written o.name ++ (v ++ (62 ∷ []))) ++ s) [] d refl
    (goes_by (end_next o os [] (written o.name)) c (written o.name ++ (v ++ (62 ∷ s))) ((written o.name ++ (v ++ (62 ∷ []))) ++ s) d (sym (close_text (written o.name) v s))
    (left_goes o os [] (written o.name) (v ++ (62 ∷ s)) c d (end_blanks_go o os [] v s c e h g))))

pub end_goes : (o : Open) (os : List Open) (n : Brackets) (v s : List ℕ) (c : State) (e : List Event) → blanks v ≡ true
    → Goes (Text os Zero) s c e → Goes (Text (o ∷ os) n) (end_tag o.name v ++ s) c (End (length os + 1) ∷ e)
end_goes o os n v s c e h g = end_from (Text (o ∷ os) n) o os v s c e refl h g

-- Text.
plain_step : (o : Open) (os : List Open) (n : Brackets) (b : ℕ) (k : Kind) → text_kind k ≡ true → (b == 13) ≡ false → text_step o os n b k ≡ text_by o os n b (ends_section n k)
plain_step o os n b Less h r = cc
plain_step o os n b Ampersand h r = cc
plain_step o os n b Blank h r = ap (λ x. on x (To (Return o os) (Char 10 ∷ [])) (text_by o os n b (ends_section n Blank))) r
plain_step o os n b k h r = refl

greater_is : (b : ℕ) (k : Kind) → IsKind b k → (b == 62) ≡ false → ends_section Two k ≡ false
greater_is b Greater is h = let e : (b == 62) ≡ true = ap (λ z. z == 62) is.shows in cc
greater_is b k is h = refl

ends_not : (n : Brackets) (b : ℕ) (s : List ℕ) → Free n (b ∷ s) → ends_section n (kind b) ≡ false
ends_not Zero b s h = refl
ends_not One b s h = refl
ends_not Two b s h = greater_is b (kind b) (is_kind b) h.0

and_under : (x y : Bool) → x ≡ true → (x && y) ≡ false → y ≡ false
and_under x y h g = ap (λ z. z && y) (sym h) ∙ g

free_after : (n : Brackets) (b : ℕ) (s : List ℕ) (x : Bool) → (b == 93) ≡ x → Free n (b ∷ s) → begins_end (b ∷ s) ≡ false → Free (bracket_by n x) s
free_after n b s false e h g = tt
free_after Zero b s true e h g = and_under (b == 93) (begins_bracket s) e g
free_after One b s true e h g = (and_under (b == 93) (begins_greater s) e h, and_under (b == 93) (begins_bracket s) e g)
free_after Two b s true e h g = (and_under (b == 93) (begins_greater s) e h.1, and_under (b == 93) (begins_bracket s) e g)

abbrev pub refers_text : Open → List Open → List ℕ → List ℕ → Move
refers_text o os r m = To (Text (o ∷ os) Zero) (chars m)

pub text_references : (o : Open) (os : List Open) → References (InReference o os) (refers_text o os)
text_references o os r b = (
  λ m h. ap (reference_step o os (r ++ (b ∷ []))) h,
  λ h i. ap (reference_step o os (r ++ (b ∷ []))) h ∙ ap (λ z. on z (To (InReference o os (r ++ (b ∷ []))) []) Bad) i,
)

deeper : (a b : ℕ) → a ≡ b → (f : Forest) → events a f ≡ events b f
deeper a b e f = ap (λ n. events n f) e

start_text : (t w s e r rest : List ℕ) → (60 ∷ (t ++ (w ++ (62 ∷ [])))) ++ ((s ++ (e ++ r)) ++ rest) ≡ 60 ∷ (t ++ (w ++ (62 ∷ (s ++ (e ++ (r ++ rest))))))
start_text t w s e r rest = simp append_assoc

empty_text : (t w s rest : List ℕ) → ((60 ∷ (t ++ (w ++ (47 ∷ 62 ∷ [])))) ++ s) ++ rest ≡ 60 ∷ (t ++ (w ++ (47 ∷ 62 ∷ (s ++ rest))))
empty_text t w s rest = simp append_assoc

end_events : (a : List Event) (x : Event) (b e : List Event) → a ++ (x ∷ (b ++ e)) ≡ ((a ++ (x ∷ [])) ++ b) ++ e
end_events a x b e = simp append_assoc

alone_text : (t w rest : List ℕ) → (60 ∷ (t ++ (w ++ (47 ∷ 62 ∷ [])))) ++ rest ≡ 60 ∷ (t ++ (w ++ (47 ∷ 62 ∷ rest)))
alone_text t w rest = simp append_assoc

full_text : (t w s e rest : List ℕ) → ((60 ∷ (t ++ (w ++ (62 ∷ [])))) ++ (s ++ e)) ++ rest ≡ 60 ∷ (t ++ (w ++ (62 ∷ (s ++ (e ++ rest)))))
full_text t w s e rest = simp append_assoc

-- before or after the root
abbrev pub IsAround : Place → Type 0
IsAround First = ⊥
IsAround Before = Unit {0}
IsAround (Below []) = Unit {0}
IsAround (Below (o ∷ os)) = ⊥

around_space : (p : Place) (b : ℕ) → IsAround p → kind b ≡ Blank → step (at p) b ≡ To (at p) []
around_space First b h e = absurd h
around_space Before b h e = ap (outside_step b) e
around_space (Below []) b h e = ap (epilog_step b) e
around_space (Below (o ∷ os)) b h e = absurd h

around_markup : (p : Place) → IsAround p → step (at p) 60 ≡ To (Markup p) []
around_markup First h = absurd h
around_markup Before h = refl
around_markup (Below []) h = refl
around_markup (Below (o ∷ os)) h = absurd h

-- after CR, where no LF follows
empty_content : {scope : List Binding} {f : Forest} {s : List ℕ} → Content scope f s → (k : ℕ) → IsEmpty s → events k f ≡ []
empty_content nothing k h = refl
empty_content (text b is r ends i) k h = absurd h
empty_content (line_end i) k h = absurd h
empty_content (lone_return feed i) k h = absurd h
empty_content (reference r m is i) k h = absurd h
empty_content (comment r is i) k h = absurd h
empty_content (instruction r is i) k h = absurd h
empty_content (section d r is i) k h = absurd h
empty_content (empty t w ns is bl res i) k h = absurd h
empty_content (element t w v ns is bl bv res i j) k h = absurd h

return_goes : (o : Open) (os : List Open) (s : List ℕ) (f : Forest) (k : ℕ) {scope : List Binding} → Content scope f s → (rest : List ℕ) (c : State) (e : List Event) → begins_feed s ≡ false
    → Goes (Return o os) rest c e → Goes (Text (o ∷ os) Zero) (s ++ rest) c (events k f ++ e) → Goes (Return o os) (s ++ rest) c (events k f ++ e)
return_goes o os [] f k i rest c e feed q g = subst (λ (x : List Event). Goes (Return o os) rest c (x ++ e)) (sym (empty_content i k tt)) q
return_goes o os (b ∷ s) f k i rest c e feed q g =
    ap (λ x. move_on (on x (To (Text (o ∷ os) Zero) []) (text_step o os Zero b (kind b))) (run (s ++ rest))) feed ∙ g

pub content_goes : {scope : List Binding} {f : Forest} {s : List ℕ} → Content scope f s → (o : Open) (os : List Open) (n : Brackets) → o.scope ≡ scope → Free n s
    → (rest : List ℕ) (c : State) (e : List Event) → ((m : Brackets) → Goes (Text (o ∷ os) m) rest c e) → Goes (Return o os) rest c e
    → Goes (Text (o ∷ os) n) (s ++ rest) c (events (length (o ∷ os) + 1) f ++ e)
content_goes nothing o os n h free rest c e g q0 = g n
content_goes (text {f = f} {s = s} b is no_return ends i) o os n h free rest c e g q0 =
    goes_cons (Text (o ∷ os) n) (Text (o ∷ os) (brackets n b)) c b (s ++ rest) (Char b ∷ []) (events (length (o ∷ os) + 1) f ++ e)
    (plain_step o os n b (kind b) is no_return ∙ ap (text_by o os n b) (ends_not n b s free))
    (content_goes i o os (brackets n b) h (free_after n b s (b == 93) refl free ends) rest c e g q0)
content_goes (line_end {f = f} {s = s} i) o os n h free rest c e g q0 =
    let d = events (length (o ∷ os) + 1) f ++ e in
    goes_cons (Text (o ∷ os) n) (Return o os) c 13 (10 ∷ (s ++ rest)) (Char 10 ∷ []) d refl
    (goes_cons (Return o os) (Text (o ∷ os) Zero) c 10 (s ++ rest) [] d refl (content_goes i o os Zero h tt rest c e g q0))
content_goes (lone_return {f = f} {s = s} feed i) o os n h free rest c e g q0 =
    let k = length (o ∷ os) + 1 in
    goes_cons (Text (o ∷ os) n) (Return o os) c 13 (s ++ rest) (Char 10 ∷ []) (events k f ++ e) refl
    (return_goes o os s f k i rest c e feed q0 (content_goes i o os Zero h tt rest c e g q0))
content_goes (reference {f = f} {s = s} r m is i) o os n h free rest c e g q0 =
    let k = length (o ∷ os) + 1 in
    let d = chars m ++ (events k f ++ e) in
    let q : d ≡ events k (said m f) ++ e = sym (append_assoc (chars m) (events k f) e) ∙ ap (λ x. x ++ e) (sym (said_events k m f)) in
    subst (λ (x : List Event). Goes (Text (o ∷ os) n) (38 ∷ ((r ++ s) ++ rest)) c x) q
    (goes_cons (Text (o ∷ os) n) (InReference o os []) c 38 ((r ++ s) ++ rest) [] d refl
    (goes_by (InReference o os []) c (r ++ (s ++ rest)) ((r ++ s) ++ rest) d (sym (append_assoc r s rest))
    (reference_goes (InReference o os) (refers_text o os) (text_references o os) r m is (s ++ rest) (Text (o ∷ os) Zero) c (chars m) (events k f ++ e) refl
    (content_goes i o os Zero h tt rest c e g q0))))
content_goes (comment {f = f} {s = s} r is i) o os n h free rest c e g q0 =
    let d = events (length (o ∷ os) + 1) f ++ e in
    goes_by (Text (o ∷ os) n) c (60 ∷ 33 ∷ 45 ∷ 45 ∷ (r ++ (s ++ rest))) (60 ∷ 33 ∷ 45 ∷ 45 ∷ ((r ++ s) ++ rest)) d (ap (λ z. 60 ∷ 33 ∷ 45 ∷ 45 ∷ z) (sym (append_assoc r s rest)))
    (remark_goes (Text (o ∷ os) n) (Below (o ∷ os)) r (s ++ rest) c d refl is (content_goes i o os Zero h tt rest c e g q0))
content_goes (instruction {f = f} {s = s} r is i) o os n h free rest c e g q0 =
    let d = events (length (o ∷ os) + 1) f ++ e in
    goes_by (Text (o ∷ os) n) c (60 ∷ 63 ∷ (r ++ (s ++ rest))) (60 ∷ 63 ∷ ((r ++ s) ++ rest)) d (ap (λ z. 60 ∷ 63 ∷ z) (sym (append_assoc r s rest)))
    (advice_goes (Text (o ∷ os) n) (Below (o ∷ os)) r (s ++ rest) c d refl is (content_goes i o os Zero h tt rest c e g q0))
content_goes (section {f = f} {s = s} m r is i) o os n h free rest c e g q0 =
    let k = length (o ∷ os) + 1 in
    let d = chars m ++ (events k f ++ e) in
    let q : d ≡ events k (said m f) ++ e = sym (append_assoc (chars m) (events k f) e) ∙ ap (λ x. x ++ e) (sym (said_events k m f)) in
    subst (λ (x : List Event). Goes (Text (o ∷ os) n) (section_open (r ++ s) ++ rest) c x) q
    (goes_by (Text (o ∷ os) n) c (section_open (r ++ (s ++ rest))) (section_open (r ++ s) ++ rest) d (ap section_open (sym (append_assoc r s rest)))
    (opening_goes o os n m r (s ++ rest) c (events k f ++ e) is (content_goes i o os Zero h tt rest c e g q0)))
content_goes (empty {scope = scope} {after = after} {s = s} t w ns is bl res i) o os n h free rest c e g q0 =
    let k = length (o ∷ os) + 1 in
    let r : resolved o.scope t.name t.attributes ≡ Some ns = subst (λ (sc : List Binding). resolved sc t.name t.attributes ≡ Some ns) (sym h) res in
    let d = Start k ns (local_of t.name) ∷ End k ∷ (events k after ++ e) in
    goes_by (Text (o ∷ os) n) c (60 ∷ (tag_text t ++ (w ++ (47 ∷ 62 ∷ (s ++ rest))))) ((empty_tag t w ++ s) ++ rest) d (sym (empty_text (tag_text t) w s rest))
    (goes_cons (Text (o ∷ os) n) (Markup (Below (o ∷ os))) c 60 (tag_text t ++ (w ++ (47 ∷ 62 ∷ (s ++ rest)))) [] d refl
    (tag_goes (Below (o ∷ os)) (o ∷ os) t w (47 ∷ 62 ∷ (s ++ rest)) c d (λ b. refl) is bl refl
    (empties_go (o ∷ os) t w ns (s ++ rest) c (events k after ++ e) r (content_goes i o os Zero h tt rest c e g q0))))
content_goes (element {scope = scope} {inside = inside} {after = after} {s = s} {r = r} t w v ns is bl bv res i j) o os n h free rest c e g q0 =
    let p : Open = record { name = t.name; scope = declared t.attributes o.scope } in
    let k = length (o ∷ os) + 1 in
    let up : length (p ∷ o ∷ os) + 1 ≡ k + 1 = omega arith in
    let re : resolved o.scope t.name t.attributes ≡ Some ns = subst (λ (sc : List Binding). resolved sc t.name t.attributes ≡ Some ns) (sym h) res in
    let g4 = content_goes j o os Zero h tt rest c e g q0 in
    let g3 = λ (m : Brackets). end_goes p (o ∷ os) m v (r ++ rest) c (events k after ++ e) bv g4 in
    let g5 = end_from (Return p (o ∷ os)) p (o ∷ os) v (r ++ rest) c (events k after ++ e) refl bv g4 in
    let g2 = content_goes i p (o ∷ os) Zero (ap (declared t.attributes) h) tt (end_tag t.name v ++ (r ++ rest)) c (End k ∷ (events k after ++ e)) g3 g5 in
    let all = s ++ (end_tag t.name v ++ (r ++ rest)) in
    let ev = events (length (p ∷ o ∷ os) + 1) inside ++ (End k ∷ (events k after ++ e)) in
    let d = Start k ns (local_of t.name) ∷ ev in
    let g1 = goes_by (Text (o ∷ os) n) c (60 ∷ (tag_text t ++ (w ++ (62 ∷ all)))) (start_tag t w ++ ((s ++ (end_tag t.name v ++ r)) ++ rest)) d
    (sym (start_text (tag_text t) w s (end_tag t.name v) r rest))
    (goes_cons (Text (o ∷ os) n) (Markup (Below (o ∷ os))) c 60 (tag_text t ++ (w ++ (62 ∷ all))) [] d refl
    (tag_goes (Below (o ∷ os)) (o ∷ os) t w (62 ∷ all) c d (λ b. refl) is bl refl (opens_go (o ∷ os) t w ns all c ev re g2))) in
    let q : ev ≡ ((events (k + 1) inside ++ (End k ∷ [])) ++ events k after) ++ e = ap (λ z. z ++ (End k ∷ (events k after ++ e))) (deeper _ _ up inside) ∙ end_events (events (k + 1) inside) (End k) (events k after) e in
    goes_by (Text (o ∷ os) n) c (start_tag t w ++ ((s ++ (end_tag t.name v ++ r)) ++ rest)) ((start_tag t w ++ (s ++ (end_tag t.name v ++ r))) ++ rest) _
    (sym (append_assoc (start_tag t w) (s ++ (end_tag t.name v ++ r)) rest))
    (subst (λ (z : List Event). Goes (Text (o ∷ os) n) (start_tag t w ++ ((s ++ (end_tag t.name v ++ r)) ++ rest)) c (Start k ns (local_of t.name) ∷ z)) q g1)

around_goes : {s : List ℕ} → Around s → (p : Place) (rest : List ℕ) (c : State) (e : List Event) → IsAround p → Goes (at p) rest c e → Goes (at p) (s ++ rest) c e
around_goes ended p rest c e h g = g
around_goes (space {s = s} b is i) p rest c e h g =
    goes_cons (at p) (at p) c b (s ++ rest) [] e (around_space p b h (is_blank_kind (kind b) is)) (around_goes i p rest c e h g)
around_goes (remark {s = s} r is i) p rest c e h g =
    goes_by (at p) c (60 ∷ 33 ∷ 45 ∷ 45 ∷ (r ++ (s ++ rest))) (60 ∷ 33 ∷ 45 ∷ 45 ∷ ((r ++ s) ++ rest)) e (ap (λ z. 60 ∷ 33 ∷ 45 ∷ 45 ∷ z) (sym (append_assoc r s rest)))
    (remark_goes (at p) p r (s ++ rest) c e (around_markup p h) is (around_goes i p rest c e h g))
around_goes (advice {s = s} r is i) p rest c e h g =
    goes_by (at p) c (60 ∷ 63 ∷ (r ++ (s ++ rest))) (60 ∷ 63 ∷ ((r ++ s) ++ rest)) e (ap (λ z. 60 ∷ 63 ∷ z) (sym (append_assoc r s rest)))
    (advice_goes (at p) p r (s ++ rest) c e (around_markup p h) is (around_goes i p rest c e h g))

-- from the first byte, with no declaration
begins_around : {s : List ℕ} → Around s → (rest : List ℕ) (c : State) (e : List Event) → Goes Opening rest c e → Goes Outside rest c e → Goes Opening (s ++ rest) c e
begins_around ended rest c e f g = f
begins_around (space {s = s} b is i) rest c e f g =
    goes_cons Opening Outside c b (s ++ rest) [] e (ap (begin_step b) (is_blank_kind (kind b) is)) (around_goes i Before rest c e tt g)
begins_around (remark {s = s} r is i) rest c e f g =
    goes_by Opening c (60 ∷ 33 ∷ 45 ∷ 45 ∷ (r ++ (s ++ rest))) (60 ∷ 33 ∷ 45 ∷ 45 ∷ ((r ++ s) ++ rest)) e (ap (λ z. 60 ∷ 33 ∷ 45 ∷ 45 ∷ z) (sym (append_assoc r s rest)))
    (remark_goes Opening First r (s ++ rest) c e refl is (around_goes i Before rest c e tt g))
begins_around (advice {s = s} r is i) rest c e f g =
    goes_by Opening c (60 ∷ 63 ∷ (r ++ (s ++ rest))) (60 ∷ 63 ∷ ((r ++ s) ++ rest)) e (ap (λ z. 60 ∷ 63 ∷ z) (sym (append_assoc r s rest)))
    (advice_goes Opening First r (s ++ rest) c e refl is (around_goes i Before rest c e tt g))

root_goes : {f : Forest} {s : List ℕ} → Root f s → (st : State) (place : Place) → step st 60 ≡ To (Markup place) [] → ((b : ℕ) → letter_step place b ≡ To (InName [] (Plain (b ∷ []))) []) → (rest : List ℕ) (c : State) (e : List Event) → Goes (Text [] Zero) rest c e
    → Goes st (s ++ rest) c (events 1 f ++ e)
root_goes (alone t w ns is bl res) st place opens letters rest c e g =
    let d = Start 1 ns (local_of t.name) ∷ End 1 ∷ e in
    goes_by st c (60 ∷ (tag_text t ++ (w ++ (47 ∷ 62 ∷ rest)))) (empty_tag t w ++ rest) d (sym (alone_text (tag_text t) w rest))
    (goes_cons st (Markup place) c 60 (tag_text t ++ (w ++ (47 ∷ 62 ∷ rest))) [] d opens
    (tag_goes place [] t w (47 ∷ 62 ∷ rest) c d letters is bl refl
    (empties_go [] t w ns rest c e res g)))
root_goes (full {inside = inside} {s = s} t w v ns is bl bv res i) st place opens letters rest c e g =
    let p : Open = record { name = t.name; scope = declared t.attributes base } in
    let g3 = λ (m : Brackets). end_goes p [] m v rest c e bv g in
    let all = s ++ (end_tag t.name v ++ rest) in
    let ev = events 2 inside ++ (End 1 ∷ e) in
    let g5 = end_from (Return p []) p [] v rest c e refl bv g in
    let g2 = content_goes i p [] Zero refl tt (end_tag t.name v ++ rest) c (End 1 ∷ e) g3 g5 in
    let d = Start 1 ns (local_of t.name) ∷ ev in
    let g1 = goes_by st c (60 ∷ (tag_text t ++ (w ++ (62 ∷ all)))) ((start_tag t w ++ (s ++ end_tag t.name v)) ++ rest) d
    (sym (full_text (tag_text t) w s (end_tag t.name v) rest))
    (goes_cons st (Markup place) c 60 (tag_text t ++ (w ++ (62 ∷ all))) [] d opens
    (tag_goes place [] t w (62 ∷ all) c d letters is bl refl (opens_go [] t w ns all c ev res g2))) in
    subst (λ (z : List Event). Goes st ((start_tag t w ++ (s ++ end_tag t.name v)) ++ rest) c (Start 1 ns (local_of t.name) ∷ z)) (end_events (events 2 inside) (End 1) [] e) g1

declared_goes : (first : List ℕ) → IsDeclaration first → (rest : List ℕ) (c : State) (e : List Event) → Goes Opening rest c e → Goes Outside rest c e → Goes Opening (first ++ rest) c e
declared_goes first (inl h) rest c e f g = goes_by Opening c rest (first ++ rest) e (ap (λ z. z ++ rest) (sym h)) f
declared_goes first (inr h) rest c e f g =
    goes_by Opening c ((60 ∷ 63 ∷ h.0) ++ rest) (first ++ rest) e (ap (λ z. z ++ rest) (sym h.1)) (declaration_goes h.0 rest c e h.2 g)

document_goes : (tree : Forest) (s : List ℕ) → Declared tree s → run s Opening ≡ Some (record { state = Text [] Zero; events = events 1 tree })
document_goes tree s h =
    let r = h.rooted in
    let last = around_goes r.after (Below []) [] (Text [] Zero) [] tt refl in
    let g3 = goes_by (Text [] Zero) (Text [] Zero) (r.back ++ []) r.back [] (append-nil r.back) last in
    let all = r.front ++ (r.middle ++ r.back) in
    let e = events 1 tree ++ [] in
    let g2 = root_goes r.root Outside Before refl (λ b. refl) r.back (Text [] Zero) [] g3 in
    let g1 = root_goes r.root Opening First refl (λ b. refl) r.back (Text [] Zero) [] g3 in
    let g = declared_goes h.first h.declared all (Text [] Zero) e (begins_around r.before (r.middle ++ r.back) (Text [] Zero) e g1 g2) (around_goes r.before Before (r.middle ++ r.back) (Text [] Zero) e tt g2) in
    goes_by Opening (Text [] Zero) (h.first ++ all) s (events 1 tree) (ap (λ z. h.first ++ z) (sym r.split) ∙ sym h.split)
    (subst (λ (z : List Event). Goes Opening (h.first ++ all) (Text [] Zero) z) (append-nil (events 1 tree)) g)

none_some : (x : Option Ran) (r : Ran) → x ≡ None → x ≡ Some r → ⊥
none_some x r h g = cc

some_state : (r q : Ran) → Some r ≡ Some q → r.state ≡ q.state
some_state r q h = let k : r ≡ q = cc in ap (λ z. z.state) k

opening_not : Opening ≡ Text [] Zero → ⊥
opening_not h = cc

bad_mark : (b : ℕ) → (b == 239) ≡ true → begin_step b (kind b) ≡ Bad
bad_mark b h = ap (λ x. begin_step x (kind x)) (eqb-true b 239 h)

first_same : (b : ℕ) (s : List ℕ) (c : State) (e : List Event) (x : Bool) → (b == 239) ≡ x → Goes Opening (b ∷ s) c e → Goes Begin (b ∷ s) c e
first_same b s c e false h g = ap (λ z. move_on (on z (To MarkSecond []) (begin_step b (kind b))) (run s)) h ∙ g
first_same b s c e true h g =
    absurd (none_some (run (b ∷ s) Opening) (record { state = c; events = e }) (ap (λ m. move_on m (run s)) (bad_mark b h)) g)

-- the machine at the first byte, where that byte begins no mark
same_first : (s : List ℕ) (c : State) (e : List Event) → c ≡ Text [] Zero → Goes Opening s c e → Goes Begin s c e
same_first [] c e h g = absurd (opening_not (some_state (record { state = Opening; events = [] }) (record { state = c; events = e }) g ∙ h))
same_first (b ∷ s) c e h g = first_same b s c e (b == 239) refl g

marked_goes : (tree : Forest) (s : List ℕ) (h : Spells tree s) → (h.mark ≡ []) ⊎ (h.mark ≡ 239 ∷ 187 ∷ 191 ∷ []) → run s Begin ≡ Some (record { state = Text [] Zero; events = events 1 tree })
marked_goes tree s h (inl m) =
    goes_by Begin (Text [] Zero) h.document s (events 1 tree) (sym (h.split ∙ ap (λ z. z ++ h.document) m))
    (same_first h.document (Text [] Zero) (events 1 tree) refl (document_goes tree h.document h.declared))
marked_goes tree s h (inr m) =
    goes_by Begin (Text [] Zero) (239 ∷ 187 ∷ 191 ∷ h.document) s (events 1 tree) (sym (h.split ∙ ap (λ z. z ++ h.document) m))
    (goes_cons Begin MarkSecond (Text [] Zero) 239 (187 ∷ 191 ∷ h.document) [] (events 1 tree) refl
    (goes_cons MarkSecond MarkThird (Text [] Zero) 187 (191 ∷ h.document) [] (events 1 tree) refl
    (goes_cons MarkThird Opening (Text [] Zero) 191 h.document [] (events 1 tree) refl (document_goes tree h.document h.declared))))

pub complete : (tree : Forest) (s : List ℕ) → Spells tree s → run s Begin ≡ Some (record { state = Text [] Zero; events = events 1 tree })
complete tree s h = marked_goes tree s h h.marked
