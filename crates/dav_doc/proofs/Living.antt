-- From each state that the machine comes to, some text ends the document.
use Rattle.std.proofs.Common.{◌≡◌, ℕ, ◌+◌, Bool, true, false, ◌&&◌, List, [], ◌∷◌, ◌++◌, length, refl, ap, sym, ◌∙◌, arith, subst, append_assoc, length-append, append-nil, Option, Some, None, inl, inr}
use Rattle.std.specs.Prelude.{◌==◌}
use Rattle.std.specs.List.{list_all}
use Rattle.std.proofs.lemmas.Bool.{eqb-true}
use Rattle.dav_doc.specs.Bytes.{kind, starts_name, in_name, blank, blanks, Quote, Double, Single, quote_byte, Stays, sort, in_value}
use Rattle.dav_doc.specs.Names.{Name, Plain, Qualified, written, local_of, is_plain, is_name, Attribute, Part, Byte, Reference, Binding, declared, resolved, is_fine, IsAttribute, AreAttributes}
use Rattle.dav_doc.specs.Document.{Event, Start, End, Tag, attributes_text, end_tag, Target, Unlike, X, Xm, Xml, target_next, is_target}
use Rattle.dav_doc.specs.References.{may_stand, may_name, may_number}
use Rattle.dav_doc.specs.Words.{Want, Done, One_of, Space, Spaces, Either, want}
use Rattle.dav_doc.specs.Machine.{Open, Brackets, Zero, One, Two, Place, First, Before, Below, State, Begin, MarkSecond, MarkThird, Return, Opening, DeclareX, DeclareXm, DeclareXml, Declaring, Question, InTarget, TargetEnd, InInstruction, InstructionEnd, SectionWord, InSection, SectionReturn, declare_state, declare_step, Outside, Text, Markup, Mark, OpenComment, InComment, CommentDash, CommentClose, InReference, InName, InTag, EmptyTag, AtName, BeforeEquals, AfterEquals, InValue, ValueReference, InEnd, EndBlanks, Bad, To, at, scope_of, chars, on, longer, with_attribute, with_part, value_step, step, Ran, gives, run}
use Rattle.dav_doc.proofs.Meaning.{is_solid, is_good, is_front, IsTagFront, IsNameFront, IsEqualsFront, IsValueFront, MayStand, IsSound}
use Rattle.std.specs.Prelude.{bytes_eq, codes, cond}
use Rattle.dav_doc.proofs.KindFacts.{and_both, same, eqb-same}
use Rattle.dav_doc.proofs.Runs.{Goes, goes_cons, goes_by}
use Rattle.dav_doc.proofs.Tokens.{blanks_go, tag_spaces, equals_go, Steps, steps_stand, steps_go, number_steps}
use Rattle.dav_doc.proofs.Numbers.{finishes}
use Rattle.dav_doc.proofs.TagSounding.{all_are}
use Rattle.std.specs.Prelude.{not, ◌||◌, is_some}
use Rattle.std.proofs.lemmas.Slice.Eq.{bytes_eq-Decides}
use Rattle.std.proofs.lemmas.List.Folds.{list_all-append}
use Rattle.dav_doc.specs.Names.{declares, declare_by, lookup, prefix_of, is_bound, undeclares, value_of, parts_value}
use Rattle.dav_doc.proofs.Runs.{run-append, on_ran}
use Rattle.dav_doc.proofs.KindFacts.{all_more, and_of}
use Rattle.dav_doc.proofs.TagSounding.{parts_are, is_attribute}
use Rattle.dav_doc.proofs.Marking.{word_goes}
use Rattle.dav_doc.proofs.Completing.{value_references, refers_in, value_ends, attributes_go, further, leaves, bare_goes, opens_go, left_goes, end_blanks_go, end_goes, refers_text, text_references}
use Rattle.dav_doc.specs.Characters.{Whole, Owes, Special, is_ascii}
use Rattle.dav_doc.proofs.Sounding.{written_longer}
use Rattle.dav_doc.proofs.Whole.{IsWhole, whole_more, ascii_first, ascii_whole, all_later, rest_whole, front_whole, AreWhole, PlaceWhole, NamesWhole, TagWhole, ascii_words, Kept}
use Rattle.dav_doc.proofs.ReferenceBytes.{reference_ascii}

-- some text ends the document, of whole characters where K
pub record Lives (K : Type 0) (st : State) : Type 0 where
  pub text : List ℕ
  pub events : List Event
  pub goes : Goes st text (Text [] Zero) events
  pub whole : K → IsWhole text

before_if : {K : Type 0} (a b : State) (x : ℕ) → (K → is_ascii x ≡ true) → step a x ≡ To b [] → Lives K b → Lives K a
before_if a b x i h l = record {
  text = x ∷ l.text;
  events = l.events;
  goes = goes_cons a b (Text [] Zero) x l.text [] l.events h l.goes;
  whole = λ k. ascii_first x l.text (i k) (l.whole k);
}

before : {K : Type 0} (a b : State) (x : ℕ) → is_ascii x ≡ true → step a x ≡ To b [] → Lives K b → Lives K a
before a b x i h l = before_if a b x (λ k. i) h l

pub text_lives : {K : Type 0} (os : List Open) (n : Brackets) → (K → AreWhole os) → Lives K (Text os n)
text_lives [] n w = record { text = 32 ∷ []; events = []; goes = refl; whole = λ k. refl }
text_lives (o ∷ os) n w =
    let l = text_lives os Zero (λ k. (w k).1) in
    record {
      text = end_tag o.name [] ++ l.text;
      events = End (length os + 1) ∷ l.events;
      goes = end_goes o os n [] l.text (Text [] Zero) l.events refl l.goes;
      whole = λ k. whole_more (end_tag o.name []) l.text (whole_more (written o.name) (62 ∷ []) (w k).0 refl) (l.whole k);
    }

-- Prefixes that are still to be declared.
abbrev pub supply_name : List ℕ → Name
supply_name [] = Plain (codes "xmlns")
supply_name (b ∷ p) = Qualified (codes "xmlns") (b ∷ p)

-- a declaration of a prefix, after these blanks and one more
abbrev pub supply : List ℕ → List ℕ → Attribute
supply w p = record { lead = w ++ (32 ∷ []); name = supply_name p; before = []; after = []; quote = Double; parts = Byte 120 ∷ [] }

abbrev pub supplies : List ℕ → List (List ℕ) → List Attribute
supplies w [] = []
supplies w (p ∷ ps) = supply w p ∷ supplies [] ps

abbrev pub has : List Binding → List ℕ → Bool
has scope p = is_some (lookup scope p)

more_by : (x : Bool) (ns : List ℕ) (o : Option (List ℕ)) → is_some o ≡ true → is_some (cond x (Some ns) o) ≡ true
more_by true ns o h = refl
more_by false ns o h = h

has_more : (a : Binding) (scope : List Binding) (p : List ℕ) → has scope p ≡ true → has (a ∷ scope) p ≡ true
has_more a scope p h = more_by (bytes_eq a.prefix p) a.ns (lookup scope p) h

has_by : (x : Option (List ℕ)) (ns : List ℕ) (scope : List Binding) (p : List ℕ) → has scope p ≡ true → has (declare_by x ns scope) p ≡ true
has_by None ns scope p h = h
has_by (Some q) ns scope p h = has_more (record { prefix = q; ns = ns }) scope p h

has_declared : (xs : List Attribute) (scope : List Binding) (p : List ℕ) → has scope p ≡ true → has (declared xs scope) p ≡ true
has_declared [] scope p h = h
has_declared (a ∷ xs) scope p h = has_by (declares a.name) (value_of a) (declared xs scope) p (has_declared xs scope p h)

declared-append : (xs ys : List Attribute) (scope : List Binding) → declared (xs ++ ys) scope ≡ declared xs (declared ys scope)
declared-append [] ys scope = refl
declared-append (a ∷ xs) ys scope = ap (declare_by (declares a.name) (value_of a)) (declared-append xs ys scope)

itself : (p : List ℕ) (ns : List ℕ) (scope : List Binding) → has (record { prefix = p; ns = ns } ∷ scope) p ≡ true
itself p ns scope = ap (λ x. is_some (cond x (Some ns) (lookup scope p))) ((bytes_eq-Decides p p).1 refl)

-- each has its prefix
abbrev pub covers : List Binding → List (List ℕ) → Bool
covers scope ps = list_all (has scope) ps

covers_more : (a : Binding) (scope : List Binding) (ps : List (List ℕ)) → covers scope ps ≡ true → covers (a ∷ scope) ps ≡ true
covers_more a scope [] h = refl
covers_more a scope (p ∷ ps) h =
    let q = and_both (has scope p) (covers scope ps) h in rw (has_more a scope p q.0, covers_more a scope ps q.1) refl

covers_declared : (xs : List Attribute) (scope : List Binding) (ps : List (List ℕ)) → covers scope ps ≡ true → covers (declared xs scope) ps ≡ true
covers_declared xs scope [] h = refl
covers_declared xs scope (p ∷ ps) h =
    let q = and_both (has scope p) (covers scope ps) h in rw (has_declared xs scope p q.0, covers_declared xs scope ps q.1) refl

supply_declares : (p : List ℕ) → declares (supply_name p) ≡ Some p
supply_declares [] = refl
supply_declares (b ∷ p) = refl

supplied : (w : List ℕ) (scope : List Binding) (ps : List (List ℕ)) → covers (declared (supplies w ps) scope) ps ≡ true
supplied w scope [] = refl
supplied w scope (p ∷ ps) =
    let a : Binding = record { prefix = p; ns = 120 ∷ [] } in
    let b = declared (supplies [] ps) scope in
    let e : covers (a ∷ b) (p ∷ ps) ≡ true = and_of _ _ (itself p (120 ∷ []) b) (covers_more a b ps (supplied [] scope ps)) in
    ap (λ x. covers (declare_by x (120 ∷ []) b) (p ∷ ps)) (supply_declares p) ∙ e

abbrev pub prefixes : List Attribute → List (List ℕ)
prefixes [] = []
prefixes (a ∷ xs) = prefix_of a.name ∷ prefixes xs

or_last : (x : Bool) → (x || true) ≡ true
or_last true = refl
or_last false = refl

bound_all : (scope : List Binding) (xs : List Attribute) → covers scope (prefixes xs) ≡ true → list_all (is_bound scope) xs ≡ true
bound_all scope [] h = refl
bound_all scope (a ∷ xs) h =
    let q = and_both (has scope (prefix_of a.name)) (covers scope (prefixes xs)) h in
    let e : is_bound scope a ≡ true = ap (λ x. is_some (declares a.name) || x) q.0 ∙ or_last (is_some (declares a.name)) in
    and_of _ _ e (bound_all scope xs q.1)

supplies_bound : (w : List ℕ) (scope : List Binding) (ps : List (List ℕ)) → list_all (is_bound scope) (supplies w ps) ≡ true
supplies_bound w scope [] = refl
supplies_bound w scope (p ∷ ps) =
    and_of _ _ (ap (λ x. is_some x || is_some (lookup scope (prefix_of (supply_name p)))) (supply_declares p)) (supplies_bound [] scope ps)

-- all prefixes of a tag
abbrev pub wanted : Tag → List (List ℕ)
wanted t = prefix_of t.name ∷ prefixes t.attributes

some_of : (o : Option (List ℕ)) → is_some o ≡ true → (ns : List ℕ) × (o ≡ Some ns)
some_of None h = cc
some_of (Some ns) h = (ns, refl)

resolves : (scope : List Binding) (t : Tag) (w : List ℕ)
    → (ns : List ℕ) × (resolved scope t.name (t.attributes ++ supplies w (wanted t)) ≡ Some ns)
resolves scope t w =
    let ps = wanted t in
    let all = t.attributes ++ supplies w ps in
    let c : covers (declared all scope) ps ≡ true =
    ap (λ (x : List Binding). covers x ps) (declared-append t.attributes (supplies w ps) scope) ∙ covers_declared t.attributes (declared (supplies w ps) scope) ps (supplied w scope ps) in
    let q = and_both (has (declared all scope) (prefix_of t.name)) (covers (declared all scope) (prefixes t.attributes)) c in
    let e : list_all (is_bound (declared all scope)) all ≡ true =
    list_all-append (is_bound (declared all scope)) t.attributes (supplies w ps)
    ∙ ap (λ x. x && list_all (is_bound (declared all scope)) (supplies w ps)) (bound_all (declared all scope) t.attributes q.1)
    ∙ supplies_bound w (declared all scope) ps in
    let v = some_of (lookup (declared all scope) (prefix_of t.name)) q.0 in
    (v.0, ap (λ x. cond x (lookup (declared all scope) (prefix_of t.name)) None) e ∙ v.1)

abbrev pub may_prefix : List ℕ → Bool
may_prefix [] = true
may_prefix (b ∷ p) = is_plain (b ∷ p)

plain_prefix : (p : List ℕ) → is_plain p ≡ true → may_prefix p ≡ true
plain_prefix [] h = refl
plain_prefix (b ∷ p) h = h

prefix_may : (n : Name) → is_name n ≡ true → may_prefix (prefix_of n) ≡ true
prefix_may (Plain l) h = refl
prefix_may (Qualified p l) h = plain_prefix p (and_both (is_plain p) (is_plain l) h).0

supply_is : (w p : List ℕ) → blanks w ≡ true → may_prefix p ≡ true → IsAttribute (supply w p)
supply_is w [] h m = record { some = omega (arith, length-append w (32 ∷ [])); lead = all_more blank w 32 h refl; name = refl; before = refl; after = refl; parts = (refl, tt); fine = refl }
supply_is w (b ∷ p) h m = record { some = omega (arith, length-append w (32 ∷ [])); lead = all_more blank w 32 h refl; name = m; before = refl; after = refl; parts = (refl, tt); fine = refl }

supplies_are : (w : List ℕ) (xs : List Attribute) → blanks w ≡ true → AreAttributes xs → AreAttributes (supplies w (prefixes xs))
supplies_are w [] h i = tt
supplies_are w (a ∷ xs) h i = (supply_is w (prefix_of a.name) h (prefix_may a.name i.0.name), supplies_are [] xs refl i.1)

wanted_are : (t : Tag) (w : List ℕ) → IsTagFront t w → AreAttributes (supplies w (wanted t))
wanted_are t w h = (supply_is w (prefix_of t.name) h.blanks (prefix_may t.name h.tag.name), supplies_are [] t.attributes refl h.tag.attributes)

-- what comes after a front of a text
gives_nil : (x : Option Ran) → gives [] x ≡ x
gives_nil None = refl
gives_nil (Some r) = refl

after_goes : (a b c : State) (s t : List ℕ) (e : List Event) → Goes a s b [] → Goes a (s ++ t) c e → Goes b t c e
after_goes a b c s t e g h = sym (gives_nil (run t b)) ∙ sym (ap (λ x. on_ran x t) g) ∙ sym (run-append s t a) ∙ h

blanks_here : (os : List Open) (t : Tag) (w : List ℕ) → blanks w ≡ true → Goes (InTag os t []) w (InTag os t w) []
blanks_here os t w h =
    goes_by (InTag os t []) (InTag os t w) (w ++ []) w [] (append-nil w)
    (blanks_go (InTag os t) (tag_spaces os t) [] w [] (InTag os t w) [] h refl)

-- it lives by a text that ends a name
pub record LivesOn (K : Type 0) (st : State) : Type 0 where
  pub text : List ℕ
  pub events : List Event
  pub goes : Goes st text (Text [] Zero) events
  pub whole : K → IsWhole text
  pub leaves : leaves text ≡ true

supply_text : (w a m z : List ℕ) → (((w ++ (32 ∷ [])) ++ a) ++ m) ++ z ≡ w ++ (((32 ∷ a) ++ m) ++ z)
supply_text w a m z = simp append_assoc

-- the declarations that are still wanted are of whole characters
prefix_whole : (n : Name) → IsWhole (written n) → IsWhole (prefix_of n)
prefix_whole (Plain l) h = refl
prefix_whole (Qualified p l) h = front_whole p 58 l refl h

supply_whole : (p : List ℕ) → IsWhole p → IsWhole (written (supply_name p) ++ (61 ∷ 34 ∷ 120 ∷ 34 ∷ []))
supply_whole [] h = refl
supply_whole (b ∷ p) h = whole_more (b ∷ p) (61 ∷ 34 ∷ 120 ∷ 34 ∷ []) h refl

supplies_whole : (xs : List Attribute) → NamesWhole xs → IsWhole (attributes_text (supplies [] (prefixes xs)))
supplies_whole [] h = refl
supplies_whole (a ∷ xs) h =
    let p = prefix_of a.name in
    whole_more (32 ∷ (written (supply_name p) ++ (61 ∷ 34 ∷ 120 ∷ 34 ∷ []))) (attributes_text (supplies [] (prefixes xs)))
    (supply_whole p (prefix_whole a.name h.0)) (supplies_whole xs h.1)

pub tag_lives : {K : Type 0} (os : List Open) (t : Tag) (w : List ℕ) → IsTagFront t w → (K → TagWhole os t) → LivesOn K (InTag os t w)
tag_lives os t w h i =
    let more = supplies w (wanted t) in
    let all = further t more in
    let r = resolves (scope_of os) t w in
    let l = text_lives (record { name = t.name; scope = declared all.attributes (scope_of os) } ∷ os) Zero (λ k. ((i k).name, (i k).above)) in
    let e = Start (length os + 1) r.0 (local_of t.name) ∷ l.events in
    let g1 = opens_go os all [] r.0 l.text (Text [] Zero) l.events r.1 l.goes in
    let g2 = attributes_go os t more (62 ∷ l.text) (Text [] Zero) e (wanted_are t w h) g1 in
    let a = written (supply_name (prefix_of t.name)) ++ (61 ∷ 34 ∷ 120 ∷ 34 ∷ []) in
    let m = attributes_text (supplies [] (prefixes t.attributes)) in
    let u = ((32 ∷ a) ++ m) ++ (62 ∷ l.text) in
    let g3 = goes_by (InTag os t []) (Text [] Zero) (attributes_text more ++ (62 ∷ l.text)) (w ++ u) e (supply_text w a m (62 ∷ l.text)) g2 in
    record {
      text = u;
      events = e;
      goes = after_goes (InTag os t []) (InTag os t w) (Text [] Zero) w u e (blanks_here os t w h.blanks) g3;
      whole = λ k. whole_more ((32 ∷ a) ++ m) (62 ∷ l.text)
          (whole_more a m (supply_whole (prefix_of t.name) (prefix_whole t.name (i k).name)) (supplies_whole t.attributes (i k).attributes)) (l.whole k);
      leaves = refl;
    }

any_lives : {K : Type 0} (st : State) → LivesOn K st → Lives K st
any_lives st l = record { text = l.text; events = l.events; goes = l.goes; whole = l.whole }

plain_longer : (l : List ℕ) → is_plain l ≡ true → is_plain (l ++ (97 ∷ [])) ≡ true
plain_longer [] h = cc
plain_longer (c ∷ l) h = let q = and_both (starts_name c) (list_all in_name l) h in and_of _ _ q.0 (all_more in_name l 97 q.1 refl)

longer_name : (n : Name) → is_front n ≡ true → is_name (longer n 97) ≡ true
longer_name (Plain l) h = plain_longer l h
longer_name (Qualified p []) h = and_of _ _ h refl
longer_name (Qualified p (c ∷ l)) h = let q = and_both (is_plain p) (is_plain (c ∷ l)) h in and_of _ _ q.0 (plain_longer (c ∷ l) q.1)

longer_whole : (n : Name) → IsWhole (written n) → IsWhole (written (longer n 97))
longer_whole n h = subst (λ (t : List ℕ). IsWhole t) (sym (written_longer n 97)) (whole_more (written n) (97 ∷ []) h refl)

name_lives : {K : Type 0} (os : List Open) (n : Name) → is_front n ≡ true → (K → AreWhole os) → (K → IsWhole (written n)) → Lives K (InName os n)
name_lives os n h w i =
    let m = longer n 97 in
    let is = longer_name n h in
    let l = tag_lives os (record { name = m; attributes = [] }) [] (record { tag = record { name = is; attributes = tt }; blanks = refl })
    (λ k. record { above = w k; name = longer_whole n (i k); attributes = tt }) in
    before (InName os n) (InName os m) 97 refl refl (record { text = l.text; events = l.events; goes = bare_goes os m l.text (Text [] Zero) l.events is l.leaves l.goes; whole = l.whole })

outside_lives : {K : Type 0} → Lives K Outside
outside_lives = before Outside (Markup Before) 60 refl refl (before (Markup Before) (InName [] (Plain (97 ∷ []))) 97 refl refl (name_lives [] (Plain (97 ∷ [])) refl (λ k. tt) (λ k. refl)))

at_lives : {K : Type 0} (p : Place) → (K → PlaceWhole p) → Lives K (at p)
at_lives First w = outside_lives
at_lives Before w = outside_lives
at_lives (Below os) w = text_lives os Zero w

close_lives : {K : Type 0} (p : Place) → (K → PlaceWhole p) → Lives K (CommentClose p)
close_lives p w = before (CommentClose p) (at p) 62 refl refl (at_lives p w)

comment_lives : {K : Type 0} (p : Place) → (K → PlaceWhole p) → Lives K (InComment p)
comment_lives p w = before (InComment p) (CommentDash p) 45 refl refl (before (CommentDash p) (CommentClose p) 45 refl refl (close_lives p w))

mark_lives : {K : Type 0} (p : Place) → (K → PlaceWhole p) → Lives K (Mark p)
mark_lives p w = before (Mark p) (OpenComment p) 45 refl refl (before (OpenComment p) (InComment p) 45 refl refl (comment_lives p w))

instruction_lives : {K : Type 0} (p : Place) → (K → PlaceWhole p) → Lives K (InInstruction p)
instruction_lives p w = before (InInstruction p) (InstructionEnd p) 63 refl refl (before (InstructionEnd p) (at p) 62 refl refl (at_lives p w))

never_xml : (t : Target) → is_target (target_next t 97) ≡ true
never_xml Unlike = refl
never_xml X = refl
never_xml Xm = refl
never_xml Xml = refl

end_target : {K : Type 0} (p : Place) (t : Target) → (K → PlaceWhole p) → is_target t ≡ true → Lives K (InTarget p t)
end_target p t w h =
    before (InTarget p t) (TargetEnd p) 63 refl (ap (λ z. on z (To (TargetEnd p) []) Bad) h) (before (TargetEnd p) (at p) 62 refl refl (at_lives p w))

target_lives : {K : Type 0} (p : Place) (t : Target) → (K → PlaceWhole p) → Lives K (InTarget p t)
target_lives p t w = before (InTarget p t) (InTarget p (target_next t 97)) 97 refl refl (end_target p (target_next t 97) w (never_xml t))

question_lives : {K : Type 0} (p : Place) → (K → PlaceWhole p) → Lives K (Question p)
question_lives First w = before (Question First) (InTarget First Unlike) 97 refl refl (target_lives First Unlike w)
question_lives Before w = before (Question Before) (InTarget Before Unlike) 97 refl refl (target_lives Before Unlike w)
question_lives (Below os) w = before (Question (Below os)) (InTarget (Below os) Unlike) 97 refl refl (target_lives (Below os) Unlike w)

section_lives : {K : Type 0} (o : Open) (os : List Open) → (K → AreWhole (o ∷ os)) → Lives K (InSection o os Zero)
section_lives o os w =
    before (InSection o os Zero) (InSection o os One) 93 refl refl (before (InSection o os One) (InSection o os Two) 93 refl refl
    (before (InSection o os Two) (Text (o ∷ os) Zero) 62 refl refl (text_lives (o ∷ os) Zero w)))

any_section_lives : {K : Type 0} (o : Open) (os : List Open) (n : Brackets) → (K → AreWhole (o ∷ os)) → Lives K (InSection o os n)
any_section_lives o os Zero w = section_lives o os w
any_section_lives o os One w = before (InSection o os One) (InSection o os Two) 93 refl refl (before (InSection o os Two) (Text (o ∷ os) Zero) 62 refl refl (text_lives (o ∷ os) Zero w))
any_section_lives o os Two w = before (InSection o os Two) (Text (o ∷ os) Zero) 62 refl refl (text_lives (o ∷ os) Zero w)

section_word_lives : {K : Type 0} (o : Open) (os : List Open) (came : List ℕ) (c : ℕ) (left : List ℕ) → codes "CDATA[" ≡ came ++ (c ∷ left) → (K → AreWhole (o ∷ os))
    → Lives K (SectionWord o os came c left)
section_word_lives o os came c left h w =
    let l = section_lives o os w in
    record {
      text = (c ∷ left) ++ l.text;
      events = l.events;
      goes = word_goes o os came (c ∷ left) l.text (Text [] Zero) l.events l.goes;
      whole = λ k. whole_more (c ∷ left) l.text (ascii_whole (c ∷ left) (all_later is_ascii came (c ∷ left) (ap (list_all is_ascii) (sym h)))) (l.whole k);
    }

abbrev pub IsDoneWant : Want → Type 0
IsDoneWant Done = Unit {0}
IsDoneWant w = ⊥

abbrev pub Not_done : Want → Type 0
Not_done Done = ⊥
Not_done w = Unit {0}

solid_not_done : (w : Want) → is_solid w ≡ true → Not_done w
solid_not_done Done h = cc
solid_not_done (One_of x y w) h = tt
solid_not_done (Space w) h = tt
solid_not_done (Spaces w) h = tt
solid_not_done (Either x w v) h = tt

-- the words go on with this byte
pub record GoesOn (K : Type 0) (w : Want) : Type 0 where
  pub byte : ℕ
  pub next : Want
  pub ascii : K → is_ascii byte ≡ true
  pub moves : want w byte ≡ Some next
  pub lives : Lives K (declare_state next)
  pub solid : is_solid w ≡ true → blank byte ≡ false

not_true : (x : Bool) → not x ≡ true → x ≡ false
not_true true h = cc
not_true false h = refl

or_first : (x y : Bool) → x ≡ true → (x || y) ≡ true
or_first true y h = refl
or_first false y h = cc

wait_lives : {K : Type 0} (w : Want) → (IsDoneWant w → Lives K (declare_state w)) → (Not_done w → GoesOn K w) → Lives K (declare_state w)
wait_lives Done f g = f tt
wait_lives (One_of x y w) f g = let k = g tt in before_if (Declaring (One_of x y w)) (declare_state k.next) k.byte k.ascii (ap declare_step k.moves) k.lives
wait_lives (Space w) f g = let k = g tt in before_if (Declaring (Space w)) (declare_state k.next) k.byte k.ascii (ap declare_step k.moves) k.lives
wait_lives (Spaces w) f g = let k = g tt in before_if (Declaring (Spaces w)) (declare_state k.next) k.byte k.ascii (ap declare_step k.moves) k.lives
wait_lives (Either x w v) f g = let k = g tt in before_if (Declaring (Either x w v)) (declare_state k.next) k.byte k.ascii (ap declare_step k.moves) k.lives

done_lives : {K : Type 0} (w : Want) → IsDoneWant w → Lives K (declare_state w)
done_lives Done h = outside_lives
done_lives (One_of x y w) h = absurd h
done_lives (Space w) h = absurd h
done_lives (Spaces w) h = absurd h
done_lives (Either x w v) h = absurd h

go_on : {K : Type 0} (w : Want) → Not_done w → is_good w ≡ true → (K → ascii_words w ≡ true) → GoesOn K w
go_on Done n h a = absurd n
go_on (One_of x y w) n h a = record {
  byte = x;
  next = w;
  ascii = λ k. (and_both (is_ascii x) (is_ascii y) (and_both (is_ascii x && is_ascii y) (ascii_words w) (a k)).0).0;
  moves = ap (λ z. cond z (Some w) None) (or_first (x == x) (x == y) (eqb-same x));
  lives = wait_lives w (done_lives w) (λ m. go_on w m h (λ k. (and_both (is_ascii x && is_ascii y) (ascii_words w) (a k)).1));
  solid = λ s. not_true (blank x) s;
}
go_on (Space w) n h a = record {
  byte = 32;
  next = w;
  ascii = λ k. refl;
  moves = refl;
  lives = wait_lives w (done_lives w) (λ m. go_on w m h a);
  solid = λ s. let k : false ≡ true = s in cc;
}
go_on (Spaces w) n h a =
    let q = and_both (is_solid w) (is_good w) h in
    let k = go_on w (solid_not_done w q.0) q.1 a in
    record {
      byte = k.byte;
      next = k.next;
      ascii = k.ascii;
      moves = ap (λ z. cond z (Some (Spaces w)) (want w k.byte)) (k.solid q.0) ∙ k.moves;
      lives = k.lives;
      solid = λ s. let j : false ≡ true = s in cc;
    }
go_on (Either x w v) n h a =
    let q = and_both (is_good w) (is_good v) h in
    record {
      byte = x;
      next = w;
      ascii = λ k. (and_both (is_ascii x) (ascii_words w && ascii_words v) (a k)).0;
      moves = ap (λ z. cond z (Some w) (want v x)) (eqb-same x);
      lives = wait_lives w (done_lives w) (λ m. go_on w m q.0 (λ k. (and_both (ascii_words w) (ascii_words v) (and_both (is_ascii x) (ascii_words w && ascii_words v) (a k)).1).0));
      solid = λ s. not_true (blank x) s;
    }

declare_lives : {K : Type 0} (w : Want) → is_good w ≡ true → (K → ascii_words w ≡ true) → Lives K (declare_state w)
declare_lives w h a = wait_lives w (done_lives w) (λ m. go_on w m h a)

declaring_lives : {K : Type 0} (w : Want) → IsSound (Declaring w) → (K → ascii_words w ≡ true) → Lives K (Declaring w)
declaring_lives Done h a = absurd h
declaring_lives (One_of x y w) h a = declare_lives (One_of x y w) h a
declaring_lives (Space w) h a = declare_lives (Space w) h a
declaring_lives (Spaces w) h a = declare_lives (Spaces w) h a
declaring_lives (Either x w v) h a = declare_lives (Either x w v) h a

-- Values.
not_empty : (ps : List Part) → bytes_eq (parts_value (ps ++ (Byte 120 ∷ []))) [] ≡ false
not_empty [] = refl
not_empty (Byte b ∷ ps) = refl
not_empty (Reference r [] ∷ ps) = not_empty ps
not_empty (Reference r (b ∷ m) ∷ ps) = refl

fine_by : (x y : Bool) → y ≡ false → not (x && y) ≡ true
fine_by true y h = ap not h
fine_by false y h = refl

fine_name : (n : Name) (v : List ℕ) → bytes_eq v [] ≡ false → not (undeclares n v) ≡ true
fine_name (Plain l) v h = refl
fine_name (Qualified p l) v h = fine_by (bytes_eq p (codes "xmlns")) (bytes_eq v []) h

stays_kind : (q : Quote) → sort q (kind 120) ≡ Stays
stays_kind Double = refl
stays_kind Single = refl

quote_ascii : (q : Quote) → is_ascii (quote_byte q) ≡ true
quote_ascii Double = refl
quote_ascii Single = refl

stays_in : (q : Quote) → in_value q 120 ≡ true
stays_in Double = refl
stays_in Single = refl

names_more : (xs : List Attribute) (a : Attribute) → NamesWhole xs → IsWhole (written a.name) → NamesWhole (xs ++ (a ∷ []))
names_more [] a h i = (i, tt)
names_more (x ∷ xs) a h i = (h.0, names_more xs a h.1 i)

pub tag_more : (os : List Open) (t : Tag) (a : Attribute) → TagWhole os t → IsWhole (written a.name) → TagWhole os (with_attribute t a)
tag_more os t a h i = record { above = h.above; name = h.name; attributes = names_more t.attributes a h.attributes i }

value_lives : {K : Type 0} (os : List Open) (t : Tag) (a : Attribute) → IsValueFront t a → (K → TagWhole os t) → (K → IsWhole (written a.name)) → Lives K (InValue os t a)
value_lives os t a h w i =
    let b = with_part a (Byte 120) in
    let fine : is_fine b ≡ true = fine_name a.name (parts_value (a.parts ++ (Byte 120 ∷ []))) (not_empty a.parts) in
    let front : IsValueFront t b = record { tag = h.tag; lead = h.lead; name = h.name; before = h.before; after = h.after; parts = parts_are a.quote a.parts (Byte 120 ∷ []) h.parts (stays_in a.quote, tt) } in
    let u = with_attribute t b in
    let l = any_lives (InTag os u []) (tag_lives os u [] (record { tag = record { name = h.tag.name; attributes = all_are t.attributes (b ∷ []) h.tag.attributes (is_attribute t b front fine, tt) }; blanks = refl }) (λ k. tag_more os t b (w k) (i k))) in
    before (InValue os t a) (InValue os t b) 120 refl (ap (value_step os t a 120) (stays_kind a.quote))
    (record {
      text = quote_byte a.quote ∷ l.text;
      events = l.events;
      goes = value_ends os t b l.text (Text [] Zero) l.events fine l.goes;
      whole = λ k. ascii_first (quote_byte a.quote) l.text (quote_ascii a.quote) (l.whole k);
    })

after_lives : {K : Type 0} (os : List Open) (t : Tag) (w : List ℕ) (n : Name) (x y : List ℕ) → IsEqualsFront t w n x y → (K → TagWhole os t) → (K → IsWhole (written n)) → Lives K (AfterEquals os t w n x y)
after_lives os t w n x y h u i =
    let a : Attribute = record { lead = w; name = n; before = x; after = y; quote = Double; parts = [] } in
    before (AfterEquals os t w n x y) (InValue os t a) 34 refl refl
    (value_lives os t a (record { tag = h.tag; lead = h.lead; name = h.name; before = h.before; after = h.after; parts = tt }) u i)

equals_lives : {K : Type 0} (os : List Open) (t : Tag) (w : List ℕ) (n : Name) (x : List ℕ) → IsEqualsFront t w n x [] → (K → TagWhole os t) → (K → IsWhole (written n)) → Lives K (BeforeEquals os t w n x)
equals_lives os t w n x h u i = before (BeforeEquals os t w n x) (AfterEquals os t w n x []) 61 refl refl (after_lives os t w n x [] h u i)

attribute_lives : {K : Type 0} (os : List Open) (t : Tag) (w : List ℕ) (n : Name) → IsNameFront t w n → (K → TagWhole os t) → (K → IsWhole (written n)) → Lives K (AtName os t w n)
attribute_lives os t w n h u i =
    let m = longer n 97 in
    let is = longer_name n h.name in
    let l = after_lives os t w m [] [] (record { tag = h.tag; lead = h.lead; name = is; before = refl; after = refl }) u (λ k. longer_whole n (i k)) in
    before (AtName os t w n) (AtName os t w m) 97 refl refl
    (record { text = 61 ∷ l.text; events = l.events; goes = equals_go os t w m [] l.text (Text [] Zero) l.events is refl l.goes; whole = l.whole })

empty_lives : {K : Type 0} (os : List Open) (t : Tag) (w ns : List ℕ) → (K → AreWhole os) → Lives K (EmptyTag os t w ns)
empty_lives os t w ns u =
    let l = text_lives os Zero u in
    let e = Start (length os + 1) ns (local_of t.name) ∷ End (length os + 1) ∷ [] in
    record { text = 62 ∷ l.text; events = e ++ l.events; goes = goes_cons (EmptyTag os t w ns) (Text os Zero) (Text [] Zero) 62 l.text e l.events refl l.goes; whole = l.whole }

-- End tags.
end_lives : {K : Type 0} (o : Open) (os : List Open) (w : List ℕ) → (K → AreWhole os) → Lives K (EndBlanks o os w)
end_lives o os w u =
    let l = text_lives os Zero u in
    record { text = 62 ∷ l.text; events = End (length os + 1) ∷ l.events; goes = end_blanks_go o os w [] l.text (Text [] Zero) l.events refl l.goes; whole = l.whole }

in_end_lives : {K : Type 0} (o : Open) (os : List Open) (came : List ℕ) (c : ℕ) (left : List ℕ) → (K → AreWhole os) → (K → IsWhole (c ∷ left)) → Lives K (InEnd o os came c left)
in_end_lives o os came c left u i =
    let l = end_lives o os [] u in
    record {
      text = (c ∷ left) ++ l.text;
      events = l.events;
      goes = left_goes o os came (c ∷ left) l.text (Text [] Zero) l.events l.goes;
      whole = λ k. whole_more (c ∷ left) l.text (i k) (l.whole k);
    }

-- References.
-- a front of a reference goes on to a whole one
pub record Completes (r : List ℕ) : Type 0 where
  pub first : ℕ
  pub rest : List ℕ
  pub value : List ℕ
  pub steps : Steps value r first rest

stands_by : (r l : List ℕ) (x other : Bool) → bytes_eq r l ≡ x → Completes l → (other ≡ true → Completes r) → (other || x) ≡ true → Completes r
stands_by r l true other e c f h = subst (λ (t : List ℕ). Completes t) (sym (same r l e)) c
stands_by r l false true e c f h = f refl
stands_by r l false false e c f h = cc

stands_last : (r l : List ℕ) → Completes l → bytes_eq r l ≡ true → Completes r
stands_last r l c h = subst (λ (t : List ℕ). Completes t) (sym (same r l h)) c

may_complete : (r : List ℕ) → may_name r ≡ true → Completes r
may_complete r =
    stands_by r (codes "quot") _ _ refl (record { first = 59; rest = []; value = 34 ∷ []; steps = refl }) (
    stands_by r (codes "quo") _ _ refl (record { first = 116; rest = 59 ∷ []; value = 34 ∷ []; steps = (refl, refl, refl) }) (
    stands_by r (codes "qu") _ _ refl (record { first = 111; rest = 116 ∷ 59 ∷ []; value = 34 ∷ []; steps = (refl, refl, (refl, refl, refl)) }) (
    stands_by r (codes "q") _ _ refl (record { first = 117; rest = 111 ∷ 116 ∷ 59 ∷ []; value = 34 ∷ []; steps = (refl, refl, (refl, refl, (refl, refl, refl))) }) (
    stands_by r (codes "apos") _ _ refl (record { first = 59; rest = []; value = 39 ∷ []; steps = refl }) (
    stands_by r (codes "apo") _ _ refl (record { first = 115; rest = 59 ∷ []; value = 39 ∷ []; steps = (refl, refl, refl) }) (
    stands_by r (codes "ap") _ _ refl (record { first = 111; rest = 115 ∷ 59 ∷ []; value = 39 ∷ []; steps = (refl, refl, (refl, refl, refl)) }) (
    stands_by r (codes "amp") _ _ refl (record { first = 59; rest = []; value = 38 ∷ []; steps = refl }) (
    stands_by r (codes "am") _ _ refl (record { first = 112; rest = 59 ∷ []; value = 38 ∷ []; steps = (refl, refl, refl) }) (
    stands_by r (codes "a") _ _ refl (record { first = 109; rest = 112 ∷ 59 ∷ []; value = 38 ∷ []; steps = (refl, refl, (refl, refl, refl)) }) (
    stands_by r (codes "gt") _ _ refl (record { first = 59; rest = []; value = 62 ∷ []; steps = refl }) (
    stands_by r (codes "g") _ _ refl (record { first = 116; rest = 59 ∷ []; value = 62 ∷ []; steps = (refl, refl, refl) }) (
    stands_by r (codes "lt") _ _ refl (record { first = 59; rest = []; value = 60 ∷ []; steps = refl }) (
    stands_last r (codes "l") (record { first = 116; rest = 59 ∷ []; value = 60 ∷ []; steps = (refl, refl, refl) }))))))))))))))

begin_completes : (b : ℕ) (r : List ℕ) (x : Bool) → (b == 35) ≡ x → cond x (may_number r) (may_name (b ∷ r)) ≡ true → Completes (b ∷ r)
begin_completes b r false e h = may_complete (b ∷ r) h
begin_completes b r true e h =
    let k = finishes r h in
    subst (λ (z : ℕ). Completes (z ∷ r)) (sym (eqb-true b 35 e)) (record { first = k.first; rest = k.rest; value = k.means; steps = number_steps r k.first k.rest k.means k.is })

pub stand_completes : (r : List ℕ) → may_stand r ≡ true → Completes r
stand_completes [] h = cc
stand_completes (b ∷ r) h = begin_completes b r (b == 35) refl h

completes : (r : List ℕ) → MayStand r → Completes r
completes r (inl e) = subst (λ (t : List ℕ). Completes t) (sym e) (record { first = 108; rest = 116 ∷ 59 ∷ []; value = 60 ∷ []; steps = (refl, refl, (refl, refl, refl)) })
completes r (inr h) = stand_completes r h

completes_ascii : (r : List ℕ) (k : Completes r) → list_all is_ascii (k.first ∷ k.rest) ≡ true
completes_ascii r k =
    all_later is_ascii r (k.first ∷ k.rest) (reference_ascii (r ++ (k.first ∷ k.rest)) k.value (steps_stand k.value r k.first k.rest k.steps))

reference_lives : {K : Type 0} (o : Open) (os : List Open) (r : List ℕ) → MayStand r → (K → AreWhole (o ∷ os)) → Lives K (InReference o os r)
reference_lives o os r h w =
    let k = completes r h in
    let l = text_lives (o ∷ os) Zero w in
    record {
      text = k.first ∷ (k.rest ++ l.text);
      events = chars k.value ++ l.events;
      goes = steps_go (InReference o os) (refers_text o os) (text_references o os) k.value r k.first k.rest l.text (Text (o ∷ os) Zero) (Text [] Zero) (chars k.value) l.events k.steps refl l.goes;
      whole = λ j. whole_more (k.first ∷ k.rest) l.text (ascii_whole (k.first ∷ k.rest) (completes_ascii r k)) (l.whole j);
    }

value_reference_lives : {K : Type 0} (os : List Open) (t : Tag) (a : Attribute) (r : List ℕ) → IsValueFront t a → MayStand r → (K → TagWhole os t) → (K → IsWhole (written a.name))
    → Lives K (ValueReference os t a r)
value_reference_lives os t a r h i w j =
    let k = completes r i in
    let p = Reference (r ++ (k.first ∷ k.rest)) k.value in
    let b = with_part a p in
    let front : IsValueFront t b = record {
      tag = h.tag;
      lead = h.lead;
      name = h.name;
      before = h.before;
      after = h.after;
      parts = parts_are a.quote a.parts (p ∷ []) h.parts (steps_stand k.value r k.first k.rest k.steps, tt);
    } in
    let l = value_lives os t b front w j in
    record {
      text = k.first ∷ (k.rest ++ l.text);
      events = l.events;
      goes = steps_go (ValueReference os t a) (refers_in os t a) (value_references os t a) k.value r k.first k.rest l.text (InValue os t b) (Text [] Zero) [] l.events k.steps refl l.goes;
      whole = λ j. whole_more (k.first ∷ k.rest) l.text (ascii_whole (k.first ∷ k.rest) (completes_ascii r k)) (l.whole j);
    }

-- The bytes of a byte order mark are no characters of their own.
not_special : Whole ≡ Special → ⊥
not_special h = cc

not_owes : {low high n : ℕ} → Whole ≡ Owes low high n → ⊥
not_owes h = cc

mark_third_lives : {K : Type 0} → (K → ⊥) → Lives K MarkThird
mark_third_lives never = before_if MarkThird Opening 191 (λ k. absurd (never k)) refl (before Opening Outside 32 refl refl outside_lives)

mark_second_lives : {K : Type 0} → (K → ⊥) → Lives K MarkSecond
mark_second_lives never = before_if MarkSecond MarkThird 187 (λ k. absurd (never k)) refl (mark_third_lives never)

pub lives : {K : Type 0} (st : State) → IsSound st → (K → Kept st Whole) → Lives K st
lives Begin h w = before Begin Outside 32 refl refl outside_lives
lives MarkSecond h w = mark_second_lives (λ k. absurd (not_special (w k)))
lives MarkThird h w = mark_third_lives (λ k. absurd (not_owes (w k)))
lives Opening h w = before Opening Outside 32 refl refl outside_lives
lives DeclareX h w = before DeclareX (InTarget First Unlike) 97 refl refl (target_lives First Unlike (λ k. tt))
lives DeclareXm h w = before DeclareXm (InTarget First Unlike) 97 refl refl (target_lives First Unlike (λ k. tt))
lives DeclareXml h w = before DeclareXml (InTarget First Unlike) 97 refl refl (target_lives First Unlike (λ k. tt))
lives (Declaring v) h w = declaring_lives v h (λ k. (w k).0)
lives Outside h w = outside_lives
lives (Text [] n) h w = text_lives [] n (λ k. tt)
lives (Text (o ∷ os) n) h w = text_lives (o ∷ os) n w
lives (Return o os) h w = before (Return o os) (Markup (Below (o ∷ os))) 60 refl refl (before (Markup (Below (o ∷ os))) (Mark (Below (o ∷ os))) 33 refl refl (mark_lives (Below (o ∷ os)) (λ k. (w k).0)))
lives (Markup p) h w = before (Markup p) (Mark p) 33 refl refl (mark_lives p (λ k. (w k).0))
lives (Mark p) h w = mark_lives p (λ k. (w k).0)
lives (OpenComment p) h w = before (OpenComment p) (InComment p) 45 refl refl (comment_lives p (λ k. (w k).0))
lives (InComment p) h w = comment_lives p w
lives (CommentDash p) h w = before (CommentDash p) (CommentClose p) 45 refl refl (close_lives p (λ k. (w k).0))
lives (CommentClose p) h w = close_lives p (λ k. (w k).0)
lives (Question p) h w = question_lives p (λ k. (w k).0)
lives (InTarget p t) h w = target_lives p t w
lives (TargetEnd p) h w = before (TargetEnd p) (at p) 62 refl refl (at_lives p (λ k. (w k).0))
lives (InInstruction p) h w = instruction_lives p w
lives (InstructionEnd p) h w = before (InstructionEnd p) (at p) 62 refl refl (at_lives p (λ k. (w k).0))
lives (SectionWord o os came c left) h w = section_word_lives o os came c left h (λ k. (w k).0)
lives (InSection o os n) h w = any_section_lives o os n w
lives (SectionReturn o os) h w = before (SectionReturn o os) (InSection o os One) 93 refl refl (any_section_lives o os One w)
lives (InReference o os r) h w = reference_lives o os r h (λ k. (w k).0)
lives (InName os n) h w = name_lives os n h (λ k. (w k).0) (λ k. (w k).1)
lives (InTag os t v) h w = any_lives (InTag os t v) (tag_lives os t v h (λ k. (w k).0))
lives (EmptyTag os t v ns) h w = empty_lives os t v ns (λ k. (w k).0)
lives (AtName os t v n) h w = attribute_lives os t v n h (λ k. (w k).0) (λ k. (w k).1)
lives (BeforeEquals os t v n x) h w = equals_lives os t v n x h (λ k. (w k).0) (λ k. (w k).1)
lives (AfterEquals os t v n x y) h w = after_lives os t v n x y h (λ k. (w k).0) (λ k. (w k).1)
lives (InValue os t a) h w = value_lives os t a h (λ k. (w k).0) (λ k. (w k).1)
lives (ValueReference os t a r) h w = value_reference_lives os t a r h.0 h.1 (λ k. (w k).0) (λ k. (w k).1)
lives (InEnd o os came c left) h w = in_end_lives o os came c left (λ k. (w k).0.1) (λ k. rest_whole o.name came (c ∷ left) Whole h (w k).0.0 (w k).1)
lives (EndBlanks o os v) h w = end_lives o os v (λ k. (w k).0)
