-- Each move of the machine leads where the rest of the text does.
use Rattle.std.proofs.Common.{◌≡◌, ℕ, ◌+◌, Bool, true, false, ◌&&◌, List, [], ◌∷◌, ◌++◌, length, refl, ap, sym, ◌∙◌, subst, append_assoc, append-nil, Option, Some, None, inl, inr}
use Rattle.std.specs.Prelude.{◌==◌, ◌||◌, codes, cond}
use Rattle.std.specs.List.{list_all}
use Rattle.std.proofs.lemmas.Bool.{eqb-true}
use Rattle.dav_doc.specs.Bytes.{Kind, Less, Ampersand, Blank, Greater, DoubleQuote, SingleQuote, Equals, Slash, Colon, Exclamation, Letter, Digit, Other, kind, letter_kind, name_kind, text_kind, blank_kind, starts_name, in_name, in_text, blank, begins_greater, begins_bracket, begins_end}
use Rattle.dav_doc.specs.Names.{Name, Plain, Qualified, written, is_plain}
use Rattle.dav_doc.specs.Document.{Forest, Chars, Event, Char, End, said, events, end_tag, CommentRest, closed, byte, dashed, ended_here, kept, Target, X, Xm, Xml, target_first, target_next, is_target, TargetRest, named, bare, spaced, Instruction, instruction_of, SectionRest, section_ends, section_byte, section_line, section_return, section_open, begins_close, text, reference, comment, instruction, section, space, remark, advice, begins_feed, line_end, lone_return}
use Rattle.dav_doc.specs.References.{stands_for, may_stand}
use Rattle.dav_doc.specs.Words.{Want, Done, One_of, Space, Spaces, Either, Words, done, one_of, space as words_space, further_space, no_space, this, other, version, want}
use Rattle.dav_doc.specs.Machine.{Open, Brackets, Zero, One, Two, Place, First, Before, Below, State, Begin, MarkSecond, MarkThird, Return, Opening, DeclareX, DeclareXm, DeclareXml, Declaring, Question, InTarget, TargetEnd, InInstruction, InstructionEnd, SectionWord, InSection, SectionReturn, begin_step, section_next, section_begins, held, section_plain, section_step, question_first, question_step, target_step, declare_state, declare_step, Outside, Text, Mark, OpenComment, InComment, CommentDash, CommentClose, InReference, Move, Bad, To, at, chars, outside_step, epilog_step, bracket_by, ends_section, text_by, text_step, on, longer, digit_longer, colon_longer, name_next, reference_step}
use Rattle.dav_doc.proofs.Meaning.{is_solid, is_good, FromOpen, FromRoot, FromDocument, FromMark, FromPlace, FromNext, Passes, Sections, Declares, Free, FromState, is_front, IsSound}
use Rattle.dav_doc.proofs.KindFacts.{IsKind, is_kind, all_more, put, and_both, and_of}

-- a move leads where the rest does
abbrev pub LeadsBy : State → ℕ → Move → Type 0
LeadsBy st b Bad = Unit {0}
LeadsBy st b (To new e) = IsSound new × ((s : List ℕ) (d : List Event) → FromState new s d → FromState st (b ∷ s) (e ++ d))

-- The root and what stands around it.
blank_before : (b : ℕ) → blank b ≡ true → (s : List ℕ) (d : List Event) → FromRoot s d → FromRoot (b ∷ s) d
blank_before b is s d r = record {
  tree = r.tree;
  spells = record {
    front = b ∷ r.spells.front;
    middle = r.spells.middle;
    back = r.spells.back;
    before = space b is r.spells.before;
    root = r.spells.root;
    after = r.spells.after;
    split = ap (λ t. b ∷ t) r.spells.split;
  };
  gives = r.gives;
}

pub outside_leads : (b : ℕ) (k : Kind) → IsKind b k → LeadsBy Outside b (outside_step b k)
outside_leads b Less is = (tt, λ s d from. let P : ℕ → Type 0 = λ x. FromRoot (x ∷ s) d in subst P (sym is.shows) from)
outside_leads b Blank is = (tt, λ s d from. blank_before b (ap blank_kind is.is) s d from)
outside_leads b k is = tt

bracketed : (n : Brackets) (s : List ℕ) → Free n (60 ∷ s)
bracketed Zero s = tt
bracketed One s = refl
bracketed Two s = (refl, refl)

referring : (n : Brackets) (s : List ℕ) → Free n (38 ∷ s)
referring Zero s = tt
referring One s = refl
referring Two s = (refl, refl)

blank_not : (n : Brackets) (b : ℕ) (s : List ℕ) → (b == 93) ≡ false → (b == 62) ≡ false → Free n (b ∷ s)
blank_not Zero b s h g = tt
blank_not One b s h g = ap (λ x. x && begins_greater s) h
blank_not Two b s h g = (g, ap (λ x. x && begins_greater s) h)

-- Text.
free_next : (n : Brackets) (b : ℕ) (x : Bool) (s : List ℕ) → (b == 93) ≡ x → (n ≡ Two → (b == 62) ≡ false) → Free (bracket_by n x) s → Free n (b ∷ s)
free_next Zero b x s e g h = tt
free_next One b false s e g h = ap (λ x. x && begins_greater s) e
free_next One b true s e g h = ap (λ x. x && begins_greater s) e ∙ h.0
free_next Two b false s e g h = (g refl, ap (λ x. x && begins_greater s) e)
free_next Two b true s e g h = (g refl, ap (λ x. x && begins_greater s) e ∙ h.0)

free_end : (n : Brackets) (b : ℕ) (x : Bool) (s : List ℕ) → (b == 93) ≡ x → Free (bracket_by n x) s → begins_end (b ∷ s) ≡ false
free_end n b false s e h = ap (λ x. x && begins_bracket s) e
free_end Zero b true s e h = ap (λ x. x && begins_bracket s) e ∙ h
free_end One b true s e h = ap (λ x. x && begins_bracket s) e ∙ h.1
free_end Two b true s e h = ap (λ x. x && begins_bracket s) e ∙ h.1

greater_front : (x y : List ℕ) → begins_greater (x ++ y) ≡ false → begins_greater x ≡ false
greater_front [] y h = refl
greater_front (b ∷ x) y h = h

and_less : (p x y : Bool) → (y ≡ false → x ≡ false) → (p && y) ≡ false → (p && x) ≡ false
and_less true x y f h = f h
and_less false x y f h = refl

bracket_front : (x y : List ℕ) → begins_bracket (x ++ y) ≡ false → begins_bracket x ≡ false
bracket_front [] y h = refl
bracket_front (b ∷ x) y h = and_less (b == 93) (begins_greater x) (begins_greater (x ++ y)) (greater_front x y) h

end_front : (x y : List ℕ) → begins_end (x ++ y) ≡ false → begins_end x ≡ false
end_front [] y h = refl
end_front (b ∷ x) y h = and_less (b == 93) (begins_bracket x) (begins_bracket (x ++ y)) (bracket_front x y) h

taken : (o : Open) (os : List Open) (b : ℕ) → in_text b ≡ true → (b == 13) ≡ false → (s : List ℕ) (d : List Event) → begins_end (b ∷ s) ≡ false
    → FromOpen (o ∷ os) s d → FromOpen (o ∷ os) (b ∷ s) (Char b ∷ d)
taken o os b is no_return s d ends i =
    let e : b ∷ s ≡ (b ∷ i.front) ++ (end_tag o.name i.trail ++ i.rest) = ap (λ t. b ∷ t) i.split in
    let f : begins_end ((b ∷ i.front) ++ (end_tag o.name i.trail ++ i.rest)) ≡ false = ap begins_end (sym e) ∙ ends in
    record {
      trees = Chars b i.trees;
      front = b ∷ i.front;
      trail = i.trail;
      rest = i.rest;
      later = i.later;
      content = text b is no_return (end_front (b ∷ i.front) (end_tag o.name i.trail ++ i.rest) f) i.content;
      blanks = i.blanks;
      split = e;
      after = i.after;
      gives = ap (λ t. Char b ∷ t) i.gives;
    }

pub said_events : (k : ℕ) (m : List ℕ) (f : Forest) → events k (said m f) ≡ chars m ++ events k f
said_events k [] f = refl
said_events k (b ∷ m) f = ap (λ t. Char b ∷ t) (said_events k m f)

referred : (o : Open) (os : List Open) (r m : List ℕ) → stands_for r ≡ Some m → (s : List ℕ) (d : List Event)
    → FromOpen (o ∷ os) s d → FromOpen (o ∷ os) (38 ∷ (r ++ s)) (chars m ++ d)
referred o os r m is s d i = record {
  trees = said m i.trees;
  front = 38 ∷ (r ++ i.front);
  trail = i.trail;
  rest = i.rest;
  later = i.later;
  content = reference r m is i.content;
  blanks = i.blanks;
  split = ap (λ t. 38 ∷ (r ++ t)) i.split ∙ ap (λ t. 38 ∷ t) (sym (append_assoc r i.front (end_tag o.name i.trail ++ i.rest)));
  after = i.after;
  gives = ap (λ t. chars m ++ t) i.gives ∙ sym (append_assoc (chars m) (events (length os + 1 + 1) i.trees) (End (length os + 1) ∷ i.later))
      ∙ ap (λ t. t ++ (End (length os + 1) ∷ i.later)) (sym (said_events (length os + 1 + 1) m i.trees));
}

not_greater : (b : ℕ) (k : Kind) → kind b ≡ k → ends_section Two k ≡ false → (x : Bool) → (b == 62) ≡ x → (b == 62) ≡ false
not_greater b k is h false e = e
not_greater b k is h true e =
    let f : kind b ≡ Greater = ap kind (eqb-true b 62 e) in
    let g : true ≡ false = ap (ends_section Two) (sym f ∙ is) ∙ h in cc

not_ended : (n : Brackets) (b : ℕ) (k : Kind) → kind b ≡ k → ends_section n k ≡ false → n ≡ Two → (b == 62) ≡ false
not_ended n b k is h e = not_greater b k is (ap (λ z. ends_section z k) (sym e) ∙ h) (b == 62) refl

text_plain : (o : Open) (os : List Open) (n : Brackets) (b : ℕ) (k : Kind) (x : Bool) → kind b ≡ k → in_text b ≡ true → (b == 13) ≡ false → ends_section n k ≡ x
    → LeadsBy (Text (o ∷ os) n) b (text_by o os n b x)
text_plain o os n b k true e is r h = tt
text_plain o os n b k false e is r h = (
  tt,
  λ s d from. (taken o os b is r s d (free_end n b (b == 93) s refl from.1) from.0, free_next n b (b == 93) s refl (not_ended n b k e h) from.1),
)

not_return : (b : ℕ) (k : Kind) → kind b ≡ k → blank_kind k ≡ false → (x : Bool) → (b == 13) ≡ x → (b == 13) ≡ false
not_return b k is h false e = e
not_return b k is h true e =
    let f : kind b ≡ Blank = ap kind (eqb-true b 13 e) in
    let g : true ≡ false = ap blank_kind (sym f ∙ is) ∙ h in cc

free_return : (n : Brackets) (s : List ℕ) → Free n (13 ∷ s)
free_return Zero s = tt
free_return One s = refl
free_return Two s = (refl, refl)

text_blank : (o : Open) (os : List Open) (n : Brackets) (b : ℕ) (x : Bool) → kind b ≡ Blank → (b == 13) ≡ x
    → LeadsBy (Text (o ∷ os) n) b (on x (To (Return o os) (Char 10 ∷ [])) (text_by o os n b (ends_section n Blank)))
text_blank o os n b false is e = text_plain o os n b Blank (ends_section n Blank) is (ap text_kind is) e refl
text_blank o os n b true is e = (
  tt,
  λ s d from. let P : ℕ → Type 0 = λ x. FromOpen (o ∷ os) (x ∷ s) (Char 10 ∷ d) × Free n (x ∷ s) in subst P (sym (eqb-true b 13 e)) (from, free_return n s),
)

pub text_leads : (o : Open) (os : List Open) (n : Brackets) (b : ℕ) (k : Kind) → IsKind b k → LeadsBy (Text (o ∷ os) n) b (text_step o os n b k)
text_leads o os n b Less is = (
  tt,
  λ s d from. let P : ℕ → Type 0 = λ x. FromOpen (o ∷ os) (x ∷ s) d × Free n (x ∷ s) in subst P (sym is.shows) (from, bracketed n s),
)
text_leads o os n b Ampersand is = (
  inl refl,
  λ s d from. let P : ℕ → Type 0 = λ x. FromOpen (o ∷ os) (x ∷ s) d × Free n (x ∷ s) in subst P (sym is.shows) (from, referring n s),
)
text_leads o os n b Blank is = text_blank o os n b (b == 13) is.is refl
text_leads o os n b k is = text_plain o os n b k (ends_section n k) is.is (ap text_kind is.is) (not_return b k is.is refl (b == 13) refl) refl

-- Line ends.
ended_line : (o : Open) (os : List Open) (s : List ℕ) (d : List Event) → FromOpen (o ∷ os) s d → FromOpen (o ∷ os) (13 ∷ 10 ∷ s) (Char 10 ∷ d)
ended_line o os s d i = record {
  trees = Chars 10 i.trees;
  front = 13 ∷ 10 ∷ i.front;
  trail = i.trail;
  rest = i.rest;
  later = i.later;
  content = line_end i.content;
  blanks = i.blanks;
  split = ap (λ t. 13 ∷ 10 ∷ t) i.split;
  after = i.after;
  gives = ap (λ t. Char 10 ∷ t) i.gives;
}

feed_front : (x y : List ℕ) → begins_feed (x ++ y) ≡ false → begins_feed x ≡ false
feed_front [] y h = refl
feed_front (b ∷ x) y h = h

returned : (o : Open) (os : List Open) (s : List ℕ) (d : List Event) → begins_feed s ≡ false → FromOpen (o ∷ os) s d → FromOpen (o ∷ os) (13 ∷ s) (Char 10 ∷ d)
returned o os s d h i = record {
  trees = Chars 10 i.trees;
  front = 13 ∷ i.front;
  trail = i.trail;
  rest = i.rest;
  later = i.later;
  content = lone_return (feed_front i.front (end_tag o.name i.trail ++ i.rest) (ap begins_feed (sym i.split) ∙ h)) i.content;
  blanks = i.blanks;
  split = ap (λ t. 13 ∷ t) i.split;
  after = i.after;
  gives = ap (λ t. Char 10 ∷ t) i.gives;
}

after_return : (o : Open) (os : List Open) (b : ℕ) (m : Move) → (b == 10) ≡ false → LeadsBy (Text (o ∷ os) Zero) b m → LeadsBy (Return o os) b m
after_return o os b Bad e h = tt
after_return o os b (To new x) e h = (h.0, λ s d from. returned o os (b ∷ s) (x ++ d) e (h.1 s d from).0)

pub return_leads : (o : Open) (os : List Open) (b : ℕ) (x : Bool) → (b == 10) ≡ x → LeadsBy (Return o os) b (on x (To (Text (o ∷ os) Zero) []) (text_step o os Zero b (kind b)))
return_leads o os b false e = after_return o os b (text_step o os Zero b (kind b)) e (text_leads o os Zero b (kind b) (is_kind b))
return_leads o os b true e = (
  tt,
  λ s d from. let P : ℕ → Type 0 = λ x. FromOpen (o ∷ os) (13 ∷ x ∷ s) (Char 10 ∷ d) in subst P (sym (eqb-true b 10 e)) (ended_line o os s d from.0),
)

pub blank_number : (b c : ℕ) → kind b ≡ Blank → (blank c ≡ true → ⊥) → (x : Bool) → (b == c) ≡ x → (b == c) ≡ false
blank_number b c is not_blank false e = e
blank_number b c is not_blank true e =
    absurd (not_blank (ap blank (sym (eqb-true b c e)) ∙ ap blank_kind is))

free_blank : (n : Brackets) (b : ℕ) (s : List ℕ) → kind b ≡ Blank → Free n (b ∷ s)
free_blank n b s is =
    blank_not n b s (blank_number b 93 is (λ h. let k : false ≡ true = h in cc) (b == 93) refl) (blank_number b 62 is (λ h. let k : false ≡ true = h in cc) (b == 62) refl)

pub epilog_leads : (n : Brackets) (b : ℕ) (k : Kind) → IsKind b k → LeadsBy (Text [] n) b (epilog_step b k)
epilog_leads n b Less is = (
  tt,
  λ s d from. let P : ℕ → Type 0 = λ x. FromOpen [] (x ∷ s) d × Free n (x ∷ s) in subst P (sym is.shows) (from, bracketed n s),
)
epilog_leads n b Blank is = (tt, λ s d from. ((space b (ap blank_kind is.is) from.0.0, from.0.1), free_blank n b s is.is))
epilog_leads n b k is = tt

-- References in text.
text_reference_front : (o : Open) (os : List Open) (r : List ℕ) (b : ℕ) (x : Bool) → may_stand (r ++ (b ∷ [])) ≡ x
    → LeadsBy (InReference o os r) b (on x (To (InReference o os (r ++ (b ∷ []))) []) Bad)
text_reference_front o os r b false e = tt
text_reference_front o os r b true e = (inr e, λ s d from. let P : List ℕ → Type 0 = λ t. FromOpen (o ∷ os) (38 ∷ t) d in put P r b s from)

pub reference_leads : (o : Open) (os : List Open) (r : List ℕ) (b : ℕ) (x : Option (List ℕ)) → stands_for (r ++ (b ∷ [])) ≡ x
    → LeadsBy (InReference o os r) b (reference_step o os (r ++ (b ∷ [])) x)
reference_leads o os r b None is = text_reference_front o os r b (may_stand (r ++ (b ∷ []))) refl
reference_leads o os r b (Some m) is = (
  tt,
  λ s d from. let P : List ℕ → Type 0 = λ t. FromOpen (o ∷ os) (38 ∷ t) (chars m ++ d) in put P r b s (referred o os (r ++ (b ∷ [])) m is s d from.0),
)

-- Comments.
remarked : (c : List ℕ) → CommentRest c → (s : List ℕ) (d : List Event) → FromRoot s d → FromRoot (60 ∷ 33 ∷ 45 ∷ 45 ∷ (c ++ s)) d
remarked c is s d r = record {
  tree = r.tree;
  spells = record {
    front = 60 ∷ 33 ∷ 45 ∷ 45 ∷ (c ++ r.spells.front);
    middle = r.spells.middle;
    back = r.spells.back;
    before = remark c is r.spells.before;
    root = r.spells.root;
    after = r.spells.after;
    split = ap (λ t. 60 ∷ 33 ∷ 45 ∷ 45 ∷ (c ++ t)) r.spells.split ∙ ap (λ t. 60 ∷ 33 ∷ 45 ∷ 45 ∷ t) (sym (append_assoc c r.spells.front (r.spells.middle ++ r.spells.back)));
  };
  gives = r.gives;
}

-- a document without a declaration
pub undeclared : (s : List ℕ) (d : List Event) → FromRoot s d → FromDocument s d
undeclared s d r = record { tree = r.tree; spells = record { first = []; rest = s; declared = inl refl; rooted = r.spells; split = refl }; gives = r.gives }

commented : (p : Place) (c : List ℕ) → CommentRest c → (s : List ℕ) (d : List Event) → FromNext p s d → FromPlace p (60 ∷ 33 ∷ 45 ∷ 45 ∷ (c ++ s)) d
commented First c is s d from = undeclared (60 ∷ 33 ∷ 45 ∷ 45 ∷ (c ++ s)) d (remarked c is s d from)
commented Before c is s d from = remarked c is s d from
commented (Below []) c is s d from = (remark c is from.0, from.1)
commented (Below (o ∷ os)) c is s d i = record {
  trees = i.trees;
  front = 60 ∷ 33 ∷ 45 ∷ 45 ∷ (c ++ i.front);
  trail = i.trail;
  rest = i.rest;
  later = i.later;
  content = comment c is i.content;
  blanks = i.blanks;
  split = ap (λ t. 60 ∷ 33 ∷ 45 ∷ 45 ∷ (c ++ t)) i.split ∙ ap (λ t. 60 ∷ 33 ∷ 45 ∷ 45 ∷ t) (sym (append_assoc c i.front (end_tag o.name i.trail ++ i.rest)));
  after = i.after;
  gives = i.gives;
}

-- Processing instructions.
advised : (c : List ℕ) → Instruction c → (s : List ℕ) (d : List Event) → FromRoot s d → FromRoot (60 ∷ 63 ∷ (c ++ s)) d
advised c is s d r = record {
  tree = r.tree;
  spells = record {
    front = 60 ∷ 63 ∷ (c ++ r.spells.front);
    middle = r.spells.middle;
    back = r.spells.back;
    before = advice c is r.spells.before;
    root = r.spells.root;
    after = r.spells.after;
    split = ap (λ t. 60 ∷ 63 ∷ (c ++ t)) r.spells.split ∙ ap (λ t. 60 ∷ 63 ∷ t) (sym (append_assoc c r.spells.front (r.spells.middle ++ r.spells.back)));
  };
  gives = r.gives;
}

instructed : (p : Place) (c : List ℕ) → Instruction c → (s : List ℕ) (d : List Event) → FromNext p s d → FromPlace p (60 ∷ 63 ∷ (c ++ s)) d
instructed First c is s d from = undeclared (60 ∷ 63 ∷ (c ++ s)) d (advised c is s d from)
instructed Before c is s d from = advised c is s d from
instructed (Below []) c is s d from = (advice c is from.0, from.1)
instructed (Below (o ∷ os)) c is s d i = record {
  trees = i.trees;
  front = 60 ∷ 63 ∷ (c ++ i.front);
  trail = i.trail;
  rest = i.rest;
  later = i.later;
  content = instruction c is i.content;
  blanks = i.blanks;
  split = ap (λ t. 60 ∷ 63 ∷ (c ++ t)) i.split ∙ ap (λ t. 60 ∷ 63 ∷ t) (sym (append_assoc c i.front (end_tag o.name i.trail ++ i.rest)));
  after = i.after;
  gives = i.gives;
}

-- the text from the target on
target_front : (p : Place) (b : ℕ) → starts_name b ≡ true → (s : List ℕ) (d : List Event) → Passes (TargetRest (target_first b)) p s d → FromPlace p (60 ∷ 63 ∷ b ∷ s) d
target_front p b is s d from =
    let P : List ℕ → Type 0 = λ t. FromPlace p (60 ∷ 63 ∷ b ∷ t) d in
    subst P (sym from.split) (instructed p (b ∷ from.text) (instruction_of b is from.is) from.later d from.after)

question_first_leads : (p : Place) (b : ℕ) (x : Bool) → (b == 120) ≡ x → starts_name b ≡ true → LeadsBy (Question p) b (question_first p b x)
question_first_leads First b true e is = (tt, λ s d from. let P : ℕ → Type 0 = λ z. FromDocument (60 ∷ 63 ∷ z ∷ s) d in subst P (sym (eqb-true b 120 e)) from)
question_first_leads First b false e is = (tt, λ s d from. target_front First b is s d from)
question_first_leads Before b x e is = (tt, λ s d from. target_front Before b is s d from)
question_first_leads (Below os) b x e is = (tt, λ s d from. target_front (Below os) b is s d from)

pub question_leads : (p : Place) (b : ℕ) (k : Kind) → IsKind b k → LeadsBy (Question p) b (question_step p b k)
question_leads p b Letter is = question_first_leads p b (b == 120) refl (ap letter_kind is.is)
question_leads p b k is = tt

target_close : (p : Place) (t : Target) (b : ℕ) (x y : Bool) → (b == 63) ≡ x → is_target t ≡ y → LeadsBy (InTarget p t) b (on x (on y (To (TargetEnd p) []) Bad) Bad)
target_close p t b false y e f = tt
target_close p t b true false e f = tt
target_close p t b true true e f = (
  tt,
  λ s d from. record { text = 63 ∷ 62 ∷ []; later = from.later; is = bare f; split = ap (λ z. z ∷ s) (eqb-true b 63 e) ∙ ap (λ z. 63 ∷ z) (from.split ∙ ap (λ z. z ++ from.later) from.is); after = from.after },
)

target_blank : (p : Place) (t : Target) (b : ℕ) (y : Bool) → blank b ≡ true → is_target t ≡ y → LeadsBy (InTarget p t) b (on y (To (InInstruction p) []) Bad)
target_blank p t b false e f = tt
target_blank p t b true e f = (
  tt,
  λ s d from. record { text = b ∷ from.text; later = from.later; is = spaced b f e from.is; split = ap (λ z. b ∷ z) from.split; after = from.after },
)

target_more : (p : Place) (t : Target) (b : ℕ) → in_name b ≡ true → LeadsBy (InTarget p t) b (To (InTarget p (target_next t b)) [])
target_more p t b is = (
  tt,
  λ s d from. record { text = b ∷ from.text; later = from.later; is = named b is from.is; split = ap (λ z. b ∷ z) from.split; after = from.after },
)

pub target_leads : (p : Place) (t : Target) (b : ℕ) (k : Kind) → IsKind b k → LeadsBy (InTarget p t) b (target_step p t b k)
target_leads p t b Letter is = target_more p t b (ap name_kind is.is)
target_leads p t b Digit is = target_more p t b (ap name_kind is.is)
target_leads p t b Blank is = target_blank p t b (is_target t) (ap blank_kind is.is) refl
target_leads p t b k is = target_close p t b (b == 63) (is_target t) refl refl

at_place : (p : Place) (s : List ℕ) (d : List Event) → FromState (at p) s d → FromNext p s d
at_place First s d from = from
at_place Before s d from = from
at_place (Below os) s d from = from.0

at_sound : (p : Place) → IsSound (at p)
at_sound First = tt
at_sound Before = tt
at_sound (Below os) = tt

pub target_end_leads : (p : Place) (b : ℕ) (x : Bool) → (b == 62) ≡ x → LeadsBy (TargetEnd p) b (on x (To (at p) []) Bad)
target_end_leads p b false e = tt
target_end_leads p b true e = (
  at_sound p,
  λ s d from. record { text = 62 ∷ []; later = s; is = refl; split = ap (λ z. z ∷ s) (eqb-true b 62 e); after = at_place p s d from },
)

not_close : (b : ℕ) (s : List ℕ) → (b == 63) ≡ false → begins_close (b ∷ s) ≡ false
not_close b s e = ap (λ z. z && begins_greater s) e

pub instruction_leads : (p : Place) (b : ℕ) (x : Bool) → (b == 63) ≡ x → LeadsBy (InInstruction p) b (on x (To (InstructionEnd p) []) (To (InInstruction p) []))
instruction_leads p b false e = (
  tt,
  λ s d from. record { text = b ∷ from.text; later = from.later; is = kept b (not_close b from.text e) from.is; split = ap (λ z. b ∷ z) from.split; after = from.after },
)
instruction_leads p b true e = (
  tt,
  λ s d from. record { text = 63 ∷ from.text; later = from.later; is = from.is; split = ap (λ z. z ∷ s) (eqb-true b 63 e) ∙ ap (λ z. 63 ∷ z) from.split; after = from.after },
)

pub instruction_end_leads : (p : Place) (b : ℕ) (x y : Bool) → (b == 62) ≡ x → (b == 63) ≡ y
    → LeadsBy (InstructionEnd p) b (on x (To (at p) []) (on y (To (InstructionEnd p) []) (To (InInstruction p) [])))
instruction_end_leads p b true y e f = (
  at_sound p,
  λ s d from. record { text = 62 ∷ []; later = s; is = ended_here; split = ap (λ z. z ∷ s) (eqb-true b 62 e); after = at_place p s d from },
)
instruction_end_leads p b false true e f = (
  tt,
  λ s d from. record { text = 63 ∷ from.text; later = from.later; is = kept 63 refl from.is; split = ap (λ z. z ∷ s) (eqb-true b 63 f) ∙ ap (λ z. 63 ∷ z) from.split; after = from.after },
)
instruction_end_leads p b false false e f = (
  tt,
  λ s d from. record { text = b ∷ from.text; later = from.later; is = kept 63 e (kept b (not_close b from.text f) from.is); split = ap (λ z. b ∷ z) from.split; after = from.after },
)

-- The XML declaration.
pub begin_leads : (b : ℕ) (k : Kind) → IsKind b k → LeadsBy Opening b (begin_step b k)
begin_leads b Less is = (tt, λ s d from. let P : ℕ → Type 0 = λ x. FromDocument (x ∷ s) d in subst P (sym is.shows) from)
begin_leads b Blank is = (tt, λ s d from. undeclared (b ∷ s) d (blank_before b (ap blank_kind is.is) s d from))
begin_leads b k is = tt

-- The byte order mark.
unmarked : (s : List ℕ) (d : List Event) → FromDocument s d → FromMark s d
unmarked s d r = record { tree = r.tree; spells = record { mark = []; document = s; marked = inl refl; declared = r.spells; split = refl }; gives = r.gives }

marked : (s : List ℕ) (d : List Event) → FromDocument s d → FromMark (239 ∷ 187 ∷ 191 ∷ s) d
marked s d r = record { tree = r.tree; spells = record { mark = 239 ∷ 187 ∷ 191 ∷ []; document = s; marked = inr refl; declared = r.spells; split = refl }; gives = r.gives }

not_marked : (b : ℕ) (m : Move) → LeadsBy Opening b m → LeadsBy Begin b m
not_marked b Bad h = tt
not_marked b (To new x) h = (h.0, λ s d from. unmarked (b ∷ s) (x ++ d) (h.1 s d from))

pub first_leads : (b : ℕ) (x : Bool) → (b == 239) ≡ x → LeadsBy Begin b (on x (To MarkSecond []) (begin_step b (kind b)))
first_leads b false e = not_marked b (begin_step b (kind b)) (begin_leads b (kind b) (is_kind b))
first_leads b true e = (tt, λ s d from. let P : ℕ → Type 0 = λ x. FromMark (x ∷ s) d in subst P (sym (eqb-true b 239 e)) from)

pub second_leads : (b : ℕ) (x : Bool) → (b == 187) ≡ x → LeadsBy MarkSecond b (on x (To MarkThird []) Bad)
second_leads b false e = tt
second_leads b true e = (tt, λ s d from. let P : ℕ → Type 0 = λ x. FromMark (239 ∷ x ∷ s) d in subst P (sym (eqb-true b 187 e)) from)

pub third_leads : (b : ℕ) (x : Bool) → (b == 191) ≡ x → LeadsBy MarkThird b (on x (To Opening []) Bad)
third_leads b false e = tt
third_leads b true e = (tt, λ s d from. let P : ℕ → Type 0 = λ x. FromMark (239 ∷ 187 ∷ x ∷ s) d in subst P (sym (eqb-true b 191 e)) (marked s d from))

-- a state that knows more than the target's leads where that does
embed : (st : State) (t : Target) (b : ℕ) (m : Move) → ((s : List ℕ) (d : List Event) → Passes (TargetRest t) First s d → FromState st s d)
    → LeadsBy (InTarget First t) b m → LeadsBy st b m
embed st t b Bad f h = tt
embed st t b (To new e) f h = (h.0, λ s d from. f (b ∷ s) (e ++ d) (h.1 s d from))

before_by : (b : ℕ) (t : Target) → in_name b ≡ true → (s : List ℕ) (d : List Event) → Passes (TargetRest (target_next t b)) First s d → Passes (TargetRest t) First (b ∷ s) d
before_by b t is s d from = record { text = b ∷ from.text; later = from.later; is = named b is from.is; split = ap (λ z. b ∷ z) from.split; after = from.after }

from_x : (s : List ℕ) (d : List Event) → Passes (TargetRest X) First s d → FromDocument (60 ∷ 63 ∷ 120 ∷ s) d
from_x s d from = target_front First 120 refl s d from

from_xm : (s : List ℕ) (d : List Event) → Passes (TargetRest Xm) First s d → FromDocument (60 ∷ 63 ∷ 120 ∷ 109 ∷ s) d
from_xm s d from = from_x (109 ∷ s) d (before_by 109 X refl s d from)

from_xml : (s : List ℕ) (d : List Event) → Passes (TargetRest Xml) First s d → FromDocument (60 ∷ 63 ∷ 120 ∷ 109 ∷ 108 ∷ s) d
from_xml s d from = from_xm (108 ∷ s) d (before_by 108 Xm refl s d from)

pub declare_x_leads : (b : ℕ) (x : Bool) → (b == 109) ≡ x → LeadsBy DeclareX b (on x (To DeclareXm []) (target_step First X b (kind b)))
declare_x_leads b false e = embed DeclareX X b (target_step First X b (kind b)) from_x (target_leads First X b (kind b) (is_kind b))
declare_x_leads b true e = (tt, λ s d from. let P : ℕ → Type 0 = λ z. FromDocument (60 ∷ 63 ∷ 120 ∷ z ∷ s) d in subst P (sym (eqb-true b 109 e)) from)

pub declare_xm_leads : (b : ℕ) (x : Bool) → (b == 108) ≡ x → LeadsBy DeclareXm b (on x (To DeclareXml []) (target_step First Xm b (kind b)))
declare_xm_leads b false e = embed DeclareXm Xm b (target_step First Xm b (kind b)) from_xm (target_leads First Xm b (kind b) (is_kind b))
declare_xm_leads b true e = (tt, λ s d from. let P : ℕ → Type 0 = λ z. FromDocument (60 ∷ 63 ∷ 120 ∷ 109 ∷ z ∷ s) d in subst P (sym (eqb-true b 108 e)) from)

pub declare_xml_leads : (b : ℕ) (x : Bool) → blank b ≡ x → LeadsBy DeclareXml b (on x (To (Declaring version) []) (target_step First Xml b (kind b)))
declare_xml_leads b false e = embed DeclareXml Xml b (target_step First Xml b (kind b)) from_xml (target_leads First Xml b (kind b) (is_kind b))
declare_xml_leads b true e = (
  refl,
  λ s d from. record {
    tree = from.after.tree;
    spells = record {
      first = 60 ∷ 63 ∷ 120 ∷ 109 ∷ 108 ∷ b ∷ from.text;
      rest = from.later;
      declared = inr (120 ∷ 109 ∷ 108 ∷ b ∷ from.text, refl, one_of 120 refl (one_of 109 refl (one_of 108 refl (words_space b e from.is))));
      rooted = from.after.spells;
      split = ap (λ z. 60 ∷ 63 ∷ 120 ∷ 109 ∷ 108 ∷ b ∷ z) from.split;
    };
    gives = from.after.gives;
  },
)

-- a byte of these words leads to those
pub record Wants (w : Want) (b : ℕ) (v : Want) : Type 0 where
  pub words : (s : List ℕ) → Words v s → Words w (b ∷ s)
  pub good : is_good w ≡ true → is_good v ≡ true

wants_one : (x y : ℕ) (w : Want) (b : ℕ) (v : Want) (z : Bool) → ((b == x) || (b == y)) ≡ z → cond z (Some w) None ≡ Some v → Wants (One_of x y w) b v
wants_one x y w b v true e h =
    let f : w ≡ v = cc in
    record { words = λ s i. one_of b e (subst (λ (u : Want). Words u s) (sym f) i); good = λ g. ap is_good (sym f) ∙ g }
wants_one x y w b v false e h = cc

wants_space : (w : Want) (b : ℕ) (v : Want) (z : Bool) → blank b ≡ z → cond z (Some w) None ≡ Some v → Wants (Space w) b v
wants_space w b v true e h =
    let f : w ≡ v = cc in
    record { words = λ s i. words_space b e (subst (λ (u : Want). Words u s) (sym f) i); good = λ g. ap is_good (sym f) ∙ g }
wants_space w b v false e h = cc

wants_spaces : (w : Want) (b : ℕ) (v : Want) (z : Bool) → blank b ≡ z → (want w b ≡ Some v → Wants w b v) → cond z (Some (Spaces w)) (want w b) ≡ Some v → Wants (Spaces w) b v
wants_spaces w b v true e k h =
    let f : Spaces w ≡ v = cc in
    record { words = λ s i. further_space b e (subst (λ (u : Want). Words u s) (sym f) i); good = λ g. ap is_good (sym f) ∙ g }
wants_spaces w b v false e k h =
    let i = k h in
    record { words = λ s j. no_space b e (i.words s j); good = λ g. i.good (and_both (is_solid w) (is_good w) g).1 }

wants_either : (x : ℕ) (w v : Want) (b : ℕ) (u : Want) (z : Bool) → (b == x) ≡ z → (want v b ≡ Some u → Wants v b u) → cond z (Some w) (want v b) ≡ Some u → Wants (Either x w v) b u
wants_either x w v b u true e k h =
    let f : w ≡ u = cc in
    record { words = λ s i. this b e (subst (λ (z : Want). Words z s) (sym f) i); good = λ g. ap is_good (sym f) ∙ (and_both (is_good w) (is_good v) g).0 }
wants_either x w v b u false e k h =
    let i = k h in
    record { words = λ s j. other b e (i.words s j); good = λ g. i.good (and_both (is_good w) (is_good v) g).1 }

wants : (w : Want) (b : ℕ) (v : Want) → want w b ≡ Some v → Wants w b v
wants Done b v h = cc
wants (One_of x y w) b v h = wants_one x y w b v ((b == x) || (b == y)) refl h
wants (Space w) b v h = wants_space w b v (blank b) refl h
wants (Spaces w) b v h = wants_spaces w b v (blank b) refl (wants w b v) h
wants (Either x w v) b u h = wants_either x w v b u (b == x) refl (wants v b u) h

declare_from : (v : Want) (s : List ℕ) (d : List Event) → FromState (declare_state v) s d → Declares v s d
declare_from Done s d from = record { text = []; later = s; is = done; split = refl; after = from }
declare_from (One_of x y w) s d from = from
declare_from (Space w) s d from = from
declare_from (Spaces w) s d from = from
declare_from (Either x w v) s d from = from

declare_sound : (v : Want) → is_good v ≡ true → IsSound (declare_state v)
declare_sound Done h = tt
declare_sound (One_of x y w) h = h
declare_sound (Space w) h = h
declare_sound (Spaces w) h = h
declare_sound (Either x w v) h = h

good_of : (w : Want) → IsSound (Declaring w) → is_good w ≡ true
good_of Done h = absurd h
good_of (One_of x y w) h = h
good_of (Space w) h = h
good_of (Spaces w) h = h
good_of (Either x w v) h = h

pub declare_leads : (w : Want) (b : ℕ) (x : Option Want) → want w b ≡ x → IsSound (Declaring w) → LeadsBy (Declaring w) b (declare_step x)
declare_leads w b None e h = tt
declare_leads w b (Some v) e h =
    let k = wants w b v e in (
      declare_sound v (k.good (good_of w h)),
      λ s d from.
          let i = declare_from v s d from in
          record { text = b ∷ i.text; later = i.later; is = k.words i.text i.is; split = ap (λ z. b ∷ z) i.split; after = i.after },
    )

-- CDATA sections.
sectioned : (o : Open) (os : List Open) (said_bytes c : List ℕ) → SectionRest said_bytes c → (s : List ℕ) (d : List Event) → FromOpen (o ∷ os) s d
    → FromOpen (o ∷ os) (section_open (c ++ s)) (chars said_bytes ++ d)
sectioned o os m c is s d i = record {
  trees = said m i.trees;
  front = section_open (c ++ i.front);
  trail = i.trail;
  rest = i.rest;
  later = i.later;
  content = section m c is i.content;
  blanks = i.blanks;
  split = ap (λ t. section_open (c ++ t)) i.split ∙ ap section_open (sym (append_assoc c i.front (end_tag o.name i.trail ++ i.rest)));
  after = i.after;
  gives = ap (λ t. chars m ++ t) i.gives ∙ sym (append_assoc (chars m) (events (length os + 1 + 1) i.trees) (End (length os + 1) ∷ i.later))
      ∙ ap (λ t. t ++ (End (length os + 1) ∷ i.later)) (sym (said_events (length os + 1 + 1) m i.trees));
}

section_from : (o : Open) (os : List Open) (came left : List ℕ) → codes "CDATA[" ≡ came ++ left → (s : List ℕ) (d : List Event)
    → FromState (section_next o os came left) s d → FromOpen (o ∷ os) (60 ∷ 33 ∷ 91 ∷ (came ++ s)) d
section_from o os came [] e s d from =
    let P : List ℕ → Type 0 = λ t. FromOpen (o ∷ os) (60 ∷ 33 ∷ 91 ∷ t) d in
    let Q : List Event → Type 0 = λ z. FromOpen (o ∷ os) (section_open (from.text ++ from.later)) z in
    subst P (ap (λ z. codes "CDATA[" ++ z) (sym from.split) ∙ ap (λ z. z ++ s) (e ∙ append-nil came))
    (subst Q (sym from.gives) (sectioned o os from.said from.text from.is from.later from.then from.after))
section_from o os came (c ∷ left) e s d from = from

section_sound : (o : Open) (os : List Open) (came left : List ℕ) → codes "CDATA[" ≡ came ++ left → IsSound (section_next o os came left)
section_sound o os came [] e = tt
section_sound o os came (c ∷ left) e = e

section_begins_by : (o : Open) (os : List Open) (b : ℕ) (x : Bool) → (b == 91) ≡ x → LeadsBy (Mark (Below (o ∷ os))) b (on x (To (section_next o os [] (codes "CDATA[")) []) Bad)
section_begins_by o os b false e = tt
section_begins_by o os b true e = (
  section_sound o os [] (codes "CDATA[") refl,
  λ s d from. let P : ℕ → Type 0 = λ z. FromOpen (o ∷ os) (60 ∷ 33 ∷ z ∷ s) d in subst P (sym (eqb-true b 91 e)) (section_from o os [] (codes "CDATA[") refl s d from),
)

section_begins_leads : (p : Place) (b : ℕ) → LeadsBy (Mark p) b (section_begins p b)
section_begins_leads First b = tt
section_begins_leads Before b = tt
section_begins_leads (Below []) b = tt
section_begins_leads (Below (o ∷ os)) b = section_begins_by o os b (b == 91) refl

pub section_word_leads : (o : Open) (os : List Open) (came : List ℕ) (c : ℕ) (left : List ℕ) (b : ℕ) (x : Bool) → (b == c) ≡ x → codes "CDATA[" ≡ came ++ (c ∷ left)
    → LeadsBy (SectionWord o os came c left) b (on x (To (section_next o os (came ++ (c ∷ [])) left) []) Bad)
section_word_leads o os came c left b false e h = tt
section_word_leads o os came c left b true e h =
    let g : codes "CDATA[" ≡ (came ++ (c ∷ [])) ++ left = h ∙ sym (append_assoc came (c ∷ []) left) in (
      section_sound o os (came ++ (c ∷ [])) left g,
      λ s d from.
          let P : List ℕ → Type 0 = λ x. FromOpen (o ∷ os) (60 ∷ 33 ∷ 91 ∷ x) d in
          subst P (append_assoc came (c ∷ []) s ∙ ap (λ x. came ++ (x ∷ s)) (sym (eqb-true b c e))) (section_from o os (came ++ (c ∷ [])) left g s d from),
    )

not_end : (b : ℕ) (s : List ℕ) → (b == 93) ≡ false → begins_end (b ∷ s) ≡ false
not_end b s e = ap (λ z. z && begins_bracket s) e

not_bracket : (b : ℕ) (s : List ℕ) → (b == 93) ≡ false → begins_bracket (b ∷ s) ≡ false
not_bracket b s e = ap (λ z. z && begins_greater s) e

-- a byte behind brackets that end nothing
abbrev bracket_bytes : Brackets → List ℕ
bracket_bytes Zero = []
bracket_bytes One = 93 ∷ []
bracket_bytes Two = 93 ∷ 93 ∷ []

abbrev EndsNot : Brackets → ℕ → Type 0
EndsNot Zero b = Unit {0}
EndsNot One b = Unit {0}
EndsNot Two b = (b == 62) ≡ false

return_ends_not : (n : Brackets) → EndsNot n 13
return_ends_not Zero = tt
return_ends_not One = tt
return_ends_not Two = refl

behind_brackets : (n : Brackets) (b : ℕ) (m t : List ℕ) → (b == 93) ≡ false → EndsNot n b → SectionRest m (b ∷ t)
    → SectionRest (bracket_bytes n ++ m) (bracket_bytes n ++ (b ∷ t))
behind_brackets Zero b m t e f i = i
behind_brackets One b m t e f i = section_byte 93 refl (not_bracket b t e) i
behind_brackets Two b m t e f i = section_byte 93 refl f (section_byte 93 refl (not_bracket b t e) i)

held_gives : (n : Brackets) (b : ℕ) (d then : List Event) (m : List ℕ) → Char b ∷ d ≡ chars m ++ then
    → (held n ++ (Char b ∷ [])) ++ d ≡ chars (bracket_bytes n ++ m) ++ then
held_gives Zero b d then m h = h
held_gives One b d then m h = ap (λ z. Char 93 ∷ z) h
held_gives Two b d then m h = ap (λ z. Char 93 ∷ Char 93 ∷ z) h

from_section : (o : Open) (os : List Open) (n : Brackets) (s : List ℕ) (e : List Event) → Sections (bracket_bytes n) o os s e → FromState (InSection o os n) s e
from_section o os Zero s e i = i
from_section o os One s e i = i
from_section o os Two s e i = i

section_plain_leads : (o : Open) (os : List Open) (n : Brackets) (b : ℕ) (x : Bool) → (b == 13) ≡ x → (b == 93) ≡ false → EndsNot n b
    → LeadsBy (InSection o os n) b (section_plain o os n b x)
section_plain_leads o os n b false u e f = (
  tt,
  λ s d from. from_section o os n (b ∷ s) ((held n ++ (Char b ∷ [])) ++ d) (record {
    said = bracket_bytes n ++ (b ∷ from.said);
    text = b ∷ from.text;
    later = from.later;
    then = from.then;
    is = behind_brackets n b (b ∷ from.said) from.text e f (section_byte b u (not_end b from.text e) from.is);
    split = ap (λ z. b ∷ z) from.split;
    after = from.after;
    gives = held_gives n b d from.then (b ∷ from.said) (ap (λ z. Char b ∷ z) from.gives);
  }),
)
section_plain_leads o os n b true u e f = (
  tt,
  λ s d from. from_section o os n (b ∷ s) ((held n ++ (Char 10 ∷ [])) ++ d) (record {
    said = bracket_bytes n ++ from.said;
    text = 13 ∷ from.text;
    later = from.later;
    then = from.then;
    is = behind_brackets n 13 from.said from.text refl (return_ends_not n) from.is;
    split = ap (λ z. z ∷ s) (eqb-true b 13 u) ∙ ap (λ z. 13 ∷ z) from.split;
    after = from.after;
    gives = held_gives n 10 d from.then from.said from.gives;
  }),
)

pub section_leads : (o : Open) (os : List Open) (n : Brackets) (b : ℕ) (x y : Bool) → (b == 93) ≡ x → (b == 62) ≡ y → LeadsBy (InSection o os n) b (section_step o os n b x y)
section_leads o os Zero b true y e f = (
  tt,
  λ s d from. record { said = from.said; text = 93 ∷ from.text; later = from.later; then = from.then; is = from.is; split = ap (λ z. z ∷ s) (eqb-true b 93 e) ∙ ap (λ z. 93 ∷ z) from.split; after = from.after; gives = from.gives },
)
section_leads o os One b true y e f = (
  tt,
  λ s d from. record { said = from.said; text = 93 ∷ from.text; later = from.later; then = from.then; is = from.is; split = ap (λ z. z ∷ s) (eqb-true b 93 e) ∙ ap (λ z. 93 ∷ z) from.split; after = from.after; gives = from.gives },
)
section_leads o os Two b true y e f = (
  tt,
  λ s d from. record { said = 93 ∷ from.said; text = 93 ∷ from.text; later = from.later; then = from.then; is = section_byte 93 refl refl from.is; split = ap (λ z. z ∷ s) (eqb-true b 93 e) ∙ ap (λ z. 93 ∷ z) from.split; after = from.after; gives = ap (λ z. Char 93 ∷ z) from.gives },
)
section_leads o os Two b false true e f = (
  tt,
  λ s d from. record { said = []; text = 62 ∷ []; later = s; then = d; is = section_ends; split = ap (λ z. z ∷ s) (eqb-true b 62 f); after = from.0; gives = refl },
)
section_leads o os Zero b false y e f = section_plain_leads o os Zero b (b == 13) refl e tt
section_leads o os One b false y e f = section_plain_leads o os One b (b == 13) refl e tt
section_leads o os Two b false false e f = section_plain_leads o os Two b (b == 13) refl e f

section_after : (o : Open) (os : List Open) (b : ℕ) (m : Move) → (b == 10) ≡ false → LeadsBy (InSection o os Zero) b m → LeadsBy (SectionReturn o os) b m
section_after o os b Bad e h = tt
section_after o os b (To new x) e h = (
  h.0,
  λ s d from.
      let i : Sections [] o os (b ∷ s) (x ++ d) = h.1 s d from in
      record {
        said = 10 ∷ i.said;
        text = i.text;
        later = i.later;
        then = i.then;
        is = section_return (feed_front i.text i.later (ap begins_feed (sym i.split) ∙ e)) i.is;
        split = i.split;
        after = i.after;
        gives = ap (λ z. Char 10 ∷ z) i.gives;
      },
)

pub section_return_leads : (o : Open) (os : List Open) (b : ℕ) (x : Bool) → (b == 10) ≡ x
    → LeadsBy (SectionReturn o os) b (on x (To (InSection o os Zero) []) (section_step o os Zero b (b == 93) (b == 62)))
section_return_leads o os b false e = section_after o os b (section_step o os Zero b (b == 93) (b == 62)) e (section_leads o os Zero b (b == 93) (b == 62) refl refl)
section_return_leads o os b true e = (
  tt,
  λ s d from. record {
    said = 10 ∷ from.said;
    text = 10 ∷ from.text;
    later = from.later;
    then = from.then;
    is = section_line from.is;
    split = ap (λ z. z ∷ s) (eqb-true b 10 e) ∙ ap (λ z. 10 ∷ z) from.split;
    after = from.after;
    gives = ap (λ z. Char 10 ∷ z) from.gives;
  },
)

pub mark_leads : (p : Place) (b : ℕ) (x : Bool) → (b == 45) ≡ x → LeadsBy (Mark p) b (on x (To (OpenComment p) []) (section_begins p b))
mark_leads p b false e = section_begins_leads p b
mark_leads p b true e = (tt, λ s d from. let P : ℕ → Type 0 = λ x. FromPlace p (60 ∷ 33 ∷ x ∷ s) d in subst P (sym (eqb-true b 45 e)) from)

pub open_comment_leads : (p : Place) (b : ℕ) (x : Bool) → (b == 45) ≡ x → LeadsBy (OpenComment p) b (on x (To (InComment p) []) Bad)
open_comment_leads p b false e = tt
open_comment_leads p b true e = (
  tt,
  λ s d from.
      let P : ℕ → Type 0 = λ x. FromPlace p (60 ∷ 33 ∷ 45 ∷ x ∷ s) d in
      let Q : List ℕ → Type 0 = λ t. FromPlace p (60 ∷ 33 ∷ 45 ∷ 45 ∷ t) d in
      subst P (sym (eqb-true b 45 e)) (subst Q (sym from.split) (commented p from.comment from.is from.later d from.after)),
)

pub comment_leads : (p : Place) (b : ℕ) (x : Bool) → (b == 45) ≡ x → LeadsBy (InComment p) b (on x (To (CommentDash p) []) (To (InComment p) []))
comment_leads p b false e = (
  tt,
  λ s d from. record { comment = b ∷ from.comment; later = from.later; is = byte b e from.is; split = ap (λ t. b ∷ t) from.split; after = from.after },
)
comment_leads p b true e = (
  tt,
  λ s d from. record { comment = 45 ∷ from.comment; later = from.later; is = from.is; split = ap (λ x. x ∷ s) (eqb-true b 45 e) ∙ ap (λ t. 45 ∷ t) from.split; after = from.after },
)

pub dash_leads : (p : Place) (b : ℕ) (x : Bool) → (b == 45) ≡ x → LeadsBy (CommentDash p) b (on x (To (CommentClose p) []) (To (InComment p) []))
dash_leads p b false e = (
  tt,
  λ s d from. record { comment = b ∷ from.comment; later = from.later; is = dashed b e from.is; split = ap (λ t. b ∷ t) from.split; after = from.after },
)
dash_leads p b true e = (
  tt,
  λ s d from. record { comment = 45 ∷ from.comment; later = from.later; is = from.is; split = ap (λ x. x ∷ s) (eqb-true b 45 e) ∙ ap (λ t. 45 ∷ t) from.split; after = from.after },
)

pub close_leads : (p : Place) (b : ℕ) (x : Bool) → (b == 62) ≡ x → LeadsBy (CommentClose p) b (on x (To (at p) []) Bad)
close_leads p b false e = tt
close_leads p b true e = (
  at_sound p,
  λ s d from. record { comment = 62 ∷ []; later = s; is = closed; split = ap (λ x. x ∷ s) (eqb-true b 62 e); after = at_place p s d from },
)

-- Names.
pub written_longer : (n : Name) (b : ℕ) → written (longer n b) ≡ written n ++ (b ∷ [])
written_longer (Plain l) b = refl
written_longer (Qualified p l) b = sym (append_assoc p (58 ∷ l) (b ∷ []))

plain_more : (l : List ℕ) (b : ℕ) → is_plain l ≡ true → in_name b ≡ true → is_plain (l ++ (b ∷ [])) ≡ true
plain_more [] b h g = cc
plain_more (c ∷ l) b h g = let q = and_both (starts_name c) (list_all in_name l) h in and_of _ _ q.0 (all_more in_name l b q.1 g)

pub plain_one : (b : ℕ) → starts_name b ≡ true → is_plain (b ∷ []) ≡ true
plain_one b h = and_of _ _ h refl

front_of_name : (p l : List ℕ) → (is_plain p && is_plain l) ≡ true → is_front (Qualified p l) ≡ true
front_of_name p [] h = (and_both (is_plain p) (is_plain []) h).0
front_of_name p (c ∷ l) h = h

pub longer_front : (n : Name) (b : ℕ) → is_front n ≡ true → starts_name b ≡ true → in_name b ≡ true → is_front (longer n b) ≡ true
longer_front (Plain l) b h s g = plain_more l b h g
longer_front (Qualified p []) b h s g = and_of _ _ h (plain_one b s)
longer_front (Qualified p (c ∷ l)) b h s g =
    let q = and_both (is_plain p) (is_plain (c ∷ l)) h in and_of _ _ q.0 (plain_more (c ∷ l) b q.1 g)

-- a name is longer by a byte
pub record Grows (n : Name) (b : ℕ) (m : Name) : Type 0 where
  pub text : written m ≡ written n ++ (b ∷ [])
  pub front : is_front m ≡ true

letter_name : (k : Kind) → k ≡ Letter → name_kind k ≡ true
letter_name k h = ap name_kind h

digit_grows : (n : Name) (b : ℕ) (m : Name) → is_front n ≡ true → in_name b ≡ true → digit_longer n b ≡ Some m → Grows n b m
digit_grows (Plain l) b m h g e =
    let f : longer (Plain l) b ≡ m = cc in
    record { text = ap written (sym f) ∙ written_longer (Plain l) b; front = ap is_front (sym f) ∙ plain_more l b h g }
digit_grows (Qualified p []) b m h g e = cc
digit_grows (Qualified p (c ∷ l)) b m h g e =
    let f : longer (Qualified p (c ∷ l)) b ≡ m = cc in
    let q = and_both (is_plain p) (is_plain (c ∷ l)) h in
    record { text = ap written (sym f) ∙ written_longer (Qualified p (c ∷ l)) b; front = ap is_front (sym f) ∙ and_of _ _ q.0 (plain_more (c ∷ l) b q.1 g) }

colon_grows : (n : Name) (b : ℕ) (m : Name) → is_front n ≡ true → b ≡ 58 → colon_longer n ≡ Some m → Grows n b m
colon_grows (Plain l) b m h g e =
    let f : Qualified l [] ≡ m = cc in
    record { text = ap written (sym f) ∙ ap (λ x. l ++ (x ∷ [])) (sym g); front = ap is_front (sym f) ∙ h }
colon_grows (Qualified p l) b m h g e = cc

pub grows : (n : Name) (b : ℕ) (k : Kind) (m : Name) → IsKind b k → is_front n ≡ true → name_next n b k ≡ Some m → Grows n b m
grows n b Letter m is h e =
    let f : longer n b ≡ m = cc in
    record { text = ap written (sym f) ∙ written_longer n b; front = ap is_front (sym f) ∙ longer_front n b h (ap letter_kind is.is) (ap name_kind is.is) }
grows n b Digit m is h e = digit_grows n b m h (ap name_kind is.is) e
grows n b Colon m is h e = colon_grows n b m h is.shows e
grows n b Less m is h e = cc
grows n b Ampersand m is h e = cc
grows n b Blank m is h e = cc
grows n b Greater m is h e = cc
grows n b DoubleQuote m is h e = cc
grows n b SingleQuote m is h e = cc
grows n b Equals m is h e = cc
grows n b Slash m is h e = cc
grows n b Exclamation m is h e = cc
grows n b Other m is h e = cc
