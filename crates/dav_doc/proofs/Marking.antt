-- What the machine does on whole comments, instructions, sections and declarations.
use Rattle.std.proofs.Common.{◌≡◌, ℕ, ◌<◌, Bool, true, false, ◌&&◌, List, [], ◌∷◌, ◌++◌, length, refl, ap, sym, ◌∙◌, arith, subst, append_assoc, Option, Some, None}
use Rattle.std.specs.Prelude.{◌==◌}
use Rattle.std.proofs.lemmas.Bool.{eqb-true}
use Rattle.dav_doc.specs.Bytes.{Kind, Less, Ampersand, Blank, Greater, DoubleQuote, SingleQuote, Equals, Slash, Colon, Exclamation, Letter, Digit, Other, kind, name_kind, blank_kind, in_name, blank, begins_greater, begins_bracket, begins_end}
use Rattle.dav_doc.specs.Document.{Event, Char, CommentRest, closed, byte, dashed, InstructionRest, ended_here, kept, Target, Unlike, X, Xm, Xml, target_first, target_next, is_target, TargetRest, named, bare, spaced, Instruction, instruction_of, SectionRest, section_ends, section_byte, section_line, section_return, section_open, begins_close, begins_feed}
use Rattle.dav_doc.specs.Words.{Want, Done, One_of, Space, Spaces, Either, Words, done, one_of, space as words_space, further_space, no_space, this, other, version, declaration, want}
use Rattle.dav_doc.specs.Machine.{Open, Brackets, Zero, One, Two, Place, First, Before, Below, State, Opening, DeclareX, DeclareXm, DeclareXml, Declaring, Question, InTarget, TargetEnd, InInstruction, InstructionEnd, SectionWord, InSection, SectionReturn, section_next, section_plain, section_step, question_first, question_step, target_step, declare_state, declare_step, Outside, Text, Markup, Mark, OpenComment, InComment, CommentDash, CommentClose, Bad, To, at, chars, on, step, Ran, gives, move_on, run}
use Rattle.std.specs.Prelude.{codes, cond}
use Rattle.dav_doc.proofs.KindFacts.{eqb-same}
use Rattle.dav_doc.proofs.Runs.{Goes, goes_cons, goes_by}
use Rattle.dav_doc.proofs.Tokens.{is_blank_kind, is_letter_kind}
use Rattle.std.specs.Prelude.{◌||◌}
use Rattle.dav_doc.proofs.Sounding.{blank_number}

-- Comments.
pub comment_goes : {r : List ℕ} → CommentRest r → (p : Place) (s : List ℕ) (c : State) (e : List Event) → Goes (at p) s c e → Goes (InComment p) (r ++ s) c e
comment_goes closed p s c e g =
    goes_cons (InComment p) (CommentDash p) c 45 (45 ∷ 62 ∷ s) [] e refl
    (goes_cons (CommentDash p) (CommentClose p) c 45 (62 ∷ s) [] e refl (goes_cons (CommentClose p) (at p) c 62 s [] e refl g))
comment_goes (byte {s = r} b h i) p s c e g =
    goes_cons (InComment p) (InComment p) c b (r ++ s) [] e (ap (λ x. on x (To (CommentDash p) []) (To (InComment p) [])) h) (comment_goes i p s c e g)
comment_goes (dashed {s = r} b h i) p s c e g =
    goes_cons (InComment p) (CommentDash p) c 45 (b ∷ (r ++ s)) [] e refl
    (goes_cons (CommentDash p) (InComment p) c b (r ++ s) [] e (ap (λ x. on x (To (CommentClose p) []) (To (InComment p) [])) h) (comment_goes i p s c e g))

pub remark_goes : (st : State) (p : Place) (r s : List ℕ) (c : State) (e : List Event) → step st 60 ≡ To (Markup p) [] → CommentRest r
    → Goes (at p) s c e → Goes st (60 ∷ 33 ∷ 45 ∷ 45 ∷ (r ++ s)) c e
remark_goes st p r s c e h is g =
    goes_cons st (Markup p) c 60 (33 ∷ 45 ∷ 45 ∷ (r ++ s)) [] e h
    (goes_cons (Markup p) (Mark p) c 33 (45 ∷ 45 ∷ (r ++ s)) [] e refl
    (goes_cons (Mark p) (OpenComment p) c 45 (45 ∷ (r ++ s)) [] e refl
    (goes_cons (OpenComment p) (InComment p) c 45 (r ++ s) [] e refl (comment_goes is p s c e g))))

-- Processing instructions.
instruction_some : {r : List ℕ} → InstructionRest r → 0 < length r
instruction_some ended_here = omega arith
instruction_some (kept {s = s} b h i) = omega arith

end_same : (p : Place) (r s : List ℕ) → 0 < length r → begins_greater r ≡ false → run (r ++ s) (InstructionEnd p) ≡ run (r ++ s) (InInstruction p)
end_same p [] s lt h = absurd (omega arith)
end_same p (b ∷ r) s lt h = ap (λ x. move_on (on x (To (at p) []) (on (b == 63) (To (InstructionEnd p) []) (To (InInstruction p) []))) (run (r ++ s))) h

and_after : (x y : Bool) → x ≡ true → (x && y) ≡ false → y ≡ false
and_after x y h g = ap (λ z. z && y) (sym h) ∙ g

kept_by : (p : Place) (b : ℕ) (x : Bool) (r s : List ℕ) (c : State) (e : List Event) → (b == 63) ≡ x → begins_close (b ∷ r) ≡ false → 0 < length r
    → Goes (InInstruction p) (r ++ s) c e → Goes (InInstruction p) (b ∷ (r ++ s)) c e
kept_by p b false r s c e h k lt g = goes_cons (InInstruction p) (InInstruction p) c b (r ++ s) [] e (ap (λ x. on x (To (InstructionEnd p) []) (To (InInstruction p) [])) h) g
kept_by p b true r s c e h k lt g =
    goes_cons (InInstruction p) (InstructionEnd p) c b (r ++ s) [] e (ap (λ x. on x (To (InstructionEnd p) []) (To (InInstruction p) [])) h)
    (end_same p r s lt (and_after (b == 63) (begins_greater r) h k) ∙ g)

pub rest_goes : {r : List ℕ} → InstructionRest r → (p : Place) (s : List ℕ) (c : State) (e : List Event) → Goes (at p) s c e → Goes (InInstruction p) (r ++ s) c e
rest_goes ended_here p s c e g =
    goes_cons (InInstruction p) (InstructionEnd p) c 63 (62 ∷ s) [] e refl (goes_cons (InstructionEnd p) (at p) c 62 s [] e refl g)
rest_goes (kept {s = r} b h i) p s c e g = kept_by p b (b == 63) r s c e refl h (instruction_some i) (rest_goes i p s c e g)

-- states in a target that are at this part of it
pub data Agrees : State → Place → Target → Type 0 where
  alike : (p : Place) (t : Target) → Agrees (InTarget p t) p t
  at_x : Agrees DeclareX First X
  at_xm : Agrees DeclareXm First Xm
  at_xml : Agrees DeclareXml First Xml

pub record AgreesNext (st : State) (p : Place) (t : Target) (b : ℕ) : Type 0 where
  pub next : State
  pub moves : step st b ≡ To next []
  pub agrees : Agrees next p (target_next t b)

target_name : (p : Place) (t : Target) (b : ℕ) (k : Kind) → name_kind k ≡ true → target_step p t b k ≡ To (InTarget p (target_next t b)) []
target_name p t b Letter h = refl
target_name p t b Digit h = refl
target_name p t b Less h = cc
target_name p t b Ampersand h = cc
target_name p t b Blank h = cc
target_name p t b Greater h = cc
target_name p t b DoubleQuote h = cc
target_name p t b SingleQuote h = cc
target_name p t b Equals h = cc
target_name p t b Slash h = cc
target_name p t b Colon h = cc
target_name p t b Exclamation h = cc
target_name p t b Other h = cc

name_not_blank : (k : Kind) → name_kind k ≡ true → blank_kind k ≡ false
name_not_blank Letter h = refl
name_not_blank Digit h = refl
name_not_blank Blank h = cc
name_not_blank k h = refl

x_next : (b : ℕ) (x : Bool) → (b == 109) ≡ x → in_name b ≡ true → AgreesNext DeclareX First X b
x_next b true e h =
    let f : Xm ≡ target_next X b = sym (ap (λ z. cond (z || (b == 77)) Xm Unlike) e) in
    record { next = DeclareXm; moves = ap (λ z. on z (To DeclareXm []) (target_step First X b (kind b))) e; agrees = subst (λ (t : Target). Agrees DeclareXm First t) f at_xm }
x_next b false e h = record {
  next = InTarget First (target_next X b);
  moves = ap (λ z. on z (To DeclareXm []) (target_step First X b (kind b))) e ∙ target_name First X b (kind b) h;
  agrees = alike First (target_next X b);
}

xm_next : (b : ℕ) (x : Bool) → (b == 108) ≡ x → in_name b ≡ true → AgreesNext DeclareXm First Xm b
xm_next b true e h =
    let f : Xml ≡ target_next Xm b = sym (ap (λ z. cond (z || (b == 76)) Xml Unlike) e) in
    record { next = DeclareXml; moves = ap (λ z. on z (To DeclareXml []) (target_step First Xm b (kind b))) e; agrees = subst (λ (t : Target). Agrees DeclareXml First t) f at_xml }
xm_next b false e h = record {
  next = InTarget First (target_next Xm b);
  moves = ap (λ z. on z (To DeclareXml []) (target_step First Xm b (kind b))) e ∙ target_name First Xm b (kind b) h;
  agrees = alike First (target_next Xm b);
}

agrees_next : {st : State} {p : Place} {t : Target} → Agrees st p t → (b : ℕ) → in_name b ≡ true → AgreesNext st p t b
agrees_next (alike p t) b h = record { next = InTarget p (target_next t b); moves = target_name p t b (kind b) h; agrees = alike p (target_next t b) }
agrees_next at_x b h = x_next b (b == 109) refl h
agrees_next at_xm b h = xm_next b (b == 108) refl h
agrees_next at_xml b h = record {
  next = InTarget First Unlike;
  moves = ap (λ z. on z (To (Declaring version) []) (target_step First Xml b (kind b))) (name_not_blank (kind b) h) ∙ target_name First Xml b (kind b) h;
  agrees = alike First Unlike;
}

agrees_bare : {st : State} {p : Place} {t : Target} → Agrees st p t → is_target t ≡ true → step st 63 ≡ To (TargetEnd p) []
agrees_bare (alike p t) h = ap (λ z. on z (To (TargetEnd p) []) Bad) h
agrees_bare at_x h = refl
agrees_bare at_xm h = refl
agrees_bare at_xml h = cc

agrees_blank : {st : State} {p : Place} {t : Target} → Agrees st p t → (b : ℕ) → kind b ≡ Blank → is_target t ≡ true → step st b ≡ To (InInstruction p) []
agrees_blank (alike p t) b k h = ap (target_step p t b) k ∙ ap (λ z. on z (To (InInstruction p) []) Bad) h
agrees_blank at_x b k h =
    ap (λ z. on z (To DeclareXm []) (target_step First X b (kind b))) (blank_number b 109 k (λ h. let j : false ≡ true = h in cc) (b == 109) refl) ∙ ap (target_step First X b) k
agrees_blank at_xm b k h =
    ap (λ z. on z (To DeclareXml []) (target_step First Xm b (kind b))) (blank_number b 108 k (λ h. let j : false ≡ true = h in cc) (b == 108) refl) ∙ ap (target_step First Xm b) k
agrees_blank at_xml b k h = cc

pub target_goes : {t : Target} {r : List ℕ} → TargetRest t r → (st : State) (p : Place) (s : List ℕ) (c : State) (e : List Event) → Agrees st p t → Goes (at p) s c e → Goes st (r ++ s) c e
target_goes (named {s = r} b is i) st p s c e a g =
    let k = agrees_next a b is in
    goes_cons st k.next c b (r ++ s) [] e k.moves (target_goes i k.next p s c e k.agrees g)
target_goes (bare h) st p s c e a g =
    goes_cons st (TargetEnd p) c 63 (62 ∷ s) [] e (agrees_bare a h) (goes_cons (TargetEnd p) (at p) c 62 s [] e refl g)
target_goes (spaced {s = r} b h is i) st p s c e a g =
    goes_cons st (InInstruction p) c b (r ++ s) [] e (agrees_blank a b (is_blank_kind (kind b) is) h) (rest_goes i p s c e g)

pub record FirstOf (p : Place) (b : ℕ) : Type 0 where
  pub next : State
  pub moves : question_first p b (b == 120) ≡ To next []
  pub agrees : Agrees next p (target_first b)

first_by : (b : ℕ) (x : Bool) → (b == 120) ≡ x → FirstOf First b
first_by b true e =
    let f : X ≡ target_first b = sym (ap (λ z. cond (z || (b == 88)) X Unlike) e) in
    record { next = DeclareX; moves = ap (question_first First b) e; agrees = subst (λ (t : Target). Agrees DeclareX First t) f at_x }
first_by b false e = record { next = InTarget First (target_first b); moves = ap (question_first First b) e; agrees = alike First (target_first b) }

first_of_target : (p : Place) (b : ℕ) → FirstOf p b
first_of_target First b = first_by b (b == 120) refl
first_of_target Before b = record { next = InTarget Before (target_first b); moves = refl; agrees = alike Before (target_first b) }
first_of_target (Below os) b = record { next = InTarget (Below os) (target_first b); moves = refl; agrees = alike (Below os) (target_first b) }

pub question_goes : {r : List ℕ} → Instruction r → (p : Place) (s : List ℕ) (c : State) (e : List Event) → Goes (at p) s c e → Goes (Question p) (r ++ s) c e
question_goes (instruction_of {s = r} b is i) p s c e g =
    let k = first_of_target p b in
    goes_cons (Question p) k.next c b (r ++ s) [] e (ap (question_step p b) (is_letter_kind (kind b) is) ∙ k.moves) (target_goes i k.next p s c e k.agrees g)

pub advice_goes : (st : State) (p : Place) (r s : List ℕ) (c : State) (e : List Event) → step st 60 ≡ To (Markup p) [] → Instruction r
    → Goes (at p) s c e → Goes st (60 ∷ 63 ∷ (r ++ s)) c e
advice_goes st p r s c e h is g =
    goes_cons st (Markup p) c 60 (63 ∷ (r ++ s)) [] e h
    (goes_cons (Markup p) (Question p) c 63 (r ++ s) [] e refl (question_goes is p s c e g))

-- CDATA sections.
gives_more : (e f : List Event) (x : Option Ran) → gives (e ++ f) x ≡ gives e (gives f x)
gives_more e f None = refl
gives_more e f (Some r) = ap (λ z. Some (record { state = r.state; events = z })) (append_assoc e f r.events)

-- what a byte that ends nothing gives behind one `]`, and behind two
one_plain : (o : Open) (os : List Open) (b : ℕ) (s : List ℕ) (x : Bool)
    → move_on (section_plain o os One b x) (run s) ≡ gives (Char 93 ∷ []) (move_on (section_plain o os Zero b x) (run s))
one_plain o os b s true = gives_more (Char 93 ∷ []) (Char 10 ∷ []) (run s (SectionReturn o os))
one_plain o os b s false = gives_more (Char 93 ∷ []) (Char b ∷ []) (run s (InSection o os Zero))

two_plain : (o : Open) (os : List Open) (b : ℕ) (s : List ℕ) (x : Bool)
    → move_on (section_plain o os Two b x) (run s) ≡ gives (Char 93 ∷ []) (move_on (section_plain o os One b x) (run s))
two_plain o os b s true = gives_more (Char 93 ∷ []) (Char 93 ∷ Char 10 ∷ []) (run s (SectionReturn o os))
two_plain o os b s false = gives_more (Char 93 ∷ []) (Char 93 ∷ Char b ∷ []) (run s (InSection o os Zero))

one_same : (o : Open) (os : List Open) (b : ℕ) (s : List ℕ) → (b == 93) ≡ false → run (b ∷ s) (InSection o os One) ≡ gives (Char 93 ∷ []) (run (b ∷ s) (InSection o os Zero))
one_same o os b s h =
    ap (λ z. move_on (section_step o os One b z (b == 62)) (run s)) h ∙ one_plain o os b s (b == 13)
    ∙ sym (ap (λ z. gives (Char 93 ∷ []) (move_on (section_step o os Zero b z (b == 62)) (run s))) h)

two_by : (o : Open) (os : List Open) (b : ℕ) (s : List ℕ) (x : Bool) → (b == 93) ≡ x → (b == 62) ≡ false
    → run (b ∷ s) (InSection o os Two) ≡ gives (Char 93 ∷ []) (run (b ∷ s) (InSection o os One))
two_by o os b s true h k =
    ap (λ z. move_on (section_step o os Two b z (b == 62)) (run s)) h ∙ gives_more (Char 93 ∷ []) [] (run s (InSection o os Two))
    ∙ sym (ap (λ z. gives (Char 93 ∷ []) (move_on (section_step o os One b z (b == 62)) (run s))) h)
two_by o os b s false h k =
    ap (λ z. move_on (section_step o os Two b z (b == 62)) (run s)) h ∙ ap (λ z. move_on (section_step o os Two b false z) (run s)) k
    ∙ two_plain o os b s (b == 13)
    ∙ sym (ap (λ z. gives (Char 93 ∷ []) (move_on (section_step o os One b z (b == 62)) (run s))) h)

section_long : {d s : List ℕ} → SectionRest d s → 2 < length s
section_long section_ends = omega arith
section_long (section_byte {s = s} b r h i) = let k = section_long i in omega arith
section_long (section_line {s = s} i) = let k = section_long i in omega arith
section_long (section_return {s = s} h i) = let k = section_long i in omega arith

gives_swap : (x : Event) (r : Option Ran) → gives [] (gives (x ∷ []) r) ≡ gives (x ∷ []) (gives [] r)
gives_swap x None = refl
gives_swap x (Some r) = refl

one_next : (o : Open) (os : List Open) (b d : ℕ) (r s : List ℕ) (x : Bool) → (b == 93) ≡ x → begins_bracket (b ∷ d ∷ r) ≡ false
    → run (b ∷ d ∷ (r ++ s)) (InSection o os One) ≡ gives (Char 93 ∷ []) (run (b ∷ d ∷ (r ++ s)) (InSection o os Zero))
one_next o os b d r s false e h = one_same o os b (d ∷ (r ++ s)) e
one_next o os b d r s true e h =
    let k : (d == 62) ≡ false = and_after (b == 93) (d == 62) e h in
    let u = d ∷ (r ++ s) in
    ap (λ z. move_on (section_step o os One b z (b == 62)) (run u)) e
    ∙ ap (gives []) (two_by o os d (r ++ s) (d == 93) refl k)
    ∙ gives_swap (Char 93) (run u (InSection o os One))
    ∙ sym (ap (λ z. gives (Char 93 ∷ []) (move_on (section_step o os Zero b z (b == 62)) (run u))) e)

-- after one `]` that ends nothing
one_goes : (o : Open) (os : List Open) (r s : List ℕ) → 1 < length r → begins_bracket r ≡ false
    → run (r ++ s) (InSection o os One) ≡ gives (Char 93 ∷ []) (run (r ++ s) (InSection o os Zero))
one_goes o os [] s lt h = absurd (omega arith)
one_goes o os (b ∷ []) s lt h = absurd (omega arith)
one_goes o os (b ∷ d ∷ r) s lt h = one_next o os b d r s (b == 93) refl h

section_by : (o : Open) (os : List Open) (b : ℕ) (x : Bool) (r s : List ℕ) (c : State) (e : List Event) → (b == 93) ≡ x → (b == 13) ≡ false → begins_end (b ∷ r) ≡ false → 1 < length r
    → Goes (InSection o os Zero) (r ++ s) c e → Goes (InSection o os Zero) (b ∷ (r ++ s)) c (Char b ∷ e)
section_by o os b false r s c e h u k lt g =
    goes_cons (InSection o os Zero) (InSection o os Zero) c b (r ++ s) (Char b ∷ []) e (ap (λ z. section_step o os Zero b z (b == 62)) h ∙ ap (section_plain o os Zero b) u) g
section_by o os b true r s c e h u k lt g =
    let f : b ≡ 93 = eqb-true b 93 h in
    let k2 : begins_bracket r ≡ false = and_after (b == 93) (begins_bracket r) h k in
    ap (λ z. move_on (section_step o os Zero b z (b == 62)) (run (r ++ s))) h
    ∙ ap (gives []) (one_goes o os r s lt k2 ∙ ap (gives (Char 93 ∷ [])) g)
    ∙ ap (λ z. Some (record { state = c; events = Char z ∷ e })) (sym f)

-- after CR, where no LF follows
section_lone : (o : Open) (os : List Open) (r s : List ℕ) → 1 < length r → begins_feed r ≡ false → run (r ++ s) (SectionReturn o os) ≡ run (r ++ s) (InSection o os Zero)
section_lone o os [] s lt h = absurd (omega arith)
section_lone o os (b ∷ r) s lt h = ap (λ z. move_on (on z (To (InSection o os Zero) []) (section_step o os Zero b (b == 93) (b == 62))) (run (r ++ s))) h

pub section_goes : {d r : List ℕ} → SectionRest d r → (o : Open) (os : List Open) (s : List ℕ) (c : State) (e : List Event) → Goes (Text (o ∷ os) Zero) s c e
    → Goes (InSection o os Zero) (r ++ s) c (chars d ++ e)
section_goes section_ends o os s c e g =
    goes_cons (InSection o os Zero) (InSection o os One) c 93 (93 ∷ 62 ∷ s) [] e refl
    (goes_cons (InSection o os One) (InSection o os Two) c 93 (62 ∷ s) [] e refl
    (goes_cons (InSection o os Two) (Text (o ∷ os) Zero) c 62 s [] e refl g))
section_goes (section_byte {d = d} {s = r} b u h i) o os s c e g =
    let l : 2 < length r = section_long i in
    section_by o os b (b == 93) r s c (chars d ++ e) refl u h (omega arith) (section_goes i o os s c e g)
section_goes (section_line {d = d} {s = r} i) o os s c e g =
    goes_cons (InSection o os Zero) (SectionReturn o os) c 13 (10 ∷ (r ++ s)) (Char 10 ∷ []) (chars d ++ e) refl
    (goes_cons (SectionReturn o os) (InSection o os Zero) c 10 (r ++ s) [] (chars d ++ e) refl (section_goes i o os s c e g))
section_goes (section_return {d = d} {s = r} h i) o os s c e g =
    let l : 2 < length r = section_long i in
    goes_cons (InSection o os Zero) (SectionReturn o os) c 13 (r ++ s) (Char 10 ∷ []) (chars d ++ e) refl
    (section_lone o os r s (omega arith) h ∙ section_goes i o os s c e g)

pub word_goes : (o : Open) (os : List Open) (came left s : List ℕ) (c : State) (e : List Event)
    → Goes (InSection o os Zero) s c e → Goes (section_next o os came left) (left ++ s) c e
word_goes o os came [] s c e g = g
word_goes o os came (b ∷ left) s c e g =
    goes_cons (SectionWord o os came b left) (section_next o os (came ++ (b ∷ [])) left) c b (left ++ s) [] e
    (ap (λ z. on z (To (section_next o os (came ++ (b ∷ [])) left) []) Bad) (eqb-same b)) (word_goes o os (came ++ (b ∷ [])) left s c e g)

pub opening_goes : (o : Open) (os : List Open) (n : Brackets) (d r s : List ℕ) (c : State) (e : List Event) → SectionRest d r → Goes (Text (o ∷ os) Zero) s c e
    → Goes (Text (o ∷ os) n) (section_open (r ++ s)) c (chars d ++ e)
opening_goes o os n d r s c e is g =
    let z = chars d ++ e in
    let rest = codes "CDATA[" ++ (r ++ s) in
    goes_cons (Text (o ∷ os) n) (Markup (Below (o ∷ os))) c 60 (33 ∷ 91 ∷ rest) [] z refl
    (goes_cons (Markup (Below (o ∷ os))) (Mark (Below (o ∷ os))) c 33 (91 ∷ rest) [] z refl
    (goes_cons (Mark (Below (o ∷ os))) (section_next o os [] (codes "CDATA[")) c 91 rest [] z refl
    (word_goes o os [] (codes "CDATA[") (r ++ s) c z (section_goes is o os s c e g))))

-- The XML declaration.
abbrev pub IsDone : Want → Type 0
IsDone Done = Unit {0}
IsDone (One_of x y w) = ⊥
IsDone (Space w) = ⊥
IsDone (Spaces w) = ⊥
IsDone (Either x w v) = ⊥

abbrev pub IsEmpty : List ℕ → Type 0
IsEmpty [] = Unit {0}
IsEmpty (b ∷ s) = ⊥

done_empty : {w : Want} {r : List ℕ} → Words w r → IsDone w → IsEmpty r
done_empty done h = tt
done_empty (one_of b e i) h = absurd h
done_empty (words_space b e i) h = absurd h
done_empty (further_space b e i) h = absurd h
done_empty (no_space b e i) h = absurd h
done_empty (this b e i) h = absurd h
done_empty (other b e i) h = absurd h

declare_same : (w : Want) (b : ℕ) (r : List ℕ) → Words w (b ∷ r) → step (declare_state w) b ≡ declare_step (want w b)
declare_same Done b r i = absurd (done_empty i tt)
declare_same (One_of x y w) b r i = refl
declare_same (Space w) b r i = refl
declare_same (Spaces w) b r i = refl
declare_same (Either x w v) b r i = refl

pub words_go : {w : Want} {r : List ℕ} → Words w r → (s : List ℕ) (c : State) (e : List Event) → Goes Outside s c e → Goes (declare_state w) (r ++ s) c e
words_go done s c e g = g
words_go (one_of {x = x} {y = y} {w = w} {s = r} b h i) s c e g =
    goes_cons (Declaring (One_of x y w)) (declare_state w) c b (r ++ s) [] e (ap (λ z. declare_step (cond z (Some w) None)) h) (words_go i s c e g)
words_go (words_space {w = w} {s = r} b h i) s c e g =
    goes_cons (Declaring (Space w)) (declare_state w) c b (r ++ s) [] e (ap (λ z. declare_step (cond z (Some w) None)) h) (words_go i s c e g)
words_go (further_space {w = w} {s = r} b h i) s c e g =
    goes_cons (Declaring (Spaces w)) (Declaring (Spaces w)) c b (r ++ s) [] e (ap (λ z. declare_step (cond z (Some (Spaces w)) (want w b))) h) (words_go i s c e g)
words_go (no_space {w = w} {s = r} b h i) s c e g =
    ap (λ m. move_on m (run (r ++ s))) (ap (λ z. declare_step (cond z (Some (Spaces w)) (want w b))) h ∙ sym (declare_same w b r i)) ∙ words_go i s c e g
words_go (this {x = x} {w = w} {v = v} {s = r} b h i) s c e g =
    goes_cons (Declaring (Either x w v)) (declare_state w) c b (r ++ s) [] e (ap (λ z. declare_step (cond z (Some w) (want v b))) h) (words_go i s c e g)
words_go (other {x = x} {w = w} {v = v} {s = r} b h i) s c e g =
    ap (λ m. move_on m (run (r ++ s))) (ap (λ z. declare_step (cond z (Some w) (want v b))) h ∙ sym (declare_same v b r i)) ∙ words_go i s c e g

pub record IsOneOf (x : ℕ) (v : Want) (r : List ℕ) : Type 0 where
  pub rest : List ℕ
  pub split : r ≡ x ∷ rest
  pub is : Words v rest

either_same : (b x : ℕ) (z : Bool) → (b == x) ≡ z → (z || z) ≡ true → b ≡ x
either_same b x true h e = eqb-true b x h
either_same b x false h e = cc

one_of_is : {w : Want} {r : List ℕ} → Words w r → (x : ℕ) (v : Want) → w ≡ One_of x x v → IsOneOf x v r
one_of_is done x v h = cc
one_of_is (one_of {x = y} {y = z} {w = w} {s = s} b e i) x v h =
    let p : y ≡ x = cc in
    let q : z ≡ x = cc in
    let f : w ≡ v = cc in
    let g : ((b == x) || (b == x)) ≡ true = rw (← p) (ap (λ t. (b == y) || (b == t)) (p ∙ sym q) ∙ e) in
    record { rest = s; split = ap (λ t. t ∷ s) (either_same b x (b == x) refl g); is = subst (λ (t : Want). Words t s) f i }
one_of_is (words_space b e i) x v h = cc
one_of_is (further_space b e i) x v h = cc
one_of_is (no_space b e i) x v h = cc
one_of_is (this b e i) x v h = cc
one_of_is (other b e i) x v h = cc

pub record IsSpace (v : Want) (r : List ℕ) : Type 0 where
  pub byte : ℕ
  pub rest : List ℕ
  pub split : r ≡ byte ∷ rest
  pub blank : blank byte ≡ true
  pub is : Words v rest

space_is : {w : Want} {r : List ℕ} → Words w r → (v : Want) → w ≡ Space v → IsSpace v r
space_is done v h = cc
space_is (one_of b e i) v h = cc
space_is (words_space {w = w} {s = s} b e i) v h =
    let f : w ≡ v = cc in record { byte = b; rest = s; split = refl; blank = e; is = subst (λ (t : Want). Words t s) f i }
space_is (further_space b e i) v h = cc
space_is (no_space b e i) v h = cc
space_is (this b e i) v h = cc
space_is (other b e i) v h = cc

pub declaration_goes : (r s : List ℕ) (c : State) (e : List Event) → Words declaration r → Goes Outside s c e → Goes Opening ((60 ∷ 63 ∷ r) ++ s) c e
declaration_goes r s c e i g =
    let a = one_of_is i 120 (One_of 109 109 (One_of 108 108 (Space version))) refl in
    let b = one_of_is a.is 109 (One_of 108 108 (Space version)) refl in
    let d = one_of_is b.is 108 (Space version) refl in
    let f = space_is d.is version refl in
    let u : r ≡ 120 ∷ 109 ∷ 108 ∷ f.byte ∷ f.rest =
    a.split ∙ ap (λ z. 120 ∷ z) (b.split ∙ ap (λ z. 109 ∷ z) (d.split ∙ ap (λ z. 108 ∷ z) f.split)) in
    let t = f.rest ++ s in
    let m : step DeclareXml f.byte ≡ To (Declaring version) [] = ap (λ z. on z (To (Declaring version) []) (target_step First Xml f.byte (kind f.byte))) f.blank in
    goes_by Opening c (60 ∷ 63 ∷ 120 ∷ 109 ∷ 108 ∷ f.byte ∷ t) ((60 ∷ 63 ∷ r) ++ s) e (ap (λ z. 60 ∷ 63 ∷ (z ++ s)) (sym u))
    (goes_cons Opening (Markup First) c 60 (63 ∷ 120 ∷ 109 ∷ 108 ∷ f.byte ∷ t) [] e refl
    (goes_cons (Markup First) (Question First) c 63 (120 ∷ 109 ∷ 108 ∷ f.byte ∷ t) [] e refl
    (goes_cons (Question First) DeclareX c 120 (109 ∷ 108 ∷ f.byte ∷ t) [] e refl
    (goes_cons DeclareX DeclareXm c 109 (108 ∷ f.byte ∷ t) [] e refl
    (goes_cons DeclareXm DeclareXml c 108 (f.byte ∷ t) [] e refl
    (goes_cons DeclareXml (Declaring version) c f.byte t [] e m (words_go f.is s c e g)))))))
