-- From each state, with what is owed to a character, some text completes the character.
use Rattle.std.proofs.Common.{◌≡◌, ℕ, true, false, List, [], ◌∷◌, ◌++◌, refl, ap, ◌∙◌, append-nil, Some}
use Rattle.std.specs.Prelude.{◌==◌}
use Rattle.std.specs.List.{list_all}
use Rattle.dav_doc.specs.Bytes.{Letter, sort}
use Rattle.dav_doc.specs.Characters.{Owed, Whole, owed_by}
use Rattle.dav_doc.specs.Names.{written, Byte}
use Rattle.dav_doc.specs.Document.{Event, Char, target_next}
use Rattle.dav_doc.specs.Machine.{Open, Brackets, Zero, One, Two, State, Begin, MarkSecond, MarkThird, Return, Opening, DeclareX, DeclareXm, DeclareXml, Declaring, Question, InTarget, TargetEnd, InInstruction, InstructionEnd, SectionWord, InSection, SectionReturn, Outside, Text, Markup, Mark, OpenComment, InComment, CommentDash, CommentClose, InReference, InName, InTag, EmptyTag, AtName, BeforeEquals, AfterEquals, InValue, ValueReference, InEnd, EndBlanks, To, on, brackets, ends_section, text_by, text_step, held, section_plain, section_step, target_step, longer, name_next, name_step, attribute_step, with_part, value_step, step}
use Rattle.dav_doc.proofs.Meaning.{IsSound}
use Rattle.dav_doc.proofs.KindFacts.{and_both}
use Rattle.dav_doc.proofs.Runs.{Goes, goes_cons, goes_by}
use Rattle.dav_doc.proofs.Completing.{left_goes}
use Rattle.dav_doc.proofs.Reading.{Fair, fair_whole, is_wide}
use Rattle.dav_doc.proofs.Whole.{rest_whole, Kept}
use Rattle.dav_doc.proofs.Keeping.{wide_not, wide_letter, letter_stays}

-- a state in which each byte past ASCII is taken, and leads to such a state
abbrev pub Takes : State → Type 0
Takes (Text (x ∷ os) n) = Unit {0}
Takes (InComment p) = Unit {0}
Takes (InTarget p t) = Unit {0}
Takes (InInstruction p) = Unit {0}
Takes (InSection x os n) = Unit {0}
Takes (SectionReturn x os) = Unit {0}
Takes (InName os n) = Unit {0}
Takes (AtName os t w n) = Unit {0}
Takes (InValue os t a) = Unit {0}
Takes st = ⊥

pub record Taken (st : State) (b : ℕ) : Type 0 where
  pub next : State
  pub events : List Event
  pub moves : step st b ≡ To next events
  pub takes : Takes next

no_end : (n : Brackets) → ends_section n Letter ≡ false
no_end Zero = refl
no_end One = refl
no_end Two = refl

section_letter : (x : Open) (os : List Open) (n : Brackets) (b : ℕ) → section_step x os n b false false ≡ section_plain x os n b (b == 13)
section_letter x os Zero b = refl
section_letter x os One b = refl
section_letter x os Two b = refl

section_wide : (x : Open) (os : List Open) (n : Brackets) (b : ℕ) → is_wide b ≡ true
    → section_step x os n b (b == 93) (b == 62) ≡ To (InSection x os Zero) (held n ++ (Char b ∷ []))
section_wide x os n b w =
    ap (λ z. section_step x os n b z (b == 62)) (wide_not b 93 w refl) ∙ ap (λ z. section_step x os n b false z) (wide_not b 62 w refl)
    ∙ section_letter x os n b ∙ ap (section_plain x os n b) (wide_not b 13 w refl)

taken : (st : State) (b : ℕ) → Takes st → is_wide b ≡ true → Taken st b
taken (Text (x ∷ os) n) b h w = record {
  next = Text (x ∷ os) (brackets n b);
  events = Char b ∷ [];
  moves = ap (text_step x os n b) (wide_letter b w) ∙ ap (text_by x os n b) (no_end n);
  takes = tt;
}
taken (InComment p) b h w = record {
  next = InComment p;
  events = [];
  moves = ap (λ z. on z (To (CommentDash p) []) (To (InComment p) [])) (wide_not b 45 w refl);
  takes = tt;
}
taken (InTarget p t) b h w = record { next = InTarget p (target_next t b); events = []; moves = ap (target_step p t b) (wide_letter b w); takes = tt }
taken (InInstruction p) b h w = record {
  next = InInstruction p;
  events = [];
  moves = ap (λ z. on z (To (InstructionEnd p) []) (To (InInstruction p) [])) (wide_not b 63 w refl);
  takes = tt;
}
taken (InSection x os n) b h w = record {
  next = InSection x os Zero;
  events = held n ++ (Char b ∷ []);
  moves = section_wide x os n b w;
  takes = tt;
}
taken (SectionReturn x os) b h w = record {
  next = InSection x os Zero;
  events = Char b ∷ [];
  moves = ap (λ z. on z (To (InSection x os Zero) []) (section_step x os Zero b (b == 93) (b == 62))) (wide_not b 10 w refl) ∙ section_wide x os Zero b w;
  takes = tt;
}
taken (InName os n) b h w = record {
  next = InName os (longer n b);
  events = [];
  moves = ap (λ k. name_step os n b k (name_next n b k)) (wide_letter b w);
  takes = tt;
}
taken (AtName os t v n) b h w = record {
  next = AtName os t v (longer n b);
  events = [];
  moves = ap (λ k. attribute_step os t v n b k (name_next n b k)) (wide_letter b w);
  takes = tt;
}
taken (InValue os t a) b h w = record {
  next = InValue os t (with_part a (Byte b));
  events = [];
  moves = ap (λ k. value_step os t a b (sort a.quote k)) (wide_letter b w) ∙ ap (value_step os t a b) (letter_stays a.quote);
  takes = tt;
}
taken st b h w = absurd h

-- the machine takes this text
pub record Passed (st : State) (s : List ℕ) : Type 0 where
  pub next : State
  pub events : List Event
  pub goes : Goes st s next events

passed : (s : List ℕ) (st : State) → Takes st → list_all is_wide s ≡ true → Passed st s
passed [] st h w = record { next = st; events = []; goes = refl }
passed (b ∷ s) st h w =
    let q = and_both (is_wide b) (list_all is_wide s) w in
    let k = taken st b h q.0 in
    let l = passed s k.next k.takes q.1 in
    record { next = l.next; events = k.events ++ l.events; goes = goes_cons st k.next l.next b s k.events l.events k.moves l.goes }

-- the machine takes a text that completes what is owed
pub record Completed (st : State) (o : Owed) : Type 0 where
  pub text : List ℕ
  pub passed : Passed st text
  pub whole : owed_by text o ≡ Some Whole

nothing_owed : (st : State) (o : Owed) → o ≡ Whole → Completed st o
nothing_owed st o e = record { text = []; passed = record { next = st; events = []; goes = refl }; whole = ap (λ (z : Owed). Some z) e }

by_bytes : (st : State) (o : Owed) → Takes st → Fair o → Completed st o
by_bytes st o h f = let k = fair_whole o f in record { text = k.text; passed = passed k.text st h k.wide; whole = k.goes }

-- the rest of a name that is open
by_name : (x : Open) (os : List Open) (came : List ℕ) (c : ℕ) (left : List ℕ) (o : Owed) → written x.name ≡ came ++ (c ∷ left)
    → Kept (InEnd x os came c left) o → Completed (InEnd x os came c left) o
by_name x os came c left o h w =
    let st = InEnd x os came c left in
    record {
      text = c ∷ left;
      passed = record {
        next = EndBlanks x os [];
        events = [];
        goes = goes_by st (EndBlanks x os []) ((c ∷ left) ++ []) (c ∷ left) [] (append-nil (c ∷ left)) (left_goes x os came (c ∷ left) [] (EndBlanks x os []) [] refl);
      };
      whole = rest_whole x.name came (c ∷ left) o h w.0.0 w.1;
    }

pub completed : (st : State) (o : Owed) → IsSound st → Kept st o → Fair o → Completed st o
completed Begin o h w f = nothing_owed Begin o w
completed MarkSecond o h w f = record {
  text = 187 ∷ 191 ∷ [];
  passed = record { next = Opening; events = []; goes = refl };
  whole = ap (owed_by (187 ∷ 191 ∷ [])) w;
}
completed MarkThird o h w f = record { text = 191 ∷ []; passed = record { next = Opening; events = []; goes = refl }; whole = ap (owed_by (191 ∷ [])) w }
completed Opening o h w f = nothing_owed Opening o w
completed DeclareX o h w f = nothing_owed DeclareX o w
completed DeclareXm o h w f = nothing_owed DeclareXm o w
completed DeclareXml o h w f = nothing_owed DeclareXml o w
completed (Declaring v) o h w f = nothing_owed (Declaring v) o w.1
completed Outside o h w f = nothing_owed Outside o w
completed (Text [] n) o h w f = nothing_owed (Text [] n) o w
completed (Text (x ∷ os) n) o h w f = by_bytes (Text (x ∷ os) n) o tt f
completed (Return x os) o h w f = nothing_owed (Return x os) o w.1
completed (Markup p) o h w f = nothing_owed (Markup p) o w.1
completed (Mark p) o h w f = nothing_owed (Mark p) o w.1
completed (OpenComment p) o h w f = nothing_owed (OpenComment p) o w.1
completed (InComment p) o h w f = by_bytes (InComment p) o tt f
completed (CommentDash p) o h w f = nothing_owed (CommentDash p) o w.1
completed (CommentClose p) o h w f = nothing_owed (CommentClose p) o w.1
completed (Question p) o h w f = nothing_owed (Question p) o w.1
completed (InTarget p t) o h w f = by_bytes (InTarget p t) o tt f
completed (TargetEnd p) o h w f = nothing_owed (TargetEnd p) o w.1
completed (InInstruction p) o h w f = by_bytes (InInstruction p) o tt f
completed (InstructionEnd p) o h w f = nothing_owed (InstructionEnd p) o w.1
completed (SectionWord x os came c left) o h w f = nothing_owed (SectionWord x os came c left) o w.1
completed (InSection x os n) o h w f = by_bytes (InSection x os n) o tt f
completed (SectionReturn x os) o h w f = by_bytes (SectionReturn x os) o tt f
completed (InReference x os r) o h w f = nothing_owed (InReference x os r) o w.1
completed (InName os n) o h w f = by_bytes (InName os n) o tt f
completed (InTag os t v) o h w f = nothing_owed (InTag os t v) o w.1
completed (EmptyTag os t v ns) o h w f = nothing_owed (EmptyTag os t v ns) o w.1
completed (AtName os t v n) o h w f = by_bytes (AtName os t v n) o tt f
completed (BeforeEquals os t v n x) o h w f = nothing_owed (BeforeEquals os t v n x) o w.2
completed (AfterEquals os t v n x y) o h w f = nothing_owed (AfterEquals os t v n x y) o w.2
completed (InValue os t a) o h w f = by_bytes (InValue os t a) o tt f
completed (ValueReference os t a r) o h w f = nothing_owed (ValueReference os t a r) o w.2
completed (InEnd x os came c left) o h w f = by_name x os came c left o h w
completed (EndBlanks x os v) o h w f = nothing_owed (EndBlanks x os v) o w.1
