-- A byte taken by the code.
use Rattle.std.proofs.Common.{◌≡◌, ℕ, ◌+◌, true, false, List, [], ◌∷◌, ◌++◌, length, refl, ap, sym, ◌∙◌, append_assoc, Some, None}
use Rattle.std.specs.Prelude.{if◌then◌else◌}
use Rattle.dav_doc.specs.Characters.{Owed, owed_after}
use Rattle.dav_doc.specs.Document.{Event, Start, End}
use Rattle.dav_doc.specs.Machine as machine
use Rattle.dav_doc.specs.Machine.{State, Move, To, step, chars, end_next}
use Rattle.dav_doc.specs.Names.{local_of}
use Rattle.dav_markup.specs.Aside.{aside_in}
use Rattle.dav_markup.specs.Few.{few_in}
use Rattle.dav_markup.specs.Markup.{place_in}
use Rattle.dav_markup.specs.Outer.{outer_in}
use Rattle.dav_markup.specs.Section.{section_in}
use Rattle.dav_markup.specs.declared.aside.Aside.{Aside}
use Rattle.dav_markup.specs.declared.aside.Aside.TheVariants as asides
use Rattle.dav_markup.specs.declared.outer.Outer.{Outer}
use Rattle.dav_markup.specs.declared.outer.Outer.TheVariants as outers
use Rattle.dav_markup.specs.declared.section.Section.{Section}
use Rattle.dav_markup.specs.declared.section.Section.TheVariants as sections
use Rattle.dav_text.specs.declared.which.Which.{Which}
use Rattle.dav_xml.specs.declared.position.Position.{Position}
use Rattle.dav_xml.specs.declared.position.Position.TheVariants as positions
use Rattle.dav_xml.specs.declared.position.StartTag.{StartTag}
use Rattle.dav_xml.specs.declared.position.StartTag.TheVariants as starts
use Rattle.dav_xml.specs.declared.step.Step.{Step}
use Rattle.dav_xml.specs.declared.step.Step.TheVariants.{Further, Text, Opens, Empty, Closes}
use Rattle.dav_xml.specs.Moves.{Moves}
use Rattle.dav_xml.specs.Reading.{is_tag, attributes_of, begins, limit_by, Stand, begin, Refused, Passes, Goes, size_by, goes_by, judged, next, reads}
use Rattle.dav_xml.specs.Events.{lent_in, later_in}
use Rattle.dav_xml.specs.Stands.{Stands, StartsAt, stack_of}
use Rattle.dav_xml.specs.Turn.{begun_by, attributes_by, is_tag_at, Turns}
use Rattle.dav_xml.specs.declared.turn.Turn.{Turn}
use Rattle.dav_markup.specs.declared.scope.Open.{Open}
use Rattle.dav_xml.proofs.ReadLemmas.{reads_more}
use Rattle.dav_xml.proofs.StackLemmas.{stack_length}

text_begins : (m : List ℕ) → begins (chars m) ≡ None
text_begins [] = refl
text_begins (b ∷ m) = refl

same_events : (x y : State) (e f : List Event) → To x e ≡ To y f → e ≡ f
same_events x y e f h = cc

-- the limit of the code's step is that of the machine's move
pub limits_agree : (s : Step) (os : List machine.Open) (st new : State) (b depth size : ℕ) (e : List Event) → depth ≡ length os → Moves (Some s) os st b → step st b ≡ To new e
    → limit_by (begins e) (attributes_of st) size ≡ limit_by (begun_by s depth) (attributes_by s) size
limits_agree (Further p) os st new b depth size e d m h =
    let k : e ≡ [] = same_events new m.state e [] (sym h ∙ m.is) in ap (λ z. limit_by (begins z) (attributes_of st) size) k
limits_agree (Text p few) os st new b depth size e d m h =
    let k : e ≡ chars (few_in few) = same_events new m.state e (chars (few_in few)) (sym h ∙ m.is) in
    ap (λ z. limit_by (begins z) (attributes_of st) size) k ∙ ap (λ z. limit_by z (attributes_of st) size) (text_begins (few_in few))
limits_agree (Opens tag ns) os st new b depth size e d m h =
    let f : List Event = Start (length os + 1) ns (local_of m.t.name) ∷ [] in
    let k : e ≡ f = same_events new _ e f (sym h ∙ m.is) in
    ap (λ z. limit_by (begins z) (attributes_of st) size) k ∙ ap (λ z. limit_by (Some (z + 1)) (attributes_of st) size) (sym d)
    ∙ ap (λ z. limit_by (Some (depth + 1)) z size) (m.count ∙ sym m.fits.count)
limits_agree (Empty tag ns) os st new b depth size e d m h =
    let f : List Event = Start (length os + 1) ns (local_of m.t.name) ∷ End (length os + 1) ∷ [] in
    let k : e ≡ f = same_events new _ e f (sym h ∙ m.is) in
    ap (λ z. limit_by (begins z) (attributes_of st) size) k ∙ ap (λ z. limit_by (Some (z + 1)) (attributes_of st) size) (sym d)
    ∙ ap (λ z. limit_by (Some (depth + 1)) z size) (m.count ∙ sym m.fits.count)
limits_agree Closes os st new b depth size e d m h =
    let f : List Event = End (length m.inside.around + 1) ∷ [] in
    let k : e ≡ f = same_events new _ e f (sym h ∙ m.is) in
    ap (λ z. limit_by (begins z) (attributes_of st) size) k

outer_tag : (x : Outer) → is_tag (outer_in x) ≡ false
outer_tag outers.Begin = refl
outer_tag outers.MarkSecond = refl
outer_tag outers.MarkThird = refl
outer_tag outers.Opening = refl
outer_tag outers.DeclareX = refl
outer_tag outers.DeclareXm = refl
outer_tag outers.DeclareXml = refl
outer_tag (outers.Declaring d) = refl
outer_tag outers.Outside = refl

aside_tag : (a : Aside) (p : machine.Place) → is_tag (aside_in a p) ≡ false
aside_tag asides.OpenComment p = refl
aside_tag asides.InComment p = refl
aside_tag asides.CommentDash p = refl
aside_tag asides.CommentClose p = refl
aside_tag (asides.InTarget t) p = refl
aside_tag asides.TargetEnd p = refl
aside_tag asides.InInstruction p = refl
aside_tag asides.InstructionEnd p = refl

section_tag : (s : Section) (o : machine.Open) (os : List machine.Open) → is_tag (section_in s o os) ≡ false
section_tag sections.WantsC o os = refl
section_tag sections.WantsD o os = refl
section_tag sections.WantsFirstA o os = refl
section_tag sections.WantsT o os = refl
section_tag sections.WantsSecondA o os = refl
section_tag sections.WantsBracket o os = refl
section_tag (sections.Inside n) o os = refl
section_tag sections.Return o os = refl

pub end_tag : (o : machine.Open) (os : List machine.Open) (came left : List ℕ) → is_tag (end_next o os came left) ≡ true
end_tag o os came [] = refl
end_tag o os came (c ∷ left) = refl

start_tag : (s : StartTag) (os : List machine.Open) (st : State) → StartsAt s os st → is_tag st ≡ true
start_tag (starts.Name name) os st h = ap is_tag h
start_tag (starts.Between tag some) os st h = ap is_tag h.is
start_tag (starts.Slash tag ns) os st h = ap is_tag h.is
start_tag (starts.Attribute tag name) os st h = ap is_tag h.is
start_tag (starts.BeforeEquals tag name) os st h = ap is_tag h.is
start_tag (starts.AfterEquals tag name) os st h = ap is_tag h.is
start_tag (starts.Value value) os st h = ap is_tag h.is
start_tag (starts.ValueReference value reference) os st h = ap is_tag h.is

-- the positions in tags are those of the machine
pub tags_agree : (p : Position) (os : List machine.Open) (st : State) → Stands p os st → is_tag st ≡ is_tag_at p
tags_agree (positions.Outer outer) os st h = ap is_tag h.1 ∙ outer_tag outer
tags_agree (positions.Text brackets) os st h = ap is_tag h
tags_agree positions.Return os st h = ap is_tag h.1
tags_agree (positions.Less place) os st h = ap is_tag h.1
tags_agree (positions.Mark place) os st h = ap is_tag h.1
tags_agree (positions.Question place) os st h = ap is_tag h.1
tags_agree (positions.Aside place aside) os st h = ap is_tag h.1 ∙ aside_tag aside (place_in place h.0.element h.0.around)
tags_agree (positions.Section section) os st h = ap is_tag h.1 ∙ section_tag section h.0.element h.0.around
tags_agree (positions.Reference reference) os st h = ap is_tag h.is
tags_agree (positions.Start start) os st h = start_tag start os st h
tags_agree (positions.End name came) os st h = ap is_tag h.is ∙ end_tag h.inside.element h.inside.around _ _
tags_agree positions.EndBlanks os st h = ap is_tag h.is

-- where the code goes on
pub goes_on : (x : Stand) (b size : ℕ) (o : Owed) (new : State) (e : List Event) → owed_after x.owed b ≡ Some o → step x.state b ≡ To new e
    → limit_by (begins e) (attributes_of x.state) x.size ≡ None → size_by x.size new ≡ size → next x b ≡ Goes (record { state = new; owed = o; size = size }) e
goes_on x b size o new e h g l z =
    ap (λ k. judged x k (step x.state b)) h ∙ ap (judged x (Some o)) g
    ∙ ap (λ k. goes_by k (record { state = new; owed = o; size = size_by x.size new }) e) l
    ∙ ap (λ k. Goes (record { state = new; owed = o; size = k }) e) z

-- the move of a step
pub record IsMove (st : State) (b : ℕ) : Type 0 where
  pub new : State
  pub events : List Event
  pub is : step st b ≡ To new events

pub move_of : (s : Step) (os : List machine.Open) (st : State) (b : ℕ) → Moves (Some s) os st b → IsMove st b
move_of (Further p) os st b m = record { new = m.state; events = _; is = m.is }
move_of (Text p few) os st b m = record { new = m.state; events = _; is = m.is }
move_of (Opens tag ns) os st b m = record { new = _; events = _; is = m.is }
move_of (Empty tag ns) os st b m = record { new = _; events = _; is = m.is }
move_of Closes os st b m = record { new = _; events = _; is = m.is }

-- where the code meets a limit
pub passes : (x : Stand) (b depth : ℕ) (o : Owed) (s : Step) (os : List machine.Open) (which : Which) → owed_after x.owed b ≡ Some o → Moves (Some s) os x.state b
    → depth ≡ length os → Some which ≡ limit_by (begun_by s depth) (attributes_by s) x.size → next x b ≡ Passes which
passes x b depth o s os which h m d l =
    let k = move_of s os x.state b m in
    ap (λ z. judged x z (step x.state b)) h ∙ ap (judged x (Some o)) k.is
    ∙ ap (λ z. goes_by z (record { state = k.new; owed = o; size = size_by x.size k.new }) k.events)
    (limits_agree s os x.state k.new b depth x.size k.events d m k.is ∙ sym l)

-- where a byte is refused
pub refuses_character : (x : Stand) (b : ℕ) → owed_after x.owed b ≡ None → next x b ≡ Refused
refuses_character x b h = ap (λ z. judged x z (step x.state b)) h

pub refuses_byte : (x : Stand) (b : ℕ) (o : Owed) → owed_after x.owed b ≡ Some o → step x.state b ≡ machine.Bad → next x b ≡ Refused
refuses_byte x b o h g = ap (λ z. judged x z (step x.state b)) h ∙ ap (judged x (Some o)) g

-- what is known behind a byte that is taken
pub record IsTaken (text : List ℕ) (given : List Event) (b : ℕ) (o : Owed) (size : ℕ) (turn : Turn) (opens : List Open) : Type 0 where
  pub state : State
  pub read : reads (text ++ (b ∷ [])) begin
      ≡ Some (record {
        stand = record { state = state; owed = o; size = size };
        events = (given ++ lent_in turn.lent) ++ later_in turn.lent;
      })
  pub stands : Stands turn.position (stack_of opens) state
  pub depth : turn.depth ≡ length opens

pub taken : (x : Stand) (text : List ℕ) (given : List Event) (b depth size : ℕ) (o : Owed) (s : Step) (old opens : List Open) (turn : Turn)
    → reads text begin ≡ Some (record { stand = x; events = given }) → owed_after x.owed b ≡ Some o → depth ≡ length old → Moves (Some s) (stack_of old) x.state b
    → None ≡ limit_by (begun_by s depth) (attributes_by s) x.size → Turns s old depth turn opens → size ≡ (if is_tag_at turn.position then x.size + 1 else 0)
    → IsTaken text given b o size turn opens
taken x text given b depth size o s old opens turn r h d m l t z =
    let k = t x.state b d m in
    let e = lent_in turn.lent ++ later_in turn.lent in
    let l : limit_by (begins e) (attributes_of x.state) x.size ≡ None =
    limits_agree s (stack_of old) x.state k.state b depth x.size e (d ∙ sym (stack_length old)) m k.is ∙ sym l in
    let y : size_by x.size k.state ≡ size = ap (λ n. if n then x.size + 1 else 0) (tags_agree turn.position (stack_of opens) k.state k.stands) ∙ sym z in
    record {
      state = k.state;
      read = reads_more text b x (record { state = k.state; owed = o; size = size }) given e r (goes_on x b size o k.state e h k.is l y)
          ∙ ap (λ n. Some (record { stand = record { state = k.state; owed = o; size = size }; events = n })) (sym (append_assoc given (lent_in turn.lent) (later_in turn.lent)));
      stands = k.stands;
      depth = k.depth;
    }
