-- Where a document is over.
use Rattle.std.proofs.Common.{◌≡◌, ℕ, Bool, true, false, List, [], ◌∷◌, refl, ap, sym, ◌∙◌}
use Rattle.dav_doc.specs.Characters as characters
use Rattle.dav_doc.specs.Machine as machine
use Rattle.dav_doc.specs.Machine.{State, Text, end_next}
use Rattle.dav_markup.specs.Aside.{aside_in}
use Rattle.dav_markup.specs.Markup.{place_in}
use Rattle.dav_markup.specs.Outer.{outer_in}
use Rattle.dav_markup.specs.Owing.{owed_in}
use Rattle.dav_markup.specs.Section.{section_in, brackets_in}
use Rattle.dav_markup.specs.declared.aside.Aside.{Aside}
use Rattle.dav_markup.specs.declared.aside.Aside.TheVariants as asides
use Rattle.dav_markup.specs.declared.character.Owed.{Owed}
use Rattle.dav_markup.specs.declared.character.Owed.TheVariants.{Whole, Owes, Special}
use Rattle.dav_markup.specs.declared.outer.Outer.{Outer}
use Rattle.dav_markup.specs.declared.outer.Outer.TheVariants as outers
use Rattle.dav_markup.specs.declared.section.Brackets.{Brackets}
use Rattle.dav_markup.specs.declared.section.Brackets.TheVariants.{Zero, One, Two}
use Rattle.dav_markup.specs.declared.section.Section.{Section}
use Rattle.dav_markup.specs.declared.section.Section.TheVariants as sections
use Rattle.dav_xml.specs.declared.position.Position.{Position}
use Rattle.dav_xml.specs.declared.position.Position.TheVariants as positions
use Rattle.dav_xml.specs.declared.position.StartTag.{StartTag}
use Rattle.dav_xml.specs.declared.position.StartTag.TheVariants as starts
use Rattle.dav_xml.specs.Ending.{is_outside}
use Rattle.dav_xml.specs.Stands.{Stands, StartsAt}

-- the state is in text or behind the root
abbrev is_text : State → Bool
is_text (Text os n) = true
is_text st = false

no_text : (st : State) (os : List machine.Open) (n : machine.Brackets) → is_text st ≡ false → st ≡ Text os n → ⊥
no_text st os n h g = let k : true ≡ false = sym (ap is_text g) ∙ h in cc

pub nothing_owed : (o : Owed) → owed_in o ≡ characters.Whole → o ≡ Whole
nothing_owed Whole h = refl
nothing_owed (Owes low high further) h = absurd cc
nothing_owed Special h = absurd cc

pub outside_over : (p : Position) (os : List machine.Open) (st : State) → is_outside p ≡ true → Stands p os st → st ≡ Text os machine.Zero
outside_over (positions.Text Zero) os st e h = h
outside_over (positions.Text One) os st e h = absurd cc
outside_over (positions.Text Two) os st e h = absurd cc
outside_over (positions.Outer outer) os st e h = absurd cc
outside_over positions.Return os st e h = absurd cc
outside_over (positions.Less place) os st e h = absurd cc
outside_over (positions.Mark place) os st e h = absurd cc
outside_over (positions.Question place) os st e h = absurd cc
outside_over (positions.Aside place aside) os st e h = absurd cc
outside_over (positions.Section section) os st e h = absurd cc
outside_over (positions.Reference reference) os st e h = absurd cc
outside_over (positions.Start start) os st e h = absurd cc
outside_over (positions.End name came) os st e h = absurd cc
outside_over positions.EndBlanks os st e h = absurd cc

outer_text : (x : Outer) → is_text (outer_in x) ≡ false
outer_text outers.Begin = refl
outer_text outers.MarkSecond = refl
outer_text outers.MarkThird = refl
outer_text outers.Opening = refl
outer_text outers.DeclareX = refl
outer_text outers.DeclareXm = refl
outer_text outers.DeclareXml = refl
outer_text (outers.Declaring d) = refl
outer_text outers.Outside = refl

aside_text : (a : Aside) (p : machine.Place) → is_text (aside_in a p) ≡ false
aside_text asides.OpenComment p = refl
aside_text asides.InComment p = refl
aside_text asides.CommentDash p = refl
aside_text asides.CommentClose p = refl
aside_text (asides.InTarget t) p = refl
aside_text asides.TargetEnd p = refl
aside_text asides.InInstruction p = refl
aside_text asides.InstructionEnd p = refl

section_text : (s : Section) (o : machine.Open) (os : List machine.Open) → is_text (section_in s o os) ≡ false
section_text sections.WantsC o os = refl
section_text sections.WantsD o os = refl
section_text sections.WantsFirstA o os = refl
section_text sections.WantsT o os = refl
section_text sections.WantsSecondA o os = refl
section_text sections.WantsBracket o os = refl
section_text (sections.Inside n) o os = refl
section_text sections.Return o os = refl

end_text : (o : machine.Open) (os : List machine.Open) (came left : List ℕ) → is_text (end_next o os came left) ≡ false
end_text o os came [] = refl
end_text o os came (c ∷ left) = refl

start_text : (s : StartTag) (os : List machine.Open) (st : State) → StartsAt s os st → is_text st ≡ false
start_text (starts.Name name) os st h = ap is_text h
start_text (starts.Between tag some) os st h = ap is_text h.is
start_text (starts.Slash tag ns) os st h = ap is_text h.is
start_text (starts.Attribute tag name) os st h = ap is_text h.is
start_text (starts.BeforeEquals tag name) os st h = ap is_text h.is
start_text (starts.AfterEquals tag name) os st h = ap is_text h.is
start_text (starts.Value value) os st h = ap is_text h.is
start_text (starts.ValueReference value reference) os st h = ap is_text h.is

pub record IsOver (p : Position) (os : List machine.Open) : Type 0 where
  pub outside : is_outside p ≡ true
  pub closed : os ≡ []

by_brackets : (n : Brackets) (os : List machine.Open) → Text os (brackets_in n) ≡ Text [] machine.Zero → IsOver (positions.Text n) os
by_brackets Zero os h = record { outside = refl; closed = cc }
by_brackets One os h = absurd cc
by_brackets Two os h = absurd cc

-- where the machine may end, the code may
pub over_outside : (p : Position) (os : List machine.Open) (st : State) → Stands p os st → st ≡ Text [] machine.Zero → IsOver p os
over_outside (positions.Text brackets) os st h e = by_brackets brackets os (sym h ∙ e)
over_outside (positions.Outer outer) os st h e = absurd (no_text st [] machine.Zero (ap is_text h.1 ∙ outer_text outer) e)
over_outside positions.Return os st h e = absurd (no_text st [] machine.Zero (ap is_text h.1) e)
over_outside (positions.Less place) os st h e = absurd (no_text st [] machine.Zero (ap is_text h.1) e)
over_outside (positions.Mark place) os st h e = absurd (no_text st [] machine.Zero (ap is_text h.1) e)
over_outside (positions.Question place) os st h e = absurd (no_text st [] machine.Zero (ap is_text h.1) e)
over_outside (positions.Aside place aside) os st h e =
    absurd (no_text st [] machine.Zero (ap is_text h.1 ∙ aside_text aside (place_in place h.0.element h.0.around)) e)
over_outside (positions.Section section) os st h e = absurd (no_text st [] machine.Zero (ap is_text h.1 ∙ section_text section h.0.element h.0.around) e)
over_outside (positions.Reference reference) os st h e = absurd (no_text st [] machine.Zero (ap is_text h.is) e)
over_outside (positions.Start start) os st h e = absurd (no_text st [] machine.Zero (start_text start os st h) e)
over_outside (positions.End name came) os st h e = absurd (no_text st [] machine.Zero (ap is_text h.is ∙ end_text h.inside.element h.inside.around _ _) e)
over_outside positions.EndBlanks os st h e = absurd (no_text st [] machine.Zero (ap is_text h.is) e)
