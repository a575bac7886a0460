-- A step of the code taken.
use Rattle.std.proofs.Common.{◌≡◌, ℕ, ◌+◌, ◌<◌, true, false, List, [], ◌∷◌, ◌++◌, length, ap, sym, ◌∙◌, arith, Option, Some, None}
use Rattle.std.specs.Prelude.{option_to_list, IsSome}
use Rattle.dav_doc.specs.Document.{Start, End}
use Rattle.dav_doc.specs.Machine as machine
use Rattle.dav_doc.specs.Machine.{State, To, step, scope_of}
use Rattle.dav_doc.specs.Names.{local_of, declared}
use Rattle.dav_markup.specs.Name.{name_in}
use Rattle.dav_markup.specs.Scope.{bindings_in}
use Rattle.dav_markup.specs.declared.scope.Open.{Open}
use Rattle.dav_markup.specs.declared.scope.Tag.{Tag}
use Rattle.dav_xml.specs.declared.event.Lent.{Lent}
use Rattle.dav_xml.specs.declared.event.Lent.TheVariants as lents
use Rattle.dav_xml.specs.Events.{lent_in, later_in}
use Rattle.dav_xml.specs.Moves.{IsOpened, IsEmptied, IsClosed}
use Rattle.dav_xml.specs.Stands.{Inside, stack_of, opened_by}
use Rattle.dav_xml.proofs.StackLemmas.{stack_length, stack_more}

pub record IsPopped (old new : List Open) (below : List machine.Open) : Type 0 where
  pub around : stack_of new ≡ below
  pub length : length old ≡ length new + 1

-- the innermost element is gone
pub popped : (old new : List Open) (r : Option Open) (i : Inside (stack_of old)) → old ≡ new ++ option_to_list r → (0 < length old → IsSome r) → IsPopped old new i.around
popped old new None i e s =
    let k : length old ≡ length (i.element ∷ i.around) = sym (stack_length old) ∙ ap length i.split in
    let n : false ≡ true = s (omega arith) in absurd cc
popped old new (Some o) i e s =
    let k : opened_by (stack_of new) o ≡ i.element ∷ i.around = sym (stack_more new o) ∙ sym (ap stack_of e) ∙ i.split in
    let h : length old ≡ length (i.element ∷ i.around) = sym (stack_length old) ∙ ap length i.split in
    let g : stack_of new ≡ i.around = cc in
    let f : length new ≡ length i.around = sym (stack_length new) ∙ ap length g in
    record { around = g; length = omega arith }

-- the end of the innermost element
pub closed_event : (old : List Open) (depth : ℕ) (st : State) (b : ℕ) → depth ≡ length old → (m : IsClosed (stack_of old) st b)
    → step st b ≡ To (machine.Text m.inside.around machine.Zero) (End depth ∷ [])
closed_event old depth st b d m =
    let k : depth ≡ length (m.inside.element ∷ m.inside.around) = d ∙ sym (stack_length old) ∙ ap length m.inside.split in
    let h : depth ≡ length m.inside.around + 1 = omega arith in
    m.is ∙ ap (λ n. To (machine.Text m.inside.around machine.Zero) (End n ∷ [])) (sym h)

-- the element that a start tag opens
pub opened_stack : (old new : List Open) (tag : Tag) (ns : List ℕ) (o : Open) (st : State) (b : ℕ) → (m : IsOpened tag ns (stack_of old) st b) → new ≡ old ++ (o ∷ [])
    → o.name ≡ tag.name → o.bindings.items ≡ tag.bindings.items
    → machine.Text (record { name = m.t.name; scope = declared m.t.attributes (scope_of (stack_of old)) } ∷ stack_of old) machine.Zero ≡ machine.Text (stack_of new) machine.Zero
opened_stack old new tag ns o st b m e n i =
    let os = stack_of old in
    let f : name_in o.name ≡ m.t.name = ap name_in n ∙ m.fits.name in
    let g : bindings_in o.bindings.items ++ scope_of os ≡ declared m.t.attributes (scope_of os) = ap (λ z. bindings_in z ++ scope_of os) i ∙ m.fits.declares (scope_of os) in
    sym
    (ap (λ z. machine.Text (stack_of z) machine.Zero) e ∙ ap (λ z. machine.Text z machine.Zero) (stack_more old o)
    ∙ ap (λ z. machine.Text (record { name = z; scope = bindings_in o.bindings.items ++ scope_of os } ∷ os) machine.Zero) f
    ∙ ap (λ z. machine.Text (record { name = m.t.name; scope = z } ∷ os) machine.Zero) g)

pub opened_event : (old : List Open) (tag : Tag) (ns : List ℕ) (lent : Lent) (depth : ℕ) (st : State) (b : ℕ) → depth ≡ length old → (m : IsOpened tag ns (stack_of old) st b)
    → lent ≡ lents.Start (depth + 1) ns (local_of (name_in tag.name)) false
    → step st b ≡ To (machine.Text (record { name = m.t.name; scope = declared m.t.attributes (scope_of (stack_of old)) } ∷ stack_of old) machine.Zero) (lent_in lent ++ later_in lent)
opened_event old tag ns lent depth st b d m e =
    let s = machine.Text (record { name = m.t.name; scope = declared m.t.attributes (scope_of (stack_of old)) } ∷ stack_of old) machine.Zero in
    m.is ∙ ap (λ n. To s (Start (n + 1) ns (local_of m.t.name) ∷ [])) (stack_length old ∙ sym d)
    ∙ ap (λ n. To s (Start (depth + 1) ns (local_of n) ∷ [])) (sym m.fits.name) ∙ ap (λ l. To s (lent_in l ++ later_in l)) (sym e)

-- an empty element
pub emptied_event : (old : List Open) (tag : Tag) (ns : List ℕ) (lent : Lent) (depth : ℕ) (st : State) (b : ℕ) → depth ≡ length old → (m : IsEmptied tag ns (stack_of old) st b)
    → lent ≡ lents.Start (depth + 1) ns (local_of (name_in tag.name)) true
    → step st b ≡ To (machine.Text (stack_of old) machine.Zero) (lent_in lent ++ later_in lent)
emptied_event old tag ns lent depth st b d m e =
    let s = machine.Text (stack_of old) machine.Zero in
    m.is ∙ ap (λ n. To s (Start (n + 1) ns (local_of m.t.name) ∷ End (n + 1) ∷ [])) (stack_length old ∙ sym d)
    ∙ ap (λ n. To s (Start (depth + 1) ns (local_of n) ∷ End (depth + 1) ∷ [])) (sym m.fits.name) ∙ ap (λ l. To s (lent_in l ++ later_in l)) (sym e)
