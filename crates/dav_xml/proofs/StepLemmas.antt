-- Steps of the code as moves of the machine.
use Rattle.std.proofs.Common.{◌≡◌, ℕ, Bool, true, false, List, [], ◌∷◌, ◌++◌, refl, ap, sym, ◌∙◌, append_assoc, ◌+◌, ◌≤◌, length, take, None}
use Rattle.std.specs.Prelude.{◌==◌, Result, Ok, Err, IfOk}
use Rattle.std.proofs.lemmas.List.{drop_all}
use Rattle.dav_doc.specs.Document.{Event}
use Rattle.dav_doc.specs.Machine as machine
use Rattle.dav_doc.specs.Machine.{State, To, step, on, reference_step, end_next, scope_of}
use Rattle.dav_doc.specs.Names.{Plain, written}
use Rattle.dav_doc.specs.References.{stands_for, may_stand}
use Rattle.dav_markup.specs.End.{end_at, name_in_end}
use Rattle.dav_markup.specs.Markup.{opens_in}
use Rattle.dav_markup.specs.Name.{name_in}
use Rattle.dav_markup.specs.Scope.{bindings_in}
use Rattle.dav_markup.specs.Reference.{GoesOn}
use Rattle.dav_markup.specs.declared.markup.Place.{Place}
use Rattle.dav_markup.specs.declared.markup.Place.TheVariants.{First, Before, Inside as InsidePlace, Behind}
use Rattle.dav_markup.specs.declared.reference.Reference.{Reference}
use Rattle.dav_markup.specs.declared.reference.Reference.TheVariants.{Start}
use Rattle.dav_markup.specs.declared.scope.Open.{Open}
use Rattle.dav_xml.specs.declared.position.Position.{Position}
use Rattle.dav_xml.specs.Moves.{Leads}
use Rattle.dav_xml.specs.Stands.{Stands, Inside, Placed, IsFront, stack_of, opened_by}
use Rattle.dav_xml.proofs.StackLemmas.{stack_none, stack_more}

pub leads : (next : Position) (os : List machine.Open) (e : List Event) (st old new : State) (b : ℕ) → st ≡ old → step old b ≡ To new e → Stands next os new → Leads next os e st b
leads next os e st old new b h g k = record { state = new; is = ap (λ s. step s b) h ∙ g; stands = k }

abbrev pub placed_inside : (os : List machine.Open) → Inside os → Placed InsidePlace os
placed_inside os i = record { element = i.element; around = i.around; split = i.split }

abbrev pub inside_placed : (os : List machine.Open) → Placed InsidePlace os → Inside os
inside_placed os i = record { element = i.element; around = i.around; split = i.split }

abbrev pub placed_behind : Placed Behind []
placed_behind = record { element = record { name = Plain []; scope = [] }; around = []; split = refl }

inside_by : (opens : List Open) (os : List machine.Open) → stack_of opens ≡ os → (opens ≡ [] → ⊥) → Inside os
inside_by opens [] h n = absurd (n (stack_none opens h))
inside_by opens (o ∷ os) h n = record { element = o; around = os; split = refl }

-- where an element is open
pub inside_of : (opens : List Open) → (opens ≡ [] → ⊥) → Inside (stack_of opens)
inside_of opens n = inside_by opens (stack_of opens) refl n

pub open_by : (opens : List Open) (x : Bool) → x ≡ (length opens == 0) → x ≡ false → opens ≡ [] → ⊥
open_by opens x h g e = let k : true ≡ false = ap (λ (z : List Open). length z == 0) (sym e) ∙ sym h ∙ g in cc

pub front_start : IsFront Start []
front_start = record { means = λ t. refl; may = λ t. refl }

pub front_more : (old new : Reference) (text : List ℕ) (b : ℕ) → GoesOn old b new → IsFront old text → IsFront new (text ++ (b ∷ []))
front_more old new text b g f = record {
  means = λ t. sym (g.means t) ∙ f.means (b ∷ t) ∙ ap stands_for (sym (append_assoc text (b ∷ []) t));
  may = λ t. sym (g.may t) ∙ f.may (b ∷ t) ∙ ap may_stand (sym (append_assoc text (b ∷ []) t));
}

-- a reference that goes on, and one that a byte ends
pub goes_unended : (old new : Reference) (text : List ℕ) (b : ℕ) → GoesOn old b new → IsFront old text → stands_for (text ++ (b ∷ [])) ≡ None
goes_unended old new text b g f = sym (f.means (b ∷ [])) ∙ g.unended

pub goes_front : (old new : Reference) (text : List ℕ) (b : ℕ) → GoesOn old b new → IsFront old text → may_stand (text ++ (b ∷ [])) ≡ true
goes_front old new text b g f = sym (f.may (b ∷ [])) ∙ g.front

pub reference_goes : (o : machine.Open) (os : List machine.Open) (old new : Reference) (text : List ℕ) (b : ℕ) → GoesOn old b new → IsFront old text
    → step (machine.InReference o os text) b ≡ To (machine.InReference o os (text ++ (b ∷ []))) []
reference_goes o os old new text b g f =
    ap (reference_step o os (text ++ (b ∷ []))) (goes_unended old new text b g f)
    ∙ ap (λ z. on z (To (machine.InReference o os (text ++ (b ∷ []))) []) machine.Bad) (goes_front old new text b g f)

pub if_ok : {A E : Type 0} (P Q : A → Type 0) (r : Result A E) → ((x : A) → P x → Q x) → IfOk r P → IfOk r Q
if_ok P Q (Ok x) f h = f x h
if_ok P Q (Err e) f h = tt

-- the same elements, where the place is known
abbrev pub inside_at : (p : Place) (os : List machine.Open) → p ≡ InsidePlace → Placed p os → Inside os
inside_at p os e i = record { element = i.element; around = i.around; split = i.split ∙ ap (λ q. opens_in q i.element i.around) e }

pub none_at : (p : Place) (os : List machine.Open) → p ≡ First → Placed p os → os ≡ []
none_at p os e i = i.split ∙ ap (λ q. opens_in q i.element i.around) e

abbrev pub placed_first : (os : List machine.Open) → os ≡ [] → Placed First os
placed_first os e = record { element = record { name = Plain []; scope = [] }; around = []; split = e }

abbrev pub placed_before : (os : List machine.Open) → os ≡ [] → Placed Before os
placed_before os e = record { element = record { name = Plain []; scope = [] }; around = []; split = e }

-- the innermost element is the last
pub last_open : (all front : List Open) (o : Open) (i : Inside (stack_of all)) → all ≡ front ++ (o ∷ []) → i.element.name ≡ name_in o.name
last_open all front o i e =
    let k : i.element ∷ i.around ≡ opened_by (stack_of front) o = sym i.split ∙ ap stack_of e ∙ stack_more front o in
    let h : i.element ≡ record { name = name_in o.name; scope = bindings_in o.bindings.items ++ scope_of (stack_of front) } = cc in
    ap (λ z. z.name) h

-- behind no byte of the name of an end tag, one more, and all
pub end_begins : (o : machine.Open) (os : List machine.Open) → end_at o os 0 ≡ end_next o os [] (written o.name)
end_begins o os = refl

pub end_goes : (o : machine.Open) (os : List machine.Open) (came b : ℕ) (x : Bool) → x ≡ true → step (end_at o os came) b ≡ name_in_end o os came x → step (end_at o os came) b ≡ To (end_at o os (came + 1)) []
end_goes o os came b x e h = h ∙ ap (λ z. name_in_end o os came z) e

pub end_over : (o : machine.Open) (os : List machine.Open) (came : ℕ) → length (written o.name) ≤ came → end_at o os came ≡ machine.EndBlanks o os []
end_over o os came h = ap (end_next o os (take came (written o.name))) (drop_all came (written o.name) h)
