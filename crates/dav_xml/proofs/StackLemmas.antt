-- The open elements of the code as those of the machine.
use Rattle.std.proofs.Common.{◌≡◌, ◌+◌, List, [], ◌∷◌, ◌++◌, length, fold, refl, ap, sym, ◌∙◌, arith}
use Rattle.std.proofs.lemmas.List.Sums.{fold-append}
use Rattle.dav_doc.specs.Machine as machine
use Rattle.dav_doc.specs.Machine.{scope_of}
use Rattle.dav_markup.specs.Scope.{below, scope_in}
use Rattle.dav_markup.specs.declared.scope.Open.{Open}
use Rattle.dav_xml.specs.Stands.{opened_by, stack_of}

scope_from : (os : List machine.Open) (opens : List Open) → scope_of (fold opened_by os opens) ≡ fold below (scope_of os) opens
scope_from os [] = refl
scope_from os (o ∷ opens) = scope_from (opened_by os o) opens

pub stack_scope : (opens : List Open) → scope_of (stack_of opens) ≡ scope_in opens
stack_scope opens = scope_from [] opens

length_from : (os : List machine.Open) (opens : List Open) → length (fold opened_by os opens) ≡ length os + length opens
length_from os [] = omega arith
length_from os (o ∷ opens) = length_from (opened_by os o) opens ∙ (let e : length (opened_by os o) + length opens ≡ length os + length (o ∷ opens) = omega arith in e)

pub stack_length : (opens : List Open) → length (stack_of opens) ≡ length opens
stack_length opens = length_from [] opens ∙ (let e : length {A = machine.Open} [] + length opens ≡ length opens = omega arith in e)

pub stack_more : (opens : List Open) (o : Open) → stack_of (opens ++ (o ∷ [])) ≡ opened_by (stack_of opens) o
stack_more opens o = fold-append opened_by [] opens (o ∷ [])

pub stack_none : (opens : List Open) → stack_of opens ≡ [] → opens ≡ []
stack_none [] h = refl
stack_none (o ∷ opens) h = let e : length (o ∷ opens) ≡ 0 = sym (stack_length (o ∷ opens)) ∙ ap length h in absurd (omega arith)
