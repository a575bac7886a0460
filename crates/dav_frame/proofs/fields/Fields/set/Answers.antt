use Rattle.std.proofs.Common.{◌≡◌, ◌∙◌, ap, sym, subst, set, List, ℕ, IsTrue}
use Rattle.std.specs.List.{insert}
use Rattle.dav_frame.specs.Fields.{AreFields, is_clean, with_value}
use Rattle.dav_frame.proofs.FieldLemmas.{Entry, fields_with}
use Rattle.dav_frame.proofs.fields.Fields.set.Goals as goal

pub invariant_of-self : goal.invariant_of-self
invariant_of-self c =
    let P : List Entry → Type 0 = λ fields. AreFields fields in
    let Q : List ℕ → Type 0 = λ value. IsTrue (is_clean value) in
    let value = c.in_ok-value.value in
    let clean = subst Q (sym c.in_ok-value.ensures) c.requires in
    let entries = c.self.inside.entries.items in
    let is : with_value c.deref.result.now c.args.name value ≡ set c.deref.result.now c.in-Ok.i (c.args.name, value) =
    c.in-Ok.ensures.1 value in
    let same : with_value entries c.args.name value ≡ set entries c.in-Ok.i (c.args.name, value) =
    ap (λ fields. with_value fields c.args.name value) (sym c.deref.ensures.value) ∙ is
    ∙ ap (λ fields. set fields c.in-Ok.i (c.args.name, value)) c.deref.ensures.value in
    subst P same (fields_with entries c.args.name value c.self.invariant clean)

pub invariant_of-self-in-Continue-branch-2 : goal.invariant_of-self-in-Continue-branch-2
invariant_of-self-in-Continue-branch-2 c =
    let P : List Entry → Type 0 = λ fields. AreFields fields in
    let Q : List ℕ → Type 0 = λ value. IsTrue (is_clean value) in
    let value = c.in_ok-value.value in
    let clean = subst Q (sym c.in_ok-value.ensures) c.requires in
    let entries = c.self.inside.entries.items in
    let is : with_value c.deref.result.now c.args.name value ≡ insert c.deref.result.now c.in-Err.i (c.args.name, value) =
    c.in-Err.ensures.1 value in
    let same : with_value entries c.args.name value ≡ insert entries c.in-Err.i (c.args.name, value) =
    ap (λ fields. with_value fields c.args.name value) (sym c.deref.ensures.value) ∙ is
    ∙ ap (λ fields. insert fields c.in-Err.i (c.args.name, value)) c.deref.ensures.value in
    subst P (same ∙ sym c.in_ok-insert-in-Err.ensures.items) (fields_with entries c.args.name value c.self.invariant clean)
