use Rattle.std.proofs.Common.{◌≡◌, ◌∙◌, Bool, true, false, List, ℕ, Some, None, refl, sym, ap, subst, inl, inr, if◌then◌else◌}
use Rattle.std.specs.Str.{is_utf8, IsUtf8}
use Rattle.std.proofs.lemmas.Bool.{cases_Bool}
use Rattle.std.proofs.lemmas.Str.{IsUtf8-from_is_utf8, is_utf8-from_IsUtf8}
use Rattle.dav_auth.proofs.info.text_in.Goals as goal

pub returns-in-Ok : goal.returns-in-Ok
returns-in-Ok c =
    let F : List ℕ → Type 0 = λ bytes. IsUtf8 bytes in
    let is : is_utf8 c.args.bytes.now ≡ true = is_utf8-from_IsUtf8 c.args.bytes.now (subst F c.as_slice.ensures c.in-Ok.ensures.cases.1) in
    rw is (ap (λ text. Some text) (c.in-Ok.ensures.cases.0 ∙ c.as_slice.ensures))

pub returns-in-Err : goal.returns-in-Err
returns-in-Err c =
    let F : List ℕ → Type 0 = λ bytes. IsUtf8 bytes in
    elim (cases_Bool (is_utf8 c.args.bytes.now)) [
      | inl is ↦ absurd (c.in-Err.ensures.cases.0 (subst F (sym c.as_slice.ensures) (IsUtf8-from_is_utf8 c.args.bytes.now is)))
      | inr other ↦ rw other refl
    ]
