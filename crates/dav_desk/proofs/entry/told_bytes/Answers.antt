use Rattle.std.proofs.Common.{◌≡◌, ℕ, Option, Some, sym, ◌∙◌, ap, subst}
use Rattle.std.specs.List.{Contains}
use Rattle.dav_store.specs.declared.body_id.BodyId.{BodyId}
use Rattle.dav_index.specs.Bounds.{bodies_of}
use Rattle.dav_deeds.specs.Answers.{wanted}
use Rattle.dav_deeds.specs.Legal.{table_after}
use Rattle.dav_deeds.specs.declared.answer.Told.{Told}
use Rattle.dav_recorder.specs.Opening.{IsUndamaged}
use Rattle.dav_recorder.specs.Planned.{kept_table}
use Rattle.dav_desk.proofs.entry.told_bytes.Goals as goal

same_body : (a b : BodyId) → ◌≡◌ {A = Option BodyId} (Some a) (Some b) → a ≡ b
same_body a b is = cc is

pub returns-in-Ok-clause-bytes : goal.returns-in-Ok-clause-bytes
returns-in-Ok-clause-bytes g c h body told url opening start given is there =
    let same : c.in-Some-body.body ≡ body = same_body c.in-Some-body.body body (sym c.in-Some-body.is ∙ c.body.ensures ∙ ap wanted (sym c.in-Some.is) ∙ told) in
    subst (λ (b : BodyId). Contains (bodies_of (kept_table (table_after opening c.args.recorder.now.trace.steps.items))) b → c.in-Ok.bytes ≡ given b.file) same
    (λ (named : Contains (bodies_of (kept_table (table_after opening c.args.recorder.now.trace.steps.items))) c.in-Some-body.body). c.in-Ok.ensures.bytes h url opening start given is named) there

pub returns-in-Err-clause-undamaged : goal.returns-in-Err-clause-undamaged
returns-in-Err-clause-undamaged g c h body told url opening start given is there =
    let same : c.in-Some-body.body ≡ body = same_body c.in-Some-body.body body (sym c.in-Some-body.is ∙ c.body.ensures ∙ ap wanted (sym c.in-Some.is) ∙ told) in
    subst (λ (b : BodyId). Contains (bodies_of (kept_table (table_after opening c.args.recorder.now.trace.steps.items))) b → IsUndamaged c.in-Err.fault) same
    (λ (named : Contains (bodies_of (kept_table (table_after opening c.args.recorder.now.trace.steps.items))) c.in-Some-body.body). c.in-Err.ensures.undamaged h url opening start given is named) there
