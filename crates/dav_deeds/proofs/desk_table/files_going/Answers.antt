use Rattle.std.proofs.Common.{ℕ, List, [], ◌∷◌, ◌++◌, take, Option, sym, ◌∙◌, ap, append-nil}
use Rattle.std.specs.Option.{option_to_list}
use Rattle.dav_deeds.specs.Effects.{files_of, going, grounded}
use Rattle.dav_deeds.proofs.Making.{going_more}
use Rattle.dav_deeds.proofs.desk_table.files_going.Goals as goal

pub loop-held-preserved-in_default : goal.loop-held-preserved-in_default
loop-held-preserved-in_default c =
    c.loop-held.invariant
    ∙ sym (append-nil (grounded c.args.job.now (files_of (going c.args.path.now c.args.below (take c.loop-held.held-index c.as_slice-held-items.result.now)))))
    ∙ ap (λ (o : Option ℕ). grounded c.args.job.now (files_of (going c.args.path.now c.args.below (take c.loop-held.held-index c.as_slice-held-items.result.now))) ++ option_to_list o) (sym c.in_default.is ∙ c.file_going.ensures)
    ∙ sym (going_more c.args.job.now c.args.path.now c.args.below c.as_slice-held-items.result.now c.loop-held.held-index c.held-item.result c.loop-held-test.true c.held-item.is)

pub loop-held-preserved : goal.loop-held-preserved
loop-held-preserved c =
    c.in_ok-push.ensures.items
    ∙ ap (λ (l : List ℕ). l ++ c.in-Some.file ∷ []) c.loop-held.invariant
    ∙ ap (λ (o : Option ℕ). grounded c.args.job.now (files_of (going c.args.path.now c.args.below (take c.loop-held.held-index c.as_slice-held-items.result.now))) ++ option_to_list o) (sym c.in-Some.is ∙ c.file_going.ensures)
    ∙ sym (going_more c.args.job.now c.args.path.now c.args.below c.as_slice-held-items.result.now c.loop-held.held-index c.held-item.result c.loop-held-test.true c.held-item.is)
