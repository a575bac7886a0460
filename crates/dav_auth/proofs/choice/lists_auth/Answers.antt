use Rattle.std.proofs.Common.{rules, ◌∙◌, ap, ◌==◌}
use Rattle.std.specs.List.{list_any, slice_split}
use Rattle.std.proofs.lemmas.Iterator.Search.{any_from_yields_List}
use Rattle.std.proofs.lemmas.Iterator.Splits.{YieldsList-from_slice_split}
use Rattle.dav_auth.specs.Chosen.{is_auth}
use Rattle.dav_auth.proofs.choice.lists_auth.Goals as goal

pub returns : goal.returns
returns c =
    any_from_yields_List is_auth _ _ c.any.result c.any.ensures.ran
    (YieldsList-from_slice_split _ (λ b. b == 44) c.as_slice.result.now c.split.ensures.rest c.split.ensures.done c.split.ensures.closure
    (λ x b q called. search rules))
    (λ x b q called. search rules)
    ∙ ap (λ v. list_any is_auth (slice_split (λ b. b == 44) v)) c.as_slice.ensures
