use Rattle.std.proofs.Common.{rules, ◌∙◌, ap, ◌==◌, ◌||◌}
use Rattle.std.specs.List.{fold, slice_split}
use Rattle.std.proofs.lemmas.Iterator.Consumers.{fold_from_yields_List}
use Rattle.std.proofs.lemmas.Iterator.Splits.{YieldsList-from_slice_split}
use Rattle.dav_head.specs.Elements.{is_token}
use Rattle.dav_head.proofs.codings.found_token.Goals as goal

pub returns : goal.returns
returns c =
    fold_from_yields_List _ (λ now element. now || is_token c.args.token.now element) c.args.found c.fold.result c.fold.ensures.ran
    (YieldsList-from_slice_split _ (λ b. b == 44) c.as_bytes.result.now c.split.ensures.rest c.split.ensures.done c.split.ensures.closure
    (λ x b q called. search rules))
    (λ a x b q called. search rules)
    ∙ ap (λ v. fold (λ now element. now || is_token c.args.token.now element) c.args.found (slice_split (λ b. b == 44) v)) c.as_bytes.ensures.value
