use Rattle.dav_verbs.proofs.CleanTags.{tag_is_clean}
use Rattle.dav_verbs.proofs.condition.Precondition.field.Goals as goal

pub returns-in-IfMatch-clause-clean : goal.returns-in-IfMatch-clause-clean
returns-in-IfMatch-clause-clean c = tag_is_clean c.as_slice.result.now c.as_slice.ensures.kept
