use Rattle.std.proofs.Common.{true, false, sym, ◌∙◌, subst}
use Rattle.dav_run.specs.Codes.{IsBehind}
use Rattle.dav_run.specs.Run.{SaysLeft, left_text}
use Rattle.dav_run.proofs.LastLines.{closing_behind, left_starved, left_told, says_as}
use Rattle.dav_run.proofs.last_line.tell_left.Goals as goal

pub returns-in_default-clause-says : goal.returns-in_default-clause-says
returns-in_default-clause-says g c = left_starved _ _ (left_text c.args.queued c.args.lost) c.args.faulty _ c.tell_memory.ensures.says

pub returns-in_default-clause-behind : goal.returns-in_default-clause-behind
returns-in_default-clause-behind g c = subst IsBehind (sym c.tell_memory.ensures.status) tt

pub returns-in-Ok-put_whole-clause-says : goal.returns-in-Ok-put_whole-clause-says
returns-in-Ok-put_whole-clause-says g c =
    says_as _ _ (SaysLeft (left_text c.args.queued c.args.lost) c.args.faulty) _ _ c.closing_status.ensures
    (left_told _ _ (left_text c.args.queued c.args.lost) _ c.args.faulty true (c.as_slice.ensures.value ∙ c.in-Ok.ensures) c.in-Ok-put_whole.ensures)

pub returns-in-Ok-put_whole-clause-behind : goal.returns-in-Ok-put_whole-clause-behind
returns-in-Ok-put_whole-clause-behind g c = subst IsBehind (sym c.closing_status.ensures) (closing_behind c.args.faulty)

pub returns-clause-says : goal.returns-clause-says
returns-clause-says g c = left_told _ _ (left_text c.args.queued c.args.lost) _ c.args.faulty false (c.as_slice.ensures.value ∙ c.in-Ok.ensures) c.in-Err.ensures
