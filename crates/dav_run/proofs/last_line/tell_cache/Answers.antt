use Rattle.std.proofs.Common.{sym, ◌∙◌, subst}
use Rattle.dav_run.specs.Codes.{IsCutShort}
use Rattle.dav_run.proofs.LastLines.{cache_starved, says_cache}
use Rattle.dav_run.proofs.last_line.tell_cache.Goals as goal

pub returns-in_default-clause-says : goal.returns-in_default-clause-says
returns-in_default-clause-says g c = cache_starved _ _ c.args.fault _ c.tell_memory.ensures.says

pub returns-in_default-clause-short : goal.returns-in_default-clause-short
returns-in_default-clause-short g c = subst IsCutShort (sym c.tell_memory.ensures.status) tt

pub returns-clause-says : goal.returns-clause-says
returns-clause-says g c = says_cache _ _ _ c.args.fault _ (c.as_slice.ensures.value ∙ c.in-Ok.ensures) c.put_whole.ensures
