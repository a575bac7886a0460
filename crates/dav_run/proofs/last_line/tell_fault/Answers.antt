use Rattle.std.proofs.Common.{sym, subst}
use Rattle.dav_run.specs.Codes.{IsCutShort}
use Rattle.dav_run.specs.Run.{disk_end}
use Rattle.dav_run.specs.declared.ended.Status.TheVariants as status
use Rattle.dav_run.proofs.LastLines.{says, says_cause}
use Rattle.dav_run.proofs.last_line.tell_fault.Goals as goal

pub returns-in-Disk-clause-says : goal.returns-in-Disk-clause-says
returns-in-Disk-clause-says g c =
    says_cause _ _ _ c.args.fault _ c.in-Disk.ensures (says _ _ disk_end _ status.Disk _ c.as_slice.ensures c.put_whole.ensures)

pub returns-in-Memory-clause-says : goal.returns-in-Memory-clause-says
returns-in-Memory-clause-says g c =
    says_cause _ _ _ c.args.fault _ c.in-Memory.ensures (c.tell_memory.ensures.says)

pub returns-in-Memory-clause-short : goal.returns-in-Memory-clause-short
returns-in-Memory-clause-short g c = subst IsCutShort (sym c.tell_memory.ensures.status) tt

pub returns-in-Cache-clause-says : goal.returns-in-Cache-clause-says
returns-in-Cache-clause-says g c =
    says_cause _ _ _ c.args.fault _ c.in-Cache.ensures (c.tell_cache.ensures.says)

pub returns-in-Cache-clause-short : goal.returns-in-Cache-clause-short
returns-in-Cache-clause-short g c = c.tell_cache.ensures.short

pub returns-in-Crowded-clause-says : goal.returns-in-Crowded-clause-says
returns-in-Crowded-clause-says g c =
    says_cause _ _ _ c.args.fault _ c.in-Crowded.ensures (c.tell_cache-in-Crowded.ensures.says)

pub returns-in-Crowded-clause-short : goal.returns-in-Crowded-clause-short
returns-in-Crowded-clause-short g c = c.tell_cache-in-Crowded.ensures.short

pub returns-in-Limit-clause-says : goal.returns-in-Limit-clause-says
returns-in-Limit-clause-says g c =
    says_cause _ _ _ c.args.fault _ c.in-Limit.ensures (c.tell_cache-in-Limit.ensures.says)

pub returns-in-Limit-clause-short : goal.returns-in-Limit-clause-short
returns-in-Limit-clause-short g c = c.tell_cache-in-Limit.ensures.short
