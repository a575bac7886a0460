use Rattle.dav_run.specs.Run.{memory_end}
use Rattle.dav_run.specs.declared.ended.Status.TheVariants as status
use Rattle.dav_run.proofs.LastLines.{says}
use Rattle.dav_run.proofs.last_line.tell_memory.Goals as goal

pub returns-clause-says : goal.returns-clause-says
returns-clause-says g c = says _ _ memory_end _ status.Memory _ c.as_slice.ensures c.put_whole.ensures
