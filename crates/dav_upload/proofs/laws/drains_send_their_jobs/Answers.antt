use Rattle.dav_upload.proofs.DrainLaws.{drain_table, drain_backed, drain_connects}
use Rattle.dav_upload.proofs.laws.drains_send_their_jobs.Goals as goal

pub returns-clause-table : goal.returns-clause-table
returns-clause-table c = drain_table

pub returns-clause-backed : goal.returns-clause-backed
returns-clause-backed c = drain_backed

pub returns-clause-connections : goal.returns-clause-connections
returns-clause-connections c = drain_connects
