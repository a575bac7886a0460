use Rattle.std.proofs.Common.{rules}
use Rattle.dav_index.specs.Records.{four_bytes}
use Rattle.dav_index.proofs.write.append_number.Goals as goal

pub returns-clause-ok : goal.returns-clause-ok
unfolding four_bytes
returns-clause-ok c = search rules
