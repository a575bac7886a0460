use Rattle.std.proofs.Common.{rules}
use Rattle.dav_index.specs.Records.{eight_bytes}
use Rattle.dav_index.proofs.write.append_size.Goals as goal

pub returns-clause-ok : goal.returns-clause-ok
unfolding eight_bytes
returns-clause-ok c = search rules
