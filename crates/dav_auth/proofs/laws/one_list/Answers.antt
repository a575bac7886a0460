use Rattle.std.proofs.Common.{false}
use Rattle.dav_auth.proofs.ListLemmas.{one_list}
use Rattle.dav_auth.proofs.laws.one_list.Goals as goal

pub returns : goal.returns
returns c = one_list false
