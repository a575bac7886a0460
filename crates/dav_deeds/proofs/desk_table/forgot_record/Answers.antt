use Rattle.std.proofs.Common.{rules}
use Rattle.dav_deeds.proofs.Making.{none_goes, some_goes}
use Rattle.dav_deeds.proofs.desk_table.forgot_record.Goals as goal

pub returns-then-not-goes_any : goal.returns-then-not-goes_any
returns-then-not-goes_any c = none_goes c.args.path.now c.args.locks c.args.below c.args.index.now.entries (search rules)

pub returns : goal.returns
returns c = some_goes c.args.path.now c.in_ok-path.path c.args.locks c.args.below c.args.index.now.entries c.in_ok-path.ensures (search rules)
