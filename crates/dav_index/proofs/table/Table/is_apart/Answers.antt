use Rattle.std.proofs.Common.{◌≡◌, sym, subst}
use Rattle.dav_index.specs.Tests.{is_apart}
use Rattle.dav_index.specs.declared.record.Record.{Record}
use Rattle.dav_index.proofs.table.Table.is_apart.Goals as goal

pub returns-in-Closed : goal.returns-in-Closed
returns-in-Closed c = subst (λ (r : Record). c.has_one_at_most.result ≡ is_apart r c.args.self.now) (sym c.in-Closed.is) c.has_one_at_most.ensures
