use Rattle.dav_markup.specs.Scope.{bindings_in, scope_in}
use Rattle.dav_markup.proofs.ScopeLemmas.{front_found, front_missed}
use Rattle.dav_markup.proofs.scope.find.Goals as goal

pub returns-in-Some : goal.returns-in-Some
returns-in-Some c = front_found (bindings_in c.args.own.now) (scope_in c.args.opens.now) c.args.prefix.now c.in-Some.ns.now c.in-Some.ensures

pub returns-in-None : goal.returns-in-None
returns-in-None c = front_missed (bindings_in c.args.own.now) (scope_in c.args.opens.now) c.args.prefix.now _ c.in-None.ensures c.find_below.ensures
