use Rattle.std.proofs.Common.{◌≡◌, length}
use Rattle.dav_doc.specs.Names.{lookup}
use Rattle.dav_markup.specs.Scope.{bindings_in}
use Rattle.dav_markup.proofs.scope.find_in.Given as goal

abbrev pub invariant-loop-first : goal.invariant-loop-first
invariant-loop-first l = lookup (bindings_in l.rest) l.prefix ≡ lookup (bindings_in l.fn.bindings) l.prefix

abbrev pub decreases-loop-first : goal.decreases-loop-first
decreases-loop-first l = length l.rest
