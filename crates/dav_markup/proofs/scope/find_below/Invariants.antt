use Rattle.std.proofs.Common.{◌≡◌, length}
use Rattle.dav_doc.specs.Names.{lookup}
use Rattle.dav_markup.specs.Scope.{scope_in}
use Rattle.dav_markup.proofs.scope.find_below.Given as goal

abbrev pub invariant-loop-last : goal.invariant-loop-last
invariant-loop-last l = lookup (scope_in l.around) l.prefix ≡ lookup (scope_in l.fn.opens) l.prefix

abbrev pub decreases-loop-last : goal.decreases-loop-last
decreases-loop-last l = length l.around
