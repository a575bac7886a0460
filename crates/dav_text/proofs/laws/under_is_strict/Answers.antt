use Rattle.dav_text.proofs.RoundTrip.{longer_longer, longer_differs}
use Rattle.dav_text.proofs.laws.under_is_strict.Goals as goal

pub returns-clause-transitive : goal.returns-clause-transitive
returns-clause-transitive c = λ x y z one two. longer_longer x.segments y.segments z.segments one two

pub returns-clause-strict : goal.returns-clause-strict
returns-clause-strict c = λ x y longer same. longer_differs x.segments y.segments longer same
