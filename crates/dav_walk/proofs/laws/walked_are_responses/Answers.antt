use Rattle.std.proofs.Common.{◌∙◌}
use Rattle.dav_doc.specs.Document.{Element, Nil, events}
use Rattle.dav_walk.specs.Gathering.{between}
use Rattle.dav_walk.proofs.TreeLemmas.{gives_responses}
use Rattle.dav_walk.proofs.WalkLemmas.{walk_given}
use Rattle.dav_walk.proofs.laws.walked_are_responses.Goals as goal

pub returns-clause-ended : goal.returns-clause-ended
returns-clause-ended c = λ root ns name inside g e.
    (walk_given (between root 0) g (events 1 (Element ns name inside Nil)) e).1 ∙ (gives_responses root ns name inside).given

pub returns-clause-counted : goal.returns-clause-counted
returns-clause-counted c = λ root ns name inside g e.
    (walk_given (between root 0) g (events 1 (Element ns name inside Nil)) e).0 ∙ (gives_responses root ns name inside).leads
