use Rattle.dav_text.proofs.ReadLemmas.{first_of_parts, only_part, after_slash}
use Rattle.dav_text.proofs.reading.first_part.Goals as goal

pub returns-in-Some-clause-parts : goal.returns-in-Some-clause-parts
returns-in-Some-clause-parts c = first_of_parts c.args.text.now c.in-Some.part c.in-Some.after c.in-Some.ensures.cases

pub returns-in-None-clause-parts : goal.returns-in-None-clause-parts
returns-in-None-clause-parts c = only_part c.args.text.now c.in-None.ensures.cases

pub returns-in-Some-clause-utf8 : goal.returns-in-Some-clause-utf8
returns-in-Some-clause-utf8 c = after_slash c.args.text.now c.in-Some.part c.in-Some.after c.in-Some.ensures.cases c.utf8.text
