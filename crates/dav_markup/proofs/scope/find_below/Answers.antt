use Rattle.std.proofs.Common.{◌∙◌}
use Rattle.dav_markup.proofs.ScopeLemmas.{last_found, last_missed}
use Rattle.dav_markup.proofs.scope.find_below.Goals as goal

pub returns-in-Some-find_in : goal.returns-in-Some-find_in
returns-in-Some-find_in c =
    last_found c.loop-last.around.now c.in-Some.others.now c.in-Some.last.now c.deref.result.now c.args.prefix.now c.in-Some-find_in.ns.now
    c.in-Some.ensures.cases.0 c.deref.ensures.value c.in-Some-find_in.ensures ∙ c.loop-last.invariant

pub loop-last-preserved : goal.loop-last-preserved
loop-last-preserved c =
    last_missed c.loop-last.around.now c.in-Some.others.now c.in-Some.last.now c.deref.result.now c.args.prefix.now c.in-Some.ensures.cases.0
    c.deref.ensures.value c.in-None.ensures ∙ c.loop-last.invariant
