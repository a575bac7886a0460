use Rattle.std.proofs.Common.{◌≡◌, All, sym, subst, rules}
use Rattle.dav_locks.specs.Grammar.{If}
use Rattle.dav_locks.specs.IfText.{if_text, conditions, HasToken}
use Rattle.dav_locks.proofs.IfLemmas.{derived}
use Rattle.dav_locks.proofs.conditions.if_text.Goals as goal

pub returns-clause-grammar : goal.returns-clause-grammar
returns-clause-grammar c =
    let is : c.from_vec.result ≡ if_text c.args.base.now c.args.locks.now = search rules in
    let tokens : All HasToken c.args.locks.now = subst (All HasToken) c.as_slice.ensures c.in_ok-append_conditions.ensures.tokens in
    λ some. subst (If (conditions c.args.base.now c.args.locks.now)) (sym is) (derived c.args.base.now c.args.locks.now c.host_field.ensures.plain tokens some)
