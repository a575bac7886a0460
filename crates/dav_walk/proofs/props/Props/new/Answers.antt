use Rattle.std.proofs.Common.{sym, ◌∙◌}
use Rattle.dav_walk.proofs.PassLemmas.{all_props}
use Rattle.dav_walk.proofs.props.Props.new.Goals as goal

pub returns-in-Some : goal.returns-in-Some
returns-in-Some c =
    c.from-in-Some.ensures
    ∙ all_props c.args.nodes.now c.args.text.now c.in-Some.own.now c.in-Some.field-0-1.now c.in-Some.ensures.cases.0 (sym c.is_response.ensures ∙ c.if-not-is_response.false)
