use Rattle.std.proofs.Common.{ap, ◌∙◌, ◌-◌, ◌+◌, get_or}
use Rattle.dav_walk.specs.Props.{context_after}
use Rattle.dav_walk.specs.View.{item_of, items_of}
use Rattle.dav_walk.proofs.PassLemmas.{gives_prop, rest_is}
use Rattle.dav_walk.proofs.props.Props.pass.Goals as goal

pub returns-in-Prop-clause-gives : goal.returns-in-Prop-clause-gives
returns-in-Prop-clause-gives c =
    let self = c.args.self.now in
    let n = get_or self.nodes.now self.at (record { depth = 0; ns = record { at = 0; len = 0 }; name = record { at = 0; len = 0 }; text = record { at = 0; len = 0 } }) in
    gives_prop self.nodes.now self.text.now self.depth self.at c.in-Prop.status self.context c.context_after-self.result _
    c.requires c.if-node-self.false c.in-Prop.is c.if-level-eq3.true
    (c.context_after-self.ensures ∙ ap (λ ns. context_after (n.depth - self.depth) (item_of self.text.now n) (items_of ns self.text.now) self.context) (rest_is self.nodes.now (self.at + 1)))
