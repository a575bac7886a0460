use Rattle.std.proofs.Common.{sym, ap, subst, ◌∙◌, rules}
use Rattle.std.specs.Prelude.{filter, not}
use Rattle.std.proofs.lemmas.Fn.{filter_same}
use Rattle.dav_index.specs.Item.{Item}
use Rattle.dav_index.specs.Items.{IsMap, without_entry, goes_with}
use Rattle.dav_index.proofs.ItemLemmas.{IsMap-filter}
use Rattle.dav_index.proofs.entries.Entries.forget.Goals as goal

pub invariant_of-self : goal.invariant_of-self
invariant_of-self c =
    let test = λ (item : Item). not (goes_with c.args.path.now c.args.below item) in
    subst IsMap (sym (filter_same _ test _ (λ x b q k. search rules) c.self.inside.items.items c.retain.new.self.items c.retain.ensures.filtered)) (IsMap-filter test c.self.inside.items.items c.self.invariant)

pub returns : goal.returns
unfolding without_entry
returns c =
    let test = λ (item : Item). not (goes_with c.args.path.now c.args.below item) in
    filter_same _ test _ (λ x b q k. search rules) c.self.inside.items.items c.retain.new.self.items c.retain.ensures.filtered ∙ ap (filter test) c.self.view_is
