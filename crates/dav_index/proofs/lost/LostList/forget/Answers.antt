use Rattle.std.proofs.Common.{sym, ap, subst, ◌∙◌, rules}
use Rattle.std.specs.Prelude.{filter, not, nat_eq}
use Rattle.std.proofs.lemmas.Fn.{filter_same}
use Rattle.dav_index.specs.Items.{Every}
use Rattle.dav_index.specs.Records.{IsBare}
use Rattle.dav_index.specs.Tables.{without_number}
use Rattle.dav_index.specs.declared.lost.LostItem.{LostItem}
use Rattle.dav_index.proofs.ItemLemmas.{every_filter}
use Rattle.dav_index.proofs.lost.LostList.forget.Goals as goal

pub invariant_of-self : goal.invariant_of-self
invariant_of-self c =
    let test = λ (item : LostItem). not (nat_eq item.number c.args.number) in
    subst (Every (λ (item : LostItem). IsBare item.path)) (sym (filter_same _ test _ (λ x b q k. search rules) c.self.inside.items.items c.retain.new.self.items c.retain.ensures.filtered))
    (every_filter (λ (item : LostItem). IsBare item.path) test c.self.inside.items.items c.self.invariant)

pub returns : goal.returns
unfolding without_number
returns c =
    let test = λ (item : LostItem). not (nat_eq item.number c.args.number) in
    filter_same _ test _ (λ x b q k. search rules) c.self.inside.items.items c.retain.new.self.items c.retain.ensures.filtered ∙ ap (filter test) c.self.view_is
