use Rattle.std.proofs.Common.{set, sym, ap, subst, ◌∙◌}
use Rattle.dav_text.specs.Path.{PathParts}
use Rattle.dav_index.specs.Item.{Item}
use Rattle.dav_index.specs.Items.{IsMap}
use Rattle.dav_index.proofs.ItemLemmas.{IsMap-set}
use Rattle.dav_index.proofs.entries.Entries.write.Goals as goal

pub invariant_of-self : goal.invariant_of-self
invariant_of-self c =
    let items = c.self.inside.items.items in
    let same = ap (λ (item : Item). item.path) (c.held.view_is ∙ c.index_mut-held.ensures.value) in
    subst (λ (path : PathParts). IsMap (set items c.args.place (record { path = path; entry = c.args.entry }))) (sym same)
    (IsMap-set items c.args.place c.index_mut-held.result.now c.args.entry c.self.invariant)
