use Rattle.std.proofs.Common.{◌≡◌, List, ℕ, None, sym, ap, subst, ◌∙◌}
use Rattle.std.specs.Prelude.{insert}
use Rattle.std.specs.Ordering.{nat_cmp, is_lt}
use Rattle.std.specs.Cmp.Lexicographic.{slice_cmp}
use Rattle.dav_index.specs.Item.{Item}
use Rattle.dav_index.specs.Items.{IsMap, key_of, entry_at, with_new}
use Rattle.dav_index.specs.Places.{IsFirstOrEnd}
use Rattle.dav_index.proofs.ItemLemmas.{IsMap-with_new, inserted_at}
use Rattle.dav_index.proofs.entries.Entries.add.Goals as goal

pub invariant_of-self : goal.invariant_of-self
invariant_of-self c =
    let path = c.args.fresh.path in
    let items = c.self.inside.items.items in
    let place = c.place_before-place.result in
    let first =
    subst (λ (xs : List Item). IsFirstOrEnd (λ (item : Item). is_lt (slice_cmp nat_cmp (key_of path) (key_of item.path))) xs place) c.deref.ensures.value
    (subst (λ (k : List ℕ). IsFirstOrEnd (λ (item : Item). is_lt (slice_cmp nat_cmp k (key_of item.path))) c.deref.result.now place) c.requires.fresh.key_is c.place_before-place.ensures) in
    let new = c.in-Ok.ensures.items ∙ ap (λ (xs : List Item). insert xs place (record { path = path; entry = c.args.entry })) c.make_room.ensures.items ∙ inserted_at path c.args.entry items place first in
    subst IsMap (sym new)
    (IsMap-with_new path c.args.entry items c.requires.bare (subst (λ (xs : List Item). entry_at path xs ≡ None) (sym c.self.view_is) c.requires.absent) c.self.invariant)

pub returns : goal.returns
returns c =
    let path = c.args.fresh.path in
    let items = c.self.inside.items.items in
    let place = c.place_before-place.result in
    let first =
    subst (λ (xs : List Item). IsFirstOrEnd (λ (item : Item). is_lt (slice_cmp nat_cmp (key_of path) (key_of item.path))) xs place) c.deref.ensures.value
    (subst (λ (k : List ℕ). IsFirstOrEnd (λ (item : Item). is_lt (slice_cmp nat_cmp k (key_of item.path))) c.deref.result.now place) c.requires.fresh.key_is c.place_before-place.ensures) in
    c.in-Ok.ensures.items ∙ ap (λ (xs : List Item). insert xs place (record { path = path; entry = c.args.entry })) c.make_room.ensures.items
    ∙ inserted_at path c.args.entry items place first ∙ ap (with_new path c.args.entry) c.self.view_is
