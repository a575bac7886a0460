use Rattle.std.proofs.Common.{◌≡◌, false}
use Rattle.std.specs.List.{AllWithin}
use Rattle.std.specs.Ordering.{nat_cmp, is_lt}
use Rattle.std.specs.Cmp.Lexicographic.{slice_cmp}
use Rattle.dav_index.specs.Item.{Item}
use Rattle.dav_index.specs.Items.{key_of}
use Rattle.dav_index.proofs.entries.place_before.Given as goal

abbrev pub invariant-loop-place : goal.invariant-loop-place
invariant-loop-place l = AllWithin (λ (item : Item). is_lt (slice_cmp nat_cmp l.key (key_of item.path)) ≡ false) l.items 0 l.place
