use Rattle.std.proofs.Common.{◌≡◌, false}
use Rattle.std.specs.List.{AllWithin}
use Rattle.dav_index.specs.Items.{has_path}
use Rattle.dav_index.proofs.entries.place_of.Given as goal

abbrev pub invariant-loop-place : goal.invariant-loop-place
invariant-loop-place l = AllWithin (λ item. has_path l.path item ≡ false) l.items 0 l.place
