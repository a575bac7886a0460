-- What contracts see of the lost bytes.
use Rattle.std.specs.Prelude.{List}
use Rattle.dav_index.specs.Items.{Every}
use Rattle.dav_index.specs.Records.{IsBare}
use Rattle.dav_index.specs.declared.lost.LostItem.{LostItem}
use Rattle.dav_index.specs.declared.lost.LostList.TheInside.{Inside}

abbrev pub lost_of : Inside → List LostItem
lost_of l = l.items.items

abbrev pub IsSound : Inside → Type 0
IsSound l = Every (λ (item : LostItem). IsBare item.path) l.items.items
