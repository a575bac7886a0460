-- What contracts see of the entries of a table.
use Rattle.std.specs.Prelude.{List}
use Rattle.dav_index.specs.Item.{Item}
use Rattle.dav_index.specs.Items.{IsMap}
use Rattle.dav_index.specs.declared.entries.Entries.TheInside.{Inside}

abbrev pub items_of : Inside → List Item
items_of e = e.items.items

abbrev pub IsSound : Inside → Type 0
IsSound e = IsMap e.items.items
