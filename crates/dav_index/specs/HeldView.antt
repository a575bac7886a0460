-- What contracts see of an entry with its path.
use Rattle.std.specs.Prelude.{◌≡◌}
use Rattle.dav_index.specs.Item.{Item}
use Rattle.dav_index.specs.Items.{key_of}
use Rattle.dav_index.specs.declared.entries.Held.TheInside.{Inside}

abbrev pub item_of : Inside → Item
item_of h = record { path = h.path; entry = h.entry }

-- the key is the text of the path
abbrev pub IsKeyed : Inside → Type 0
IsKeyed h = h.key ≡ key_of h.path
