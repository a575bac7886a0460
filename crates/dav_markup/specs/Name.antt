-- Names of the code as those of the grammar.
use Rattle.std.specs.Prelude.{◌≡◌, ℕ, Bool, true, false, [], ◌∷◌, Some, None}
use Rattle.dav_doc.specs.Bytes as bytes
use Rattle.dav_doc.specs.Names as names
use Rattle.dav_doc.specs.Machine.{name_next}
use Rattle.dav_markup.specs.declared.name.Name.{Name}
use Rattle.dav_markup.specs.declared.name.Name.TheVariants.{Plain, Qualified}
use Rattle.dav_markup.specs.declared.name.Next.{Next}
use Rattle.dav_markup.specs.declared.name.Next.TheVariants.{Longer, Ended}

abbrev pub name_in : Name → names.Name
name_in (Plain local) = names.Plain local
name_in (Qualified prefix local) = names.Qualified prefix local

-- any byte of a name goes on with it: no part is without its first byte
abbrev pub is_begun : names.Name → Bool
is_begun (names.Plain local) = true
is_begun (names.Qualified prefix []) = false
is_begun (names.Qualified prefix (b ∷ local)) = true

-- whether the name goes on with a byte
abbrev pub GoesBy : Name → ℕ → bytes.Kind → Next → Type 0
GoesBy old b k (Longer new) = name_next (name_in old) b k ≡ Some (name_in new)
GoesBy old b k (Ended same) = (name_next (name_in old) b k ≡ None) × (same ≡ old)
