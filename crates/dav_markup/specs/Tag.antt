-- What an attribute does by its name.
use Rattle.std.specs.Prelude.{◌≡◌, Some, None}
use Rattle.dav_doc.specs.Names.{Name, declares, prefix_of}
use Rattle.dav_markup.specs.declared.tag.Role.{Role}
use Rattle.dav_markup.specs.declared.tag.Role.TheVariants.{Declares, Uses}

abbrev pub Plays : Name → Role → Type 0
Plays n (Declares p) = declares n ≡ Some p
Plays n (Uses p) = (declares n ≡ None) × (p ≡ prefix_of n)
