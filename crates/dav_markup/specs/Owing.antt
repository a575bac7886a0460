-- What the code owes to a character is what the machine of UTF-8 owes.
use Rattle.dav_doc.specs.Characters as characters
use Rattle.dav_markup.specs.declared.character.Owed.{Owed}
use Rattle.dav_markup.specs.declared.character.Owed.TheVariants.{Whole, Owes, Special}

abbrev pub owed_in : Owed → characters.Owed
owed_in Whole = characters.Whole
owed_in (Owes low high further) = characters.Owes low high further
owed_in Special = characters.Special
