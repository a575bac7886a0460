-- Where a document may be over.
use Rattle.std.specs.Prelude.{Bool, true, false, ◌&&◌, ◌==◌, length}
use Rattle.dav_markup.specs.declared.character.Owed.{Owed}
use Rattle.dav_markup.specs.declared.character.Owed.TheVariants.{Whole}
use Rattle.dav_markup.specs.declared.section.Brackets.TheVariants.{Zero}
use Rattle.dav_xml.specs.declared.scan.Scan.{Scan}
use Rattle.dav_xml.specs.declared.position.Position.{Position}
use Rattle.dav_xml.specs.declared.position.Position.TheVariants.{Text}

abbrev pub is_outside : Position → Bool
is_outside (Text Zero) = true
is_outside position = false

abbrev pub is_whole : Owed → Bool
is_whole Whole = true
is_whole owed = false

-- behind whole characters, behind the root, outside of markup
abbrev pub is_over : Scan → Bool
is_over scan = is_whole scan.owed && (length scan.opens.items == 0) && is_outside scan.position
