-- What is owed of the end of a desk.
use Rattle.std.proofs.Common.{◌≡◌, ℕ, true, Some, refl}
use Rattle.dav_deeds.specs.declared.answer.Told.TheVariants.{Stopping}
use Rattle.dav_deeds.specs.declared.deed.Deed.TheVariants.{Stop}
use Rattle.dav_deeds.specs.declared.deed.Mark.TheVariants.{Plain}
use Rattle.dav_deeds.specs.DeskTable.{DeskTable}
use Rattle.dav_deeds.specs.Effects.{effect_of}
use Rattle.dav_deeds.proofs.Rows.{IsRow, plain_row}

pub stop_row : (t : DeskTable) (now : ℕ) → IsRow t now Stop (effect_of t now Stop)
stop_row t now = plain_row t now Stop Plain (Some Stopping) t.jobs true refl refl (λ is. refl) refl (λ path story. refl)
