use Rattle.std.proofs.Common.{Some, ◌∙◌, ap}
use Rattle.dav_deeds.specs.declared.answer.Told.{Told}
use Rattle.dav_deeds.proofs.desk_table.DeskTable.save.Goals as goal

pub save_for-requires : goal.save_for-requires
save_for-requires c = record { bare = λ flight is. c.requires.bare flight (c.in-Some.is ∙ ap (λ (t : Told). Some t) is) }
