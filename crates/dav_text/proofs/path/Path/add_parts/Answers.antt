use Rattle.dav_text.proofs.path.Path.add_parts.Goals as goal

pub first_part-requires-text-text : goal.first_part-requires-text-text
first_part-requires-text-text c = λ _. c.parts.invariant.utf8
