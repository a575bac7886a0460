use Rattle.dav_deeds.proofs.AllRows.{after_sound, steps_sound}
use Rattle.dav_deeds.proofs.laws.deeds_keep_bounds.Goals as goal

pub returns-clause-deed : goal.returns-clause-deed
returns-clause-deed c = λ t now deed sound is. after_sound t sound now deed is

pub returns-clause-steps : goal.returns-clause-steps
returns-clause-steps c = λ t steps sound legal. steps_sound t steps sound legal
