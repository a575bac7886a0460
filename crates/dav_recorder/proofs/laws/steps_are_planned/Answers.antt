use Rattle.dav_recorder.proofs.PlanLemmas.{step_planned, step_quiet}
use Rattle.dav_recorder.proofs.laws.steps_are_planned.Goals as goal

pub returns-clause-with_record : goal.returns-clause-with_record
returns-clause-with_record c t s r bodies fresh bytes sound legal on_record has = step_planned t s sound legal r bodies fresh bytes on_record has

pub returns-clause-quiet : goal.returns-clause-quiet
returns-clause-quiet c t s sound legal none = step_quiet t s sound legal none
