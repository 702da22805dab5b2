use Rattle.law_one_outcome.proofs.Outcomes.{every_tune}
use Rattle.law_one_outcome.proofs.law.every_tune_has_one_outcome.Goals as goal

pub returns : goal.returns
returns c = every_tune c.each_stage_has_one_result.ensures c.lines_are_read_as_said.ensures
