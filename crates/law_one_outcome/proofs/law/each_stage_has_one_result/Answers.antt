use Rattle.law_one_outcome.proofs.Each.{each_stage}
use Rattle.law_one_outcome.proofs.law.each_stage_has_one_result.Goals as goal

pub returns : goal.returns
returns c = each_stage
