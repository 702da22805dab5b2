use Rattle.abcps.proofs.Once as laws
use Rattle.abcps.proofs.running.calls_one.Goals as goal

pub returns : goal.returns
returns c = laws.calls_one c.every_tune_has_one_outcome.ensures c.one_answer.ensures
