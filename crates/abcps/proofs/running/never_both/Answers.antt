use Rattle.abcps.proofs.Once as laws
use Rattle.abcps.proofs.running.never_both.Goals as goal

pub returns : goal.returns
returns c = laws.never_both c.one_answer.ensures
