use Rattle.ps_machine.proofs.OneAnswer as laws
use Rattle.ps_machine.proofs.laws.one_answer.Goals as goal

pub returns : goal.returns
returns c = laws.one_answer c.one_token.ensures
