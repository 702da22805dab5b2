use Rattle.set_lists.proofs.Reported as laws
use Rattle.set_lists.proofs.laws.outcomes_are_listable.Goals as goal

pub returns : goal.returns
returns c = laws.outcomes_are_listable
