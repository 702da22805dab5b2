use Rattle.set_lists.proofs.Reported as laws
use Rattle.set_lists.proofs.laws.lists_the_set.Goals as goal

pub returns : goal.returns
returns c = laws.lists_the_set
