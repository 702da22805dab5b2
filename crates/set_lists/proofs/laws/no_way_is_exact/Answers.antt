use Rattle.set_lists.proofs.Exact as laws
use Rattle.set_lists.proofs.laws.no_way_is_exact.Goals as goal

pub returns : goal.returns
returns c = laws.no_way_is_exact
