use Rattle.lay_breaks.proofs.Unique as unique
use Rattle.lay_breaks.proofs.breaking.one_is_chosen.Goals as goal

pub returns : goal.returns
returns c = unique.one_is_chosen
