use Rattle.lay_columns.proofs.Joined.{measures_join}
use Rattle.lay_columns.proofs.law.measures_join.Goals as goal

pub returns : goal.returns
returns c = measures_join
