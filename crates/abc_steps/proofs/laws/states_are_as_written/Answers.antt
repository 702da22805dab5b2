use Rattle.abc_steps.proofs.Written.{as_written}
use Rattle.abc_steps.proofs.laws.states_are_as_written.Goals as goal

pub returns : goal.returns
returns c = as_written
