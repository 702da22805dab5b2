use Rattle.law_one_outcome.proofs.Said.{read_as_said}
use Rattle.law_one_outcome.proofs.law.lines_are_read_as_said.Goals as goal

pub returns : goal.returns
returns c = read_as_said c.states_are_as_written.ensures
