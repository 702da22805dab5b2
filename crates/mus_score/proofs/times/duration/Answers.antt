use Rattle.std.proofs.Common.{◌∙◌}
use Rattle.mus_score.proofs.{Bounds.node_total, Even.node_even}
use Rattle.mus_score.proofs.times.duration.Goals as goal

pub returns-clause-total : goal.returns-clause-total
returns-clause-total c = c.duration_in.ensures ∙ node_total c.args.m.now c.requires

pub returns-clause-even : goal.returns-clause-even
returns-clause-even c = node_even c.args.m.now c.requires
