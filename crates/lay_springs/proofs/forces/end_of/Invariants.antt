use Rattle.lay_springs.specs.Fit.{IsEndOf}
use Rattle.lay_springs.proofs.forces.end_of.Given as goal

abbrev pub invariant-loop-lane : goal.invariant-loop-lane
invariant-loop-lane g l = IsEndOf (g.C.Spaced.reach_of l.col) l.lane l.at l.end
