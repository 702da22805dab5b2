use Rattle.std.proofs.Common.{◌-◌}
use Rattle.lay_tune.specs.Measures.{EachMeasure, IsMeasure}
use Rattle.lay_tune.proofs.measures.others_of.Given as goal

abbrev pub invariant-loop-m : goal.invariant-loop-m
invariant-loop-m l = EachMeasure (λ m. IsMeasure l.s (m - 1) m) l.m l.others
