use Rattle.lay_tune.specs.Measures.{EachFurther, EachMeasure, IsMeasure}
use Rattle.lay_tune.proofs.measures.columns_of_measures.Given as goal

abbrev pub invariant-loop-m : goal.invariant-loop-m
invariant-loop-m l =
    record {
      starts : EachMeasure (λ m. IsMeasure l.drawn.score.now m m) l.m l.starts;
      own : EachFurther l.drawn.score.now l.m l.own;
    }
