use Rattle.std.proofs.Common.{◌+◌, sym, subst, arith}
use Rattle.lay_columns.specs.Measures.{AreFurther}
use Rattle.lay_tune.specs.Measures.{EachFurther, EachMeasure, IsMeasure}
use Rattle.lay_tune.specs.Spans.{verses_of}
use Rattle.lay_tune.proofs.Joins.{further_more, measure_more, measure_of}
use Rattle.lay_tune.proofs.measures.columns_of_measures.Goals as goal

pub loop-m-preserved : goal.loop-m-preserved
loop-m-preserved c =
    let s = c.args.drawn.now.score.now in
    let m = c.loop-m.m in
    let less = c.loop-m-test.true in
    let some = c.requires.heard (omega (arith, less)) in
    record {
      starts = subst (EachMeasure (λ k. IsMeasure s k k) (m + 1)) (sym c.in_ok-push.ensures.ok)
          (measure_more (λ k. IsMeasure s k k) m c.loop-m.starts c.in_ok-begun.begun c.loop-m.invariant.starts
          (measure_of s c.args.drawn.now.times.now m m c.args.verses.now c.in_ok-begun.begun c.args.drawn.now.good
          c.args.drawn.now.timed
          c.requires.verses some less c.in_ok-begun.ensures.columns));
      own = subst (EachFurther s (m + 1)) (sym c.in_ok-push-2.ensures.ok)
          (further_more s m c.loop-m.own c.in_ok-further.further c.loop-m.invariant.own
          (subst (λ t. AreFurther s t m (verses_of s) c.in_ok-further.further) c.args.drawn.now.timed
          (subst (λ vs. AreFurther s c.args.drawn.now.times.now m vs c.in_ok-further.further) c.requires.verses
          c.in_ok-further.ensures)));
    }
