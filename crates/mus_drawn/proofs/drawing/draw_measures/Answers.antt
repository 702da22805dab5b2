use Rattle.std.proofs.Common.{◌+◌, drop, arith, subst, sym}
use Rattle.mus_score.specs.GoodScore.{AreInReach, events_of}
use Rattle.mus_stems.proofs.RunLaws.{all_append}
use Rattle.mus_drawn.specs.Good.{AreGoodMeasures, IsGoodMeasure}
use Rattle.mus_drawn.proofs.Walks.{reach_here, can_here, measures_step}
use Rattle.mus_drawn.proofs.drawing.draw_measures.Goals as goal

pub draw_measure-requires-clause-reach : goal.draw_measure-requires-clause-reach
draw_measure-requires-clause-reach c =
    (reach_here c.loop-m.now c.args.measures.now c.loop-m.m-index c.m-item.result (omega arith) c.m-item.is
    c.loop-m.invariant.reach).0

pub draw_measure-requires-clause-events : goal.draw_measure-requires-clause-events
draw_measure-requires-clause-events c =
    (can_here c.args.measures.now c.loop-m.m-index c.m-item.result (omega arith) c.m-item.is
    c.loop-m.invariant.events).0

pub loop-m-preserved : goal.loop-m-preserved
loop-m-preserved c = record {
  measures =
      measures_step c.args.style c.loop-m.now c.args.now.now c.draw_measure.new.now c.args.measures.now c.loop-m.m-index
      c.m-item.result c.in_ok-draw_measure.field-0 c.loop-m.out c.push.new.self (omega arith) c.m-item.is
      c.in_ok-push.ensures.ok c.in_ok-draw_measure.ensures.measure c.in_ok-draw_measure.ensures.now
      c.loop-m.invariant.measures;
  good =
      subst AreGoodMeasures (sym c.in_ok-push.ensures.ok)
      (all_append IsGoodMeasure c.loop-m.out _ c.loop-m.invariant.good (c.in_ok-draw_measure.ensures.good, tt));
  key = c.in_ok-draw_measure.ensures.key;
  reach =
      subst (λ n. AreInReach n.clef (events_of (drop (c.loop-m.m-index + 1) c.args.measures.now)))
      (sym c.in_ok-draw_measure.ensures.now)
      (reach_here c.loop-m.now c.args.measures.now c.loop-m.m-index c.m-item.result (omega arith) c.m-item.is
      c.loop-m.invariant.reach).1;
  events =
      (can_here c.args.measures.now c.loop-m.m-index c.m-item.result (omega arith) c.m-item.is
      c.loop-m.invariant.events).1;
}
