use Rattle.std.proofs.Common.{◌≡◌, ◌++◌, drop}
use Rattle.mus_units.specs.Good.{IsGoodKey}
use Rattle.mus_score.specs.GoodScore.{AreInReach, events_of}
use Rattle.mus_drawn.specs.Drawn.{drawn_measures}
use Rattle.mus_drawn.specs.Good.{AllCanDraw, AreGoodMeasures}
use Rattle.mus_drawn.proofs.drawing.draw_measures.Given as goal

abbrev pub invariant-loop-m : goal.invariant-loop-m
invariant-loop-m l = record {
  measures : l.out ++ drawn_measures l.style l.now (drop l.m-index l.measures)
      ≡ drawn_measures l.style l.fn.now l.measures;
  good : AreGoodMeasures l.out;
  key : IsGoodKey l.now.key;
  reach : AreInReach l.now.clef (events_of (drop l.m-index l.measures));
  events : AllCanDraw (events_of (drop l.m-index l.measures));
}
