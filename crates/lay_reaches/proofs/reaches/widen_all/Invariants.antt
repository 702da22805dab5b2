use Rattle.std.proofs.Common.{◌≡◌, drop}
use Rattle.{mus_laid.specs.Boxes.{AreGoodMarks}, lay_reaches.specs.Widened.{widened_by_marks}}
use Rattle.lay_reaches.proofs.reaches.widen_all.Given as goal

abbrev pub invariant-loop-laid : goal.invariant-loop-laid
invariant-loop-laid l = record {
  good : AreGoodMarks (drop l.laid-index l.marks);
  columns : widened_by_marks l.columns l.start l.lanes (drop l.laid-index l.marks)
      ≡ widened_by_marks l.fn.columns l.start l.lanes l.marks;
}
