use Rattle.{std.proofs.Common.{drop}, mus_laid.specs.Boxes.{AreGoodMarks}}
use Rattle.setting_tests.proofs.boxes.put_boxes.Given as goal

abbrev pub invariant-loop-laid : goal.invariant-loop-laid
invariant-loop-laid l = AreGoodMarks (drop l.laid-index l.marks)
