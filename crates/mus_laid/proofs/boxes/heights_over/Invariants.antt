use Rattle.std.proofs.Common.{◌≡◌, drop}
use Rattle.mus_laid.specs.Boxes.{over_marks}
use Rattle.mus_laid.proofs.boxes.heights_over.Given as goal

abbrev pub invariant-loop-laid : goal.invariant-loop-laid
invariant-loop-laid l = over_marks l.range (drop l.laid-index l.marks) ≡ over_marks l.fn.range l.marks
