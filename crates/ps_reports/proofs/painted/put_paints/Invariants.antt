use Rattle.std.{proofs.Common.◌≡◌, proofs.Common.◌++◌, proofs.Common.take, specs.List.flat_map}
use Rattle.ps_reports.specs.PaintText.{paint_line}
use Rattle.ps_reports.proofs.painted.put_paints.Given as goal

abbrev pub invariant-loop-paint : goal.invariant-loop-paint
invariant-loop-paint l = l.out ≡ l.fn.out ++ flat_map paint_line (take l.paint-index l.paints)
