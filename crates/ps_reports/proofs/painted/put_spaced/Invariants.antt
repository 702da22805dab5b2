use Rattle.std.proofs.Common.{◌≡◌, ◌++◌, take}
use Rattle.ps_reports.specs.PaintText.{spaced}
use Rattle.ps_reports.proofs.painted.put_spaced.Given as goal

abbrev pub invariant-loop-number : goal.invariant-loop-number
invariant-loop-number l = l.out ≡ l.fn.out ++ spaced (take l.number-index l.numbers)
