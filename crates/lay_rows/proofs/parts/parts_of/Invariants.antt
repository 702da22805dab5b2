use Rattle.std.proofs.Common.{◌≡◌, ◌≤◌}
use Rattle.lay_rows.specs.Parts.{AreBars}
use Rattle.lay_rows.proofs.parts.parts_of.Given as goal

abbrev pub invariant-loop-left : goal.invariant-loop-left
invariant-loop-left l = record {
  within : l.from ≤ l.n;
  all : l.left ≡ 0 → l.from ≡ l.n;
  bars : AreBars 0 l.from l.parts;
}

abbrev pub decreases-loop-left : goal.decreases-loop-left
decreases-loop-left l = l.left
