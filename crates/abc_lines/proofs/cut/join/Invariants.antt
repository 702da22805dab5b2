use Rattle.std.proofs.Common.{◌≡◌, ◌++◌, length}
use Rattle.abc_lines.specs.{Books.joined, Lines.readings}
use Rattle.abc_lines.proofs.cut.join.Given as goal

abbrev pub invariant-lines : goal.invariant-lines
invariant-lines l = l.out ++ joined (readings l.ahead) ≡ l.fn.out ++ joined (readings l.bytes)

abbrev pub decreases-lines : goal.decreases-lines
decreases-lines l = length l.ahead
