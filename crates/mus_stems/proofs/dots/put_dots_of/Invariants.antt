use Rattle.std.proofs.Common.{◌≡◌, ◌++◌, ◌-◌}
use Rattle.mus_stems.specs.Dots.{dots_at}
use Rattle.mus_stems.proofs.dots.put_dots_of.Given as goal

abbrev pub invariant-loop-j : goal.invariant-loop-j
invariant-loop-j l = l.out ++ dots_at l.first l.dy l.j (l.n - l.j) ≡ l.fn.out ++ dots_at l.first l.dy 0 l.n
