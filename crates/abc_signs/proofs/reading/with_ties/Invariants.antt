use Rattle.std.proofs.Common.{◌≡◌, ◌++◌, map, drop}
use Rattle.abc_signs.specs.Signs.{with_tie}
use Rattle.abc_signs.proofs.reading.with_ties.Given as goal

abbrev pub invariant-loop-head : goal.invariant-loop-head
invariant-loop-head l = l.tied ++ map (with_tie l.tie) (drop l.head-index l.heads) ≡ map (with_tie l.tie) l.heads
