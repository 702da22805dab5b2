use Rattle.std.proofs.Common.{◌≡◌, ◌++◌, ◌-◌}
use Rattle.mus_bridges.specs.Beams.{levels_from}
use Rattle.mus_bridges.proofs.stems.put_levels.Given as goal

abbrev pub invariant-loop-k : goal.invariant-loop-k
invariant-loop-k l =
    l.out ++ levels_from l.k (l.flags - l.k) l.p l.following
    ≡ l.fn.out ++ levels_from l.level (l.flags - l.level) l.p l.following
