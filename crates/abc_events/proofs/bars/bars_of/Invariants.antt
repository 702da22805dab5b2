use Rattle.std.{proofs.Common.◌≡◌, specs.Prelude.map, specs.List.range_with_len}
use Rattle.abc_events.specs.Bars.{bar_of}
use Rattle.abc_events.proofs.bars.bars_of.Given as goal

abbrev pub invariant-loop-k : goal.invariant-loop-k
invariant-loop-k l = l.bars ≡ map (bar_of l.steps) (range_with_len 0 l.k)
