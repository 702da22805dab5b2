use Rattle.std.proofs.Common.{◌≡◌, ◌+◌, drop}
use Rattle.mus_stems.specs.{Runs.run_more, Slope.shares_beam}
use Rattle.mus_stems.proofs.slopes.more_in_beam.Given as goal

abbrev pub invariant-loop-a : goal.invariant-loop-a
invariant-loop-a l = record {
  count : l.n ≡ l.a-index;
  rest : l.a-index + run_more shares_beam l.last (drop l.a-index l.others) ≡ run_more shares_beam l.first l.others;
}
