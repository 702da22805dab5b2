use Rattle.std.proofs.Common.{◌≡◌, ◌+◌, drop}
use Rattle.mus_stems.specs.{Beams.is_joined, Runs.run_more}
use Rattle.mus_stems.proofs.beams.more_in_run.Given as goal

abbrev pub invariant-loop-e : goal.invariant-loop-e
invariant-loop-e l = record {
  count : l.n ≡ l.e-index;
  rest : l.e-index + run_more is_joined l.last (drop l.e-index l.es) ≡ run_more is_joined l.d l.es;
}
