use Rattle.std.{proofs.Common.{◌≡◌, ◌≤◌, ◌*◌, length, take}, specs.Prelude.sum_by}
use Rattle.abc_faults.proofs.weights.grace_count.Given as goal

abbrev pub invariant-loop-chord : goal.invariant-loop-chord
invariant-loop-chord l = record {
  count : l.count ≡ sum_by (λ chord. length chord.heads) (take l.chord-index l.body);
  within : l.count ≤ l.chord-index * 18446744073709551615;
}
