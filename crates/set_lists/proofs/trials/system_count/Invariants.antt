use Rattle.std.proofs.Common.{◌≡◌, ◌≤◌, ◌*◌, ◌^◌, take}
use Rattle.set_lists.specs.Trials.{system_count}
use Rattle.set_lists.proofs.trials.system_count.Given as goal

abbrev pub invariant-loop-outcome : goal.invariant-loop-outcome
invariant-loop-outcome l = record {
  sum : l.count ≡ system_count (take l.outcome-index l.outcomes);
  within : l.count ≤ l.outcome-index * 2 ^ 64;
}
