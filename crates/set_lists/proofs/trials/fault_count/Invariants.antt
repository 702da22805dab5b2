use Rattle.std.proofs.Common.{◌≡◌, ◌≤◌, take}
use Rattle.set_lists.specs.Trials.{fault_count}
use Rattle.set_lists.proofs.trials.fault_count.Given as goal

abbrev pub invariant-loop-outcome : goal.invariant-loop-outcome
invariant-loop-outcome l =
    record { count : l.count ≡ fault_count (take l.outcome-index l.outcomes); within : l.count ≤ l.outcome-index }
