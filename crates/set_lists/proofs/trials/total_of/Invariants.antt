use Rattle.std.proofs.Common.{◌≡◌, ◌≤◌, ◌*◌, ◌^◌, take}
use Rattle.set_lists.specs.Trials.{total_of}
use Rattle.set_lists.proofs.trials.total_of.Given as goal

abbrev pub invariant-loop-outcome : goal.invariant-loop-outcome
invariant-loop-outcome l =
    record { sum : l.total ≡ total_of (take l.outcome-index l.outcomes); within : l.total ≤ l.outcome-index * 2 ^ 64 }
