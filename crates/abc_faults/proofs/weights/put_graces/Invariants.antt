use Rattle.std.proofs.Common.{◌≡◌, ◌++◌, drop, map}
use Rattle.abc_faults.specs.Weights.{capped, grace_weights}
use Rattle.abc_faults.proofs.weights.put_graces.Given as goal

abbrev pub invariant-loop-s : goal.invariant-loop-s
invariant-loop-s l =
    l.out ++ map capped (grace_weights (drop l.s-index l.waits)) ≡ l.fn.out ++ map capped (grace_weights l.waits)
